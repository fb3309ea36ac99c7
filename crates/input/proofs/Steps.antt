-- What one step of `next` makes of a text.
use Rattle.std.proofs.Common.{◌≡◌, ℕ, ◌+◌, ◌-◌, ◌^◌, ◌<◌, ◌≤◌, min, ◌==◌, ⊎_elim, true, false, cond, List, [], ◌∷◌, ◌++◌, length, get_or, take, drop, vec_items, sym, refl, ap, ◌∙◌, append_assoc, length-append, length-drop, arith}
use Rattle.std.specs.List.{list_all, prefix_len}
use Rattle.std.proofs.lemmas.List.{append-nil, take-append-drop, drop_more, drop-drop, get_or-drop, get_or_past, get_or_default}
use Rattle.std.proofs.lemmas.Bool.{cases_lt, eqb-false}
use Rattle.std.proofs.lemmas.List.Folds.{length-prefix_len}
use Rattle.lines.specs.Words.{inline}
use Rattle.input.specs.declared.text.Text.{Text}
use Rattle.input.specs.declared.text.Next.{Next}
use Rattle.input.specs.declared.text.Next.TheVariants.{Line, Nothing, End}
use Rattle.input.specs.declared.text.Misread.{Misread}
use Rattle.input.specs.declared.text.Misread.TheVariants.{Nul, TooLong, Memory}
use Rattle.input.specs.Line.{kept, bare_lines}
use Rattle.input.specs.Pending.{at_hand, so_far, pending, SameLines, HandsOut, Ends, Comes, Faults}
use Rattle.input.proofs.BareLines.{at_newline, at_end, no_lines, no_nul, skipped, stops, too_long, nul, longer, at_stop}

-- a byte that is no newline stands in a list
pub stands : (xs : List ℕ) (i b : ℕ) → get_or xs i 10 ≡ b → (b ≡ 10 → ⊥) → i < length xs
stands xs i b e other = ⊎_elim (λ lt. lt) (λ past_it. absurd (other (sym e ∙ get_or_past xs i 10 past_it))) (cases_lt i (length xs))

-- of a text whose line is not handed out
module _ (t : Text) (going : t.whole ≡ false) where
  pub not_whole : pending t ≡ so_far t.comment (vec_items t.line) ++ at_hand t
  not_whole = ap (λ w. cond w [] (so_far t.comment (vec_items t.line)) ++ at_hand t) going

  module _ (plain : t.comment ≡ false) where
    pub no_comment : pending t ≡ vec_items t.line ++ at_hand t
    no_comment = not_whole ∙ ap (λ b. so_far b (vec_items t.line) ++ at_hand t) plain

    pub is_too_long : 1048576 < length (vec_items t.line) + prefix_len kept (at_hand t) → Faults t TooLong
    is_too_long long more =
        let r = too_long (vec_items t.line) (at_hand t) more t.clean long in
        (r.0, (r.1.0, ap (λ x. bare_lines (x ++ more)) no_comment ∙ r.1.1), r.2)

    pub is_nul : get_or (vec_items t.chunk) (t.at + prefix_len kept (at_hand t)) 10 ≡ 0 → Faults t Nul
    is_nul here more =
        let n = prefix_len kept (at_hand t) in
        let lt : t.at + n < length (vec_items t.chunk) = stands (vec_items t.chunk) (t.at + n) 0 here (λ e. absurd (omega (arith, e))) in
        let within : n < length (at_hand t) = omega (arith, length-drop t.at (vec_items t.chunk)) in
        let zero : get_or (at_hand t) n 0 ≡ 0 = get_or-drop t.at (vec_items t.chunk) n 0 ∙ get_or_default (vec_items t.chunk) (t.at + n) 0 10 lt ∙ here in
        let r = nul (vec_items t.line) (at_hand t) more t.clean within zero in
        (r.0, (r.1.0, ap (λ x. bare_lines (x ++ more)) no_comment ∙ r.1.1), r.2)

  module _ (begun : t.comment ≡ true) where
    pub in_comment : pending t ≡ (vec_items t.line ++ (35 ∷ [])) ++ at_hand t
    in_comment = not_whole ∙ ap (λ b. so_far b (vec_items t.line) ++ at_hand t) begun

  -- a newline is passed, and the line is handed out
  module _ (u : Text) (handed : u.whole ≡ true) (line_same : u.line ≡ t.line) (counted : u.number ≡ min (t.number + 1) (2 ^ 64 - 1)) (ended_same : u.ended ≡ t.ended) where
    line_is : vec_items u.line ≡ vec_items t.line
    line_is = ap vec_items line_same

    pub handed_rest : pending u ≡ at_hand u
    handed_rest = ap (λ w. cond w [] (so_far u.comment (vec_items u.line)) ++ at_hand u) handed

    pub hands_line : prefix_len inline (at_hand t) ≡ 0 → 0 < length (at_hand t) → at_hand u ≡ drop 1 (at_hand t) → HandsOut t u
    hands_line stop some rest = record {
      first = λ more _. ap (λ x. bare_lines (x ++ more)) not_whole ∙ at_newline t.comment (vec_items t.line) (at_hand t) more t.clean stop some ∙ ap (λ x. vec_items t.line ∷ bare_lines (x ++ more)) (sym (handed_rest ∙ rest)) ∙ ap (λ x. x ∷ bare_lines (pending u ++ more)) (sym line_is);
      no_nul = no_nul (vec_items u.line) u.clean;
      short = u.short;
      handed = handed;
      counted = counted;
      ended_same = ended_same;
    }

    pub hands_last : t.ended ≡ true → at_hand t ≡ [] → at_hand u ≡ [] → (t.comment ≡ false → 0 < length (vec_items t.line)) → HandsOut t u
    hands_last ended none_left none some = record {
      first = λ more last.
          let m : more ≡ [] = last ended in
          let before : pending t ≡ so_far t.comment (vec_items t.line) ++ [] = not_whole ∙ ap (λ x. so_far t.comment (vec_items t.line) ++ x) none_left in
          let after : pending u ≡ [] = handed_rest ∙ none in
          ap (λ x. bare_lines (x ++ more)) before ∙ ap (λ x. bare_lines ((so_far t.comment (vec_items t.line) ++ []) ++ x)) m ∙ at_end t.comment (vec_items t.line) t.clean some ∙ ap (λ x. x ∷ []) (sym line_is) ∙ ap (λ x. vec_items u.line ∷ x) (sym (ap (λ x. bare_lines (x ++ more)) after ∙ ap bare_lines m ∙ no_lines));
      no_nul = no_nul (vec_items u.line) u.clean;
      short = u.short;
      handed = handed;
      counted = counted;
      ended_same = ended_same;
    }

-- nothing is left of a text
pub is_over : (t : Text) → t.whole ≡ false → t.comment ≡ false → vec_items t.line ≡ [] → at_hand t ≡ [] → t.ended ≡ true → Ends t t
is_over t going plain empty none ended =
    let e : pending t ≡ [] = no_comment t going plain ∙ ap (λ x. x ++ at_hand t) empty ∙ none in
    record { none_left = (ap bare_lines e ∙ no_lines, e); ended = (ended, ended); number_same = (refl, going) }

-- what is at hand past n bytes
pub past : (t : Text) (n : ℕ) → drop (t.at + n) (vec_items t.chunk) ≡ drop n (at_hand t)
past t n = sym (drop-drop n t.at (vec_items t.chunk))

-- a comment is passed
pub passes_comment : (t : Text) (n : ℕ) → t.whole ≡ false → t.comment ≡ true → n ≡ prefix_len inline (at_hand t) → SameLines (pending t) (cond t.whole [] (so_far t.comment (vec_items t.line)) ++ drop (t.at + n) (vec_items t.chunk))
passes_comment t n going begun n_is more =
    let l = vec_items t.line in
    let rest : drop (t.at + n) (vec_items t.chunk) ≡ drop (prefix_len inline (at_hand t)) (at_hand t) = past t n ∙ ap (λ k. drop k (at_hand t)) n_is in
    let after : cond t.whole [] (so_far t.comment l) ++ drop (t.at + n) (vec_items t.chunk) ≡ (l ++ (35 ∷ [])) ++ drop (prefix_len inline (at_hand t)) (at_hand t) =
    ap (λ w. cond w [] (so_far t.comment l) ++ drop (t.at + n) (vec_items t.chunk)) going ∙ ap (λ b. so_far b l ++ drop (t.at + n) (vec_items t.chunk)) begun ∙ ap (λ x. (l ++ (35 ∷ [])) ++ x) rest in
    ap (λ x. bare_lines (x ++ more)) (in_comment t going begun) ∙ skipped l (at_hand t) more t.clean ∙ ap (λ x. bare_lines (x ++ more)) (sym after)

pub stops_at_line : (t : Text) (n : ℕ) → n ≡ prefix_len inline (at_hand t) → prefix_len inline (drop (t.at + n) (vec_items t.chunk)) ≡ 0
stops_at_line t n n_is = ap (prefix_len inline) (past t n ∙ ap (λ k. drop k (at_hand t)) n_is) ∙ stops inline (at_hand t)

-- n bytes of what is at hand go to the line
module _ (t : Text) (n : ℕ) (going : t.whole ≡ false) (plain : t.comment ≡ false) (line : List ℕ) (line_is : line ≡ vec_items t.line ++ take n (at_hand t)) where
  pub moves : cond t.whole [] (so_far t.comment line) ++ drop (t.at + n) (vec_items t.chunk) ≡ pending t
  moves =
      let l = vec_items t.line in
      let r = drop (t.at + n) (vec_items t.chunk) in
      ap (λ w. cond w [] (so_far t.comment line) ++ r) going ∙ ap (λ b. so_far b line ++ r) plain ∙ ap (λ x. x ++ r) line_is ∙ append_assoc l (take n (at_hand t)) r ∙ ap (λ x. l ++ (take n (at_hand t) ++ x)) (past t n) ∙ ap (λ x. l ++ x) (take-append-drop n (at_hand t)) ∙ sym (no_comment t going plain)

  pub moves_to_comment : t.at + n < length (vec_items t.chunk) → get_or (vec_items t.chunk) (t.at + n) 10 ≡ 35 → cond t.whole [] (line ++ (35 ∷ [])) ++ drop (t.at + n + 1) (vec_items t.chunk) ≡ pending t
  moves_to_comment within mark =
      let r = drop (t.at + n + 1) (vec_items t.chunk) in
      let e : drop (t.at + n) (vec_items t.chunk) ≡ 35 ∷ r = drop_more (vec_items t.chunk) (t.at + n) 10 within ∙ ap (λ x. x ∷ r) mark in
      ap (λ w. cond w [] (line ++ (35 ∷ [])) ++ r) going ∙ append_assoc line (35 ∷ []) r ∙ ap (λ x. line ++ x) (sym e) ∙ sym (ap (λ w. cond w [] (so_far t.comment line) ++ drop (t.at + n) (vec_items t.chunk)) going ∙ ap (λ b. so_far b line ++ drop (t.at + n) (vec_items t.chunk)) plain) ∙ moves

  pub moves_to_stop : n ≡ prefix_len kept (at_hand t) → (get_or (vec_items t.chunk) (t.at + n) 10 ≡ 0 → ⊥) → (get_or (vec_items t.chunk) (t.at + n) 10 ≡ 35 → ⊥) → prefix_len inline (drop (t.at + n) (vec_items t.chunk)) ≡ 0
  moves_to_stop n_is zero mark =
      let r = drop (t.at + n) (vec_items t.chunk) in
      let first : get_or r 0 10 ≡ get_or (vec_items t.chunk) (t.at + n) 10 = get_or-drop (t.at + n) (vec_items t.chunk) 0 10 ∙ ap (λ k. get_or (vec_items t.chunk) k 10) (omega arith) in
      let none : prefix_len kept r ≡ 0 = ap (prefix_len kept) (past t n ∙ ap (λ k. drop k (at_hand t)) n_is) ∙ stops kept (at_hand t) in
      at_stop r none (λ e. zero (sym first ∙ e)) (λ e. mark (sym first ∙ e))

-- what is kept of what is at hand goes to the line
module _ (t : Text) (n : ℕ) (n_is : n ≡ prefix_len kept (at_hand t)) (line piece : List ℕ) (piece_is : piece ≡ vec_items t.chunk) (line_is : line ≡ vec_items t.line ++ take n (drop t.at piece)) where
  pub line_goes_on : line ≡ vec_items t.line ++ take n (at_hand t)
  line_goes_on = line_is ∙ ap (λ x. vec_items t.line ++ take n (drop t.at x)) piece_is

  with_kept : line ≡ vec_items t.line ++ take (prefix_len kept (at_hand t)) (at_hand t)
  with_kept = line_goes_on ∙ ap (λ k. vec_items t.line ++ take k (at_hand t)) n_is

  pub still_clean : list_all kept line ≡ true
  still_clean = ap (list_all kept) with_kept ∙ longer (vec_items t.line) (at_hand t) t.clean

  pub still_short : n + length (vec_items t.line) ≤ 1048576 → length line ≤ 1048576
  still_short fits =
      let k = prefix_len kept (at_hand t) in
      let size : length line ≡ length (vec_items t.line) + length (take k (at_hand t)) = ap length with_kept ∙ length-append (vec_items t.line) (take k (at_hand t)) in
      let count : length (take k (at_hand t)) ≡ k = length-prefix_len kept (at_hand t) in
      omega (arith, size, count, n_is, fits)

-- a step before that changes no line
pub comes_from : (t m u : Text) → SameLines (pending t) (pending m) → m.ended ≡ t.ended → m.number ≡ t.number → (n : Next) → Comes m u n → Comes t u n
comes_from t m u same ended number Line h = record {
  first = λ more last. same more ∙ h.first more (λ e. last (sym ended ∙ e));
  no_nul = h.no_nul;
  short = h.short;
  handed = h.handed;
  counted = h.counted ∙ ap (λ k. min (k + 1) (2 ^ 64 - 1)) number;
  ended_same = h.ended_same ∙ ended;
}
comes_from t m u same ended number Nothing h = record {
  lines_same = λ more. same more ∙ h.lines_same more;
  none_left = h.none_left;
  going_on = (sym ended ∙ h.going_on.0, h.going_on.1);
  number_same = (h.number_same.0 ∙ number, h.number_same.1);
}
comes_from t m u same ended number End h = record {
  none_left = (sym (ap bare_lines (append-nil (pending t))) ∙ same [] ∙ ap bare_lines (append-nil (pending m)) ∙ h.none_left.0, h.none_left.1);
  ended = (sym ended ∙ h.ended.0, h.ended.1);
  number_same = (h.number_same.0 ∙ number, h.number_same.1);
}

pub faults_from : (t m : Text) → pending m ≡ pending t → (e : Misread) → Faults m e → Faults t e
faults_from t m same Nul h = λ more.
    let r = h more in
    (r.0, (r.1.0, ap (λ x. bare_lines (x ++ more)) (sym same) ∙ r.1.1), r.2)
faults_from t m same TooLong h = λ more.
    let r = h more in
    (r.0, (r.1.0, ap (λ x. bare_lines (x ++ more)) (sym same) ∙ r.1.1), r.2)
faults_from t m same Memory h = tt

pub some_line : (t : Text) → (t.line.len == 0) ≡ false → 0 < length (vec_items t.line)
some_line t some = omega (arith, eqb-false t.line.len 0 some, t.line.ok.0)
