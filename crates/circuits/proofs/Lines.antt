-- What a line that is handed out makes of what a text means.
use Rattle.std.proofs.Common.{◌≡◌, ℕ, ◌+◌, ◌-◌, ◌^◌, ◌<◌, min, ◌==◌, Bool, not, ◌&&◌, true, false, cond, drop, one-add, List, [], ◌∷◌, ◌++◌, length, vec_items, Some, None, Ok, Err, Option, Result, sym, refl, ap, subst, ◌∙◌, inl, inr, ne_eqb, arith}
use Rattle.std.specs.Prelude.{nat_eq}
use Rattle.std.specs.List.{list_all, starts_with}
use Rattle.std.proofs.lemmas.Bool.{true≢false, and_parts}
use Rattle.std.proofs.lemmas.List.{append-nil}
use Rattle.std.specs.Option.{is_some, option_map}
use Rattle.fields.specs.declared.fault.Expected.{Expected}
use Rattle.fields.specs.declared.fault.Expected.TheVariants.{End as Ending}
use Rattle.lines.specs.Words.{bare, inline, plain, words}
use Rattle.input.specs.declared.text.Text.{Text}
use Rattle.input.specs.Line.{bare_lines, kept, mark, shown}
use Rattle.input.specs.declared.text.Misread.{Misread as InputMisread}
use Rattle.input.specs.Pending.{pending, number_of, Ends, Faults, HandsOut, Same}
use Rattle.input.proofs.Steps.{faults_from}
use Rattle.text.specs.declared.draft.Progress.{Progress}
use Rattle.text.specs.declared.draft.Progress.TheVariants.{More, Done}
use Rattle.text.specs.Meaning.{Drafted, IsAtFault, opened, statement}
use Rattle.text.specs.Reader.{Listed, Placed, Step, at_end, begun, by_lines, listed, placed, step, stepped, went_on}
use Rattle.text.specs.declared.listing.Listing.{Listing}
use Rattle.fields.specs.declared.fault.Fault.{Fault as LineFault}
use Rattle.circuits.specs.declared.Next.{Next}
use Rattle.circuits.specs.declared.Next.TheVariants.{Circuit, Nothing, End}
use Rattle.circuits.specs.declared.Wrong.{Wrong}
use Rattle.circuits.specs.declared.Wrong.TheVariants.{Fault, Misread}
use Rattle.circuits.specs.Coming.{AtEnd, CanFollow, Comes, Counted, Goes, LineTaken, Past, Stops, Turned, Turns, left, meant, shown_lines}

-- past the first line all are shown as they are
pub later : (n : ℕ) (ls : List (List ℕ)) → 1 < n → shown_lines n ls ≡ ls
later n [] h = refl
later n (l ∷ ls) h =
    let e : (n == 1) ≡ false = ne_eqb n 1 (λ p. absurd (omega (arith, p, h))) in
    rw e refl

-- the next number
pub counted : (k m : ℕ) → m ≡ min (k + 1) (2 ^ 64 - 1) → m < 2 ^ 64 - 1 → m ≡ k + 1
counted k m e h = omega (arith, e, h)

-- what line n, l, and the lines after it mean
pub one_line : (s : Option Listed) (n : ℕ) (l : List ℕ) (ls : List (List ℕ)) → by_lines s n (l ∷ ls) ≡ stepped (step s n (words (bare l))) n ls (λ s'. by_lines s' (n + 1) ls)
unfolding by_lines
one_line s n l ls = refl

pub no_line : (s : Option Listed) (n : ℕ) → by_lines s n [] ≡ at_end n s
unfolding by_lines
no_line s n = refl

-- a line that is handed out has no comment
bare_kept : (l : List ℕ) → list_all kept l ≡ true → bare l ≡ l
bare_kept [] h = refl
bare_kept (b ∷ bs) h =
    let k = and_parts (kept b) (list_all kept bs) h in
    let e : plain b ≡ true = (and_parts (plain b) (not (b == 0)) (and_parts (inline b) (plain b && not (b == 0)) k.0).1).0 in
    simp (e, one-add) (ap (λ x. b ∷ x) (bare_kept bs k.1))

kept_behind : (l : List ℕ) → list_all kept l ≡ true → list_all kept (drop 3 l) ≡ true
kept_behind [] h = refl
kept_behind (a ∷ []) h = refl
kept_behind (a ∷ b ∷ []) h = refl
kept_behind (a ∷ b ∷ c ∷ l) h =
    let i = and_parts (kept a) (list_all kept (b ∷ c ∷ l)) h in
    let j = and_parts (kept b) (list_all kept (c ∷ l)) i.1 in
    (and_parts (kept c) (list_all kept l) j.1).1

bare_either : (m : Bool) (l : List ℕ) → list_all kept l ≡ true → bare (cond m (drop 3 l) l) ≡ cond m (drop 3 l) l
bare_either true l h = bare_kept (drop 3 l) (kept_behind l h)
bare_either false l h = bare_kept l h

bare_shown : (t : Text) (n : ℕ) → bare (shown n (vec_items t.line)) ≡ shown n (vec_items t.line)
bare_shown t n = bare_either ((n == 1) && starts_with nat_eq (vec_items t.line) mark) (vec_items t.line) t.clean

-- of a line that was handed out
module _ (s : Option Listed) (t t' : Text) (h : HandsOut t t') (few : Counted t') where
  pub number : t'.number ≡ t.number + 1
  number = counted t.number t'.number h.counted few

  pub line_number : number_of t' ≡ t'.number
  line_number = ap (λ w. cond w t'.number (min (t'.number + 1) (2 ^ 64 - 1))) h.handed

  pub rest : (more : List ℕ) → left t' more ≡ bare_lines (pending t' ++ more)
  rest more = later (t'.number + 1) (bare_lines (pending t' ++ more)) (omega (arith, number))

  pub here : (more : List ℕ) → CanFollow t more → left t more ≡ shown t'.number (vec_items t'.line) ∷ left t' more
  here more follows =
      ap (shown_lines (t.number + 1)) (h.first more follows)
      ∙ ap (λ n. shown n (vec_items t'.line) ∷ bare_lines (pending t' ++ more)) (sym number)
      ∙ ap (λ ls. shown t'.number (vec_items t'.line) ∷ ls) (sym (rest more))

  pub meaning : (more : List ℕ) → CanFollow t more →
      meant s t more ≡ stepped (step s t'.number (words (bare (shown t'.number (vec_items t'.line))))) t'.number (left t' more) (λ s'. by_lines s' (t'.number + 1) (left t' more))
  meaning more follows =
      ap (λ n. by_lines s n (left t more)) (sym number)
      ∙ ap (by_lines s t'.number) (here more follows)
      ∙ one_line s t'.number (shown t'.number (vec_items t'.line)) (left t' more)

  module _ (o : Result Step Expected) (is : step s (number_of t') (words (shown t'.number (vec_items t'.line))) ≡ o) where
    step_is : step s t'.number (words (bare (shown t'.number (vec_items t'.line)))) ≡ o
    step_is =
        ap (λ l. step s t'.number (words l)) (bare_shown t' t'.number)
        ∙ ap (λ n. step s n (words (shown t'.number (vec_items t'.line)))) (sym line_number) ∙ is

    pub means : (more : List ℕ) → CanFollow t more → meant s t more ≡ stepped o t'.number (left t' more) (λ s'. by_lines s' (t'.number + 1) (left t' more))
    means more follows = meaning more follows ∙ ap (λ x. stepped x t'.number (left t' more) (λ s'. by_lines s' (t'.number + 1) (left t' more))) step_is

-- one line less of those that were read
pub one_less : (t t' : Text) → HandsOut t t' → length (bare_lines (pending t)) ≡ length (bare_lines (pending t')) + 1
one_less t t' h =
    let e = sym (ap bare_lines (append-nil (pending t))) ∙ h.first [] (λ _. refl) ∙ ap (λ x. vec_items t'.line ∷ bare_lines x) (append-nil (pending t')) in
    omega (arith, ap length e)

pub hand_counts : (t t' : Text) → HandsOut t t' → Counted t' → Counted t
hand_counts t t' h few = omega (arith, h.counted, few)

-- the same number and the same lines whatever follows mean the same
pub same_meaning : (s : Option Listed) (t t' : Text) (more : List ℕ) → bare_lines (pending t ++ more) ≡ bare_lines (pending t' ++ more) → t'.number ≡ t.number → meant s t more ≡ meant s t' more
same_meaning s t t' more lines_same number_same =
    ap (λ ls. by_lines s (t.number + 1) (shown_lines (t.number + 1) ls)) lines_same
    ∙ ap (λ n. by_lines s (n + 1) (shown_lines (n + 1) (bare_lines (pending t' ++ more)))) (sym number_same)

pub stays : (s : Option Listed) (t t' : Text) → Same t t' → Goes s t s t'
stays s t t' h = λ more _. same_meaning s t t' more (ap (λ x. bare_lines (x ++ more)) (sym h.pending_same)) h.number_same

-- at the text's end
module _ (s : Option Listed) (t t' : Text) (h : Ends t t') where
  pub over : (more : List ℕ) → CanFollow t more → meant s t more ≡ at_end (t.number + 1) s
  over more follows =
      let e : more ≡ [] = follows h.ended.0 in
      let none : bare_lines (pending t ++ more) ≡ [] = ap (λ x. bare_lines (pending t ++ x)) e ∙ ap bare_lines (append-nil (pending t)) ∙ h.none_left.0 in
      ap (λ ls. by_lines s (t.number + 1) (shown_lines (t.number + 1) ls)) none ∙ no_line s (t.number + 1)

  pub end_number : Counted t' → number_of t' ≡ t.number + 1
  end_number few =
      ap (λ w. cond w t'.number (min (t'.number + 1) (2 ^ 64 - 1))) h.number_same.1
      ∙ omega (arith, h.number_same.0, few)

-- after a circuit's end none is open
abbrev done_in : Result Step Expected → Option Listed
done_in (Ok s) = s.done
done_in (Err e) = None

abbrev current_in : Result Step Expected → Option Listed
current_in (Ok s) = s.current
current_in (Err e) = None

begun_closes : (r : Result (Option Drafted) Expected) (x : Listed) → done_in (begun r) ≡ Some x → current_in (begun r) ≡ None
begun_closes (Ok None) x e = refl
begun_closes (Ok (Some d)) x e = absurd (cc)
begun_closes (Err k) x e = refl

went_closes : (p : Placed) (r : Result (Progress × Drafted) Expected) (x : Listed) → done_in (went_on p r) ≡ Some x → current_in (went_on p r) ≡ None
went_closes p (Ok (More, d)) x e = absurd (cc)
went_closes p (Ok (Done, d)) x e = refl
went_closes p (Err k) x e = refl

closes : (s : Option Listed) (n : ℕ) (ws : List (List ℕ)) (x : Listed) → done_in (step s n ws) ≡ Some x → current_in (step s n ws) ≡ None
closes None n ws x e = begun_closes (opened n ws) x e
closes (Some y) n ws x e = went_closes (placed n ws y.places) (statement n y.draft ws) x e

pub done_closes : (s c : Option Listed) (n : ℕ) (ws : List (List ℕ)) (x : Listed) → step s n ws ≡ Ok (record { current = c; done = Some x }) → c ≡ None
done_closes s c n ws x e = sym (ap current_in e) ∙ closes s n ws x (ap done_in e)

-- a line was handed out, and taken with the answer r
module _ (s s' : Option Listed) (t t' : Text) (h : HandsOut t t') where
  pub line_ends : (x : Listing) → LineTaken s t' s' (Ok (Some x)) → Comes s t s' t' (Circuit x)
  line_ends x e = (done_closes s s' _ _ (listed x) e, λ few more follows. means s t t' h few _ e more follows)

  pub line_passes : LineTaken s t' s' (Ok None) → Past s t s' t'
  line_passes e = record {
    goes = λ few more follows. means s t t' h few _ e more follows;
    one_less = one_less t t' h;
  }

  at_fault : (f : LineFault) → IsAtFault (step s (number_of t') (words (shown t'.number (vec_items t'.line)))) (number_of t') f → Stops s t s' t' (Fault f)
  at_fault f (line_is, inl short) = (line_is, inl short)
  at_fault f (line_is, inr e) = (
    line_is,
    inr (λ few more follows.
        means s t t' h few _ e more follows
        ∙ ap (λ n. Err (record { line = n; expected = f.expected })) (sym (line_is ∙ line_number s t t' h few))),
  )

  pub line_faulty : (w : Wrong) → LineTaken s t' s' (Err w) → Stops s t s' t' w
  line_faulty w (f, is, e) = subst (Stops s t s' t') (sym is) (at_fault f e)

-- the text ended
module _ (s : Option Listed) (t t' : Text) (h : Ends t t') where
  pub ends_well : s ≡ None → Comes s t s t' End
  ends_well none = (h.ended.1, λ few more follows. over s t t' h more follows ∙ ap (at_end (t.number + 1)) none)

  pub ends_inside : (x : Listed) → s ≡ Some x → Stops s t s t' (Fault (record { line = number_of t'; expected = Ending }))
  ends_inside x some = (
    refl,
    inr (λ few more follows.
        over s t t' h more follows ∙ ap (at_end (t.number + 1)) some
        ∙ ap (λ n. Err (record { line = n; expected = Ending })) (sym (end_number s t t' h few))),
  )

  pub ended : (r : Result (Option Next) Wrong) → AtEnd s t' r → Turned s t s t' r
  ended (Ok n) (is, none) = subst (λ m. Turned s t s t' (Ok m)) (sym is) (ends_well none)
  ended (Err e) (is, inside) = subst (Stops s t s t') (sym is) (ends_inside inside.0 inside.1)

-- the answer r for the next line, where the text is the same after it was taken
pub turns_at : (s : Option Listed) (t : Text) (s' : Option Listed) (u t' : Text) (r : Result (Option Next) Wrong) → t' ≡ u → Turns s t s' u r → Turns s t s' t' r
turns_at s t s' u t' r e h = subst (λ v. Turns s t s' v r) (sym e) h

pub handed_turns : (s s' : Option Listed) (t t' : Text) (r : Result (Option Next) Wrong) → HandsOut t t' → Turned s t s' t' r → Turns s t s' t' r
handed_turns s s' t t' r h turned = record { turned = turned; counts = hand_counts t t' h; ended_same = h.ended_same }

pub ended_turns : (s : Option Listed) (t t' : Text) (r : Result (Option Next) Wrong) → Ends t t' → AtEnd s t' r → Turns s t s t' r
ended_turns s t t' r h e = record {
  turned = ended s t t' h r e;
  counts = λ few. omega (arith, h.number_same.0, few);
  ended_same = h.ended.1 ∙ sym h.ended.0;
}

pub misread_turns : (s : Option Listed) (t t' : Text) (e : InputMisread) → Same t t' → Faults t e → t'.whole ≡ false → Turns s t s t' (Err (Misread e))
misread_turns s t t' e h faults whole = record {
  turned = (faults_from t' t (sym h.pending_same) e faults, whole, λ few. stays s t t' h);
  counts = λ few. omega (arith, h.number_same, few);
  ended_same = h.ended_same;
}

pub inside_some : (o : Option Listing) → is_some o ≡ true → (x : Listed) × (option_map listed o ≡ Some x)
inside_some None e = absurd (true≢false (sym e))
inside_some (Some l) e = (listed l, refl)

-- what comes next after lines that are past
module _ (s : Option Listed) (t : Text) (s₁ : Option Listed) (t₁ : Text) (goes : Counted t₁ → Goes s t s₁ t₁) (ended_same : t₁.ended ≡ t.ended) where
  on : (s' : Option Listed) (t' : Text) → (Counted t' → Counted t₁) → Counted t' → (more : List ℕ) → CanFollow t more → (meant s t more ≡ meant s₁ t₁ more) × CanFollow t₁ more
  on s' t' counts few more follows = (goes (counts few) more follows, λ e. follows (sym ended_same ∙ e))

  pub comes_on : (s' : Option Listed) (t' : Text) (n : Next) → Turns s₁ t₁ s' t' (Ok (Some n)) → Comes s t s' t' n
  comes_on s' t' (Circuit x) h = (
    h.turned.0,
    λ few more follows.
        let o = on s' t' h.counts few more follows in o.0 ∙ h.turned.1 few more o.1,
  )
  comes_on s' t' Nothing h = (
    h.turned.0,
    h.turned.1,
    λ few more follows.
        let o = on s' t' h.counts few more follows in o.0 ∙ h.turned.2 few more o.1,
  )
  comes_on s' t' End h = (
    h.turned.0,
    λ few more follows.
        let o = on s' t' h.counts few more follows in o.0 ∙ h.turned.1 few more o.1,
  )
