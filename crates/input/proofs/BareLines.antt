-- The lines of a text that is cut somewhere, without their comments.
use Rattle.std.proofs.Common.{◌≡◌, ℕ, ◌+◌, ◌<◌, ◌==◌, Bool, true, false, not, ◌&&◌, List, [], ◌∷◌, ◌++◌, length, get_or, take, drop, map, sym, refl, ap, ◌∙◌, inl, inr, eqb-true, ne_eqb, append_assoc, length-append, one-add, arith}
use Rattle.std.specs.List.{list_all, prefix_len, Contains}
use Rattle.std.proofs.lemmas.Bool.{cases_Bool, and_parts, and_from, true≢false}
use Rattle.std.proofs.lemmas.List.{append-nil, take-append-drop, drop_more}
use Rattle.std.proofs.lemmas.List.Elements.{Contains-append_left, Contains-append_right}
use Rattle.std.proofs.lemmas.List.Folds.{list_all-append, length-prefix_len}
use Rattle.std.proofs.lemmas.List.Sums.{AllPass-from_list_all}
use Rattle.lines.specs.Words.{inline, plain, onto, lines, bare}
use Rattle.input.specs.Line.{kept, bare_lines}
use Rattle.input.specs.Pending.{so_far, First}

-- a byte that ends neither a line nor what stands before its comment
abbrev pub open_byte : ℕ → Bool
open_byte b = inline b && plain b

abbrev pub front : List (List ℕ) → List ℕ
front [] = []
front (w ∷ ws) = w

abbrev pub others : List (List ℕ) → List (List ℕ)
others [] = []
others (w ∷ ws) = ws

-- the first line begins with p too
abbrev pub ontos : List ℕ → List (List ℕ) → List (List ℕ)
ontos [] ls = ls
ontos (b ∷ bs) ls = onto b (ontos bs ls)

pub opens : (l : List ℕ) → list_all kept l ≡ true → list_all open_byte l ≡ true
opens [] h = refl
opens (b ∷ bs) h =
    let k = and_parts (kept b) (list_all kept bs) h in
    let i = and_parts (inline b) (plain b && not (b == 0)) k.0 in
    and_from _ _ (and_from _ _ i.0 (and_parts (plain b) (not (b == 0)) i.1).0) (opens bs k.1)

inlines : (l : List ℕ) → list_all open_byte l ≡ true → list_all inline l ≡ true
inlines [] h = refl
inlines (b ∷ bs) h =
    let k = and_parts (open_byte b) (list_all open_byte bs) h in
    and_from _ _ (and_parts (inline b) (plain b) k.0).0 (inlines bs k.1)

lines_past : (p t : List ℕ) → list_all inline p ≡ true → lines (p ++ t) ≡ ontos p (lines t)
unfolding lines
lines_past [] t h = refl
lines_past (b ∷ bs) t h =
    let k = and_parts (inline b) (list_all inline bs) h in
    let e = k.0 in
    simp e (ap (onto b) (lines_past bs t k.1))

ontos_onto : (p w : List ℕ) (ws : List (List ℕ)) → ontos p (w ∷ ws) ≡ (p ++ w) ∷ ws
ontos_onto [] w ws = refl
ontos_onto (b ∷ bs) w ws = ap (onto b) (ontos_onto bs w ws)

ontos_some : (p : List ℕ) (ls : List (List ℕ)) → 0 < length p → ontos p ls ≡ (p ++ front ls) ∷ others ls
ontos_some [] ls h = absurd (omega arith)
ontos_some (b ∷ []) [] h = refl
ontos_some (b ∷ []) (w ∷ ws) h = refl
ontos_some (b ∷ c ∷ cs) ls h = ap (onto b) (ontos_some (c ∷ cs) ls (omega arith))

bare_past : (p w : List ℕ) → list_all open_byte p ≡ true → bare (p ++ w) ≡ p ++ bare w
bare_past [] w h = refl
bare_past (b ∷ bs) w h =
    let k = and_parts (open_byte b) (list_all open_byte bs) h in
    let e = (and_parts (inline b) (plain b) k.0).1 in
    simp (e, one-add) (ap (λ x. b ∷ x) (bare_past bs w k.1))

-- what stands before a line's end and comment is a part of the first line
first : (p t : List ℕ) → 0 < length p → list_all open_byte p ≡ true → bare_lines (p ++ t) ≡ (p ++ bare (front (lines t))) ∷ map bare (others (lines t))
first p t some h =
    ap (map bare) (lines_past p t (inlines p h) ∙ ontos_some p (lines t) some) ∙ ap (λ x. x ∷ map bare (others (lines t))) (bare_past p (front (lines t)) h)

-- with a comment behind it that ends no line it is the first line
commented : (l c t : List ℕ) → list_all open_byte l ≡ true → list_all inline c ≡ true → bare_lines ((l ++ 35 ∷ c) ++ t) ≡ l ∷ map bare (others (lines t))
commented l c t h k =
    let e : list_all inline (l ++ 35 ∷ c) ≡ true = list_all-append inline l (35 ∷ c) ∙ and_from (list_all inline l) (list_all inline (35 ∷ c)) (inlines l h) k in
    let some : 0 < length (l ++ 35 ∷ c) = omega (arith, length-append l (35 ∷ c)) in
    let w : bare ((l ++ 35 ∷ c) ++ front (lines t)) ≡ l = ap bare (append_assoc l (35 ∷ c) (front (lines t))) ∙ bare_past l (35 ∷ (c ++ front (lines t))) h ∙ append-nil l in
    ap (map bare) (lines_past (l ++ 35 ∷ c) t e ∙ ontos_some (l ++ 35 ∷ c) (lines t) some) ∙ ap (λ x. x ∷ map bare (others (lines t))) w

flat : (l c r more : List ℕ) → ((l ++ 35 ∷ []) ++ (c ++ r)) ++ more ≡ (l ++ 35 ∷ c) ++ (r ++ more)
flat l c r more =
    append_assoc (l ++ 35 ∷ []) (c ++ r) more ∙ append_assoc l (35 ∷ []) ((c ++ r) ++ more) ∙ ap (λ x. l ++ 35 ∷ x) (append_assoc c r more) ∙ sym (append_assoc l (35 ∷ c) (r ++ more))

-- the first bytes that pass a test, and what follows them
pub passes : (p : ℕ → Bool) (s : List ℕ) → list_all p (take (prefix_len p s) s) ≡ true
passes p [] = refl
passes p (b ∷ bs) = elim (cases_Bool (p b)) [ inl e ↦ simp (e, one-add) (passes p bs) | inr e ↦ simp e ]

pub stops : (p : ℕ → Bool) (s : List ℕ) → prefix_len p (drop (prefix_len p s) s) ≡ 0
stops p [] = refl
stops p (b ∷ bs) = elim (cases_Bool (p b)) [ inl e ↦ simp (e, one-add) (stops p bs) | inr e ↦ simp e ]

-- what stands before the newline behind a number sign changes nothing
pub skipped : (l s more : List ℕ) → list_all kept l ≡ true → bare_lines (((l ++ 35 ∷ []) ++ s) ++ more) ≡ bare_lines (((l ++ 35 ∷ []) ++ drop (prefix_len inline s) s) ++ more)
skipped l s more h =
    let c = take (prefix_len inline s) s in
    let r = drop (prefix_len inline s) s in
    ap (λ x. bare_lines (((l ++ 35 ∷ []) ++ x) ++ more)) (sym (take-append-drop (prefix_len inline s) s)) ∙ ap bare_lines (flat l c r more) ∙ commented l c (r ++ more) (opens l h) (passes inline s) ∙ sym (ap bare_lines (flat l [] r more) ∙ commented l [] (r ++ more) (opens l h) refl)

begins : (s : List ℕ) → prefix_len inline s ≡ 0 → 0 < length s → s ≡ 10 ∷ drop 1 s
begins [] e h = absurd (omega arith)
begins (b ∷ bs) e h =
    elim (cases_Bool (b == 10)) [
      | inl t ↦ ap (λ x. x ∷ bs) (eqb-true b 10 t)
      | inr f ↦ absurd (let z : 1 + prefix_len inline bs ≡ 0 = simp f at e in omega arith)
    ]

plain_newline : (l r more : List ℕ) → list_all open_byte l ≡ true → bare_lines ((l ++ 10 ∷ r) ++ more) ≡ l ∷ bare_lines (r ++ more)
unfolding lines
plain_newline l r more h =
    ap bare_lines (append_assoc l (10 ∷ r) more) ∙ ap (map bare) (lines_past l (10 ∷ (r ++ more)) (inlines l h) ∙ ontos_onto l [] (lines (r ++ more))) ∙ ap (λ x. x ∷ bare_lines (r ++ more)) (bare_past l [] h ∙ append-nil l)

commented_newline : (l r more : List ℕ) → list_all open_byte l ≡ true → bare_lines (((l ++ 35 ∷ []) ++ 10 ∷ r) ++ more) ≡ l ∷ bare_lines (r ++ more)
unfolding lines
commented_newline l r more h = ap bare_lines (flat l [] (10 ∷ r) more) ∙ commented l [] (10 ∷ (r ++ more)) h refl

-- a newline ends the line
pub at_newline : (b : Bool) (l s more : List ℕ) → list_all kept l ≡ true → prefix_len inline s ≡ 0 → 0 < length s → bare_lines ((so_far b l ++ s) ++ more) ≡ l ∷ bare_lines (drop 1 s ++ more)
at_newline true l s more h e some =
    ap (λ x. bare_lines ((so_far true l ++ x) ++ more)) (begins s e some) ∙ commented_newline l (drop 1 s) more (opens l h)
at_newline false l s more h e some =
    ap (λ x. bare_lines ((so_far false l ++ x) ++ more)) (begins s e some) ∙ plain_newline l (drop 1 s) more (opens l h)

-- the text's end ends it
pub at_end : (b : Bool) (l : List ℕ) → list_all kept l ≡ true → (b ≡ false → 0 < length l) → bare_lines ((so_far b l ++ []) ++ []) ≡ l ∷ []
unfolding lines
at_end true l h some = ap bare_lines (flat l [] [] []) ∙ commented l [] [] (opens l h) refl
at_end false l h some = ap bare_lines (append_assoc l [] []) ∙ first l [] (some refl) (opens l h) ∙ ap (λ x. x ∷ []) (append-nil l)

pub no_lines : bare_lines [] ≡ []
unfolding lines
no_lines = refl

pub no_nul : (l : List ℕ) → list_all kept l ≡ true → Contains l 0 → ⊥
no_nul l h c = true≢false (sym (ap kept (sym c.2) ∙ AllPass-from_list_all kept l h c.0 0 c.1))

-- a line goes on with what stands before its end and its comment
pub longer : (l s : List ℕ) → list_all kept l ≡ true → list_all kept (l ++ take (prefix_len kept s) s) ≡ true
longer l s h = list_all-append kept l (take (prefix_len kept s) s) ∙ and_from _ _ h (passes kept s)

-- behind that stands a newline, if no NUL or number sign does
pub at_stop : (r : List ℕ) → prefix_len kept r ≡ 0 → (get_or r 0 10 ≡ 0 → ⊥) → (get_or r 0 10 ≡ 35 → ⊥) → prefix_len inline r ≡ 0
at_stop [] e nul mark = refl
at_stop (b ∷ bs) e nul mark =
    elim (cases_Bool (b == 10)) [
      | inl t ↦ simp t
      | inr f ↦ absurd (let z : 1 + prefix_len kept bs ≡ 0 = simp (f, ne_eqb b 35 mark, ne_eqb b 0 nul) at e in omega arith)
    ]

-- what is wrong with a line whose beginning is l, and s follows
module _ (l s more : List ℕ) (h : list_all kept l ≡ true) where
  cut : (l ++ s) ++ more ≡ (l ++ take (prefix_len kept s) s) ++ (drop (prefix_len kept s) s ++ more)
  cut =
      let c = take (prefix_len kept s) s in
      let r = drop (prefix_len kept s) s in
      ap (λ x. (l ++ x) ++ more) (sym (take-append-drop (prefix_len kept s) s)) ∙ ap (λ x. x ++ more) (sym (append_assoc l c r)) ∙ append_assoc (l ++ c) r more

  pub too_long : 1048576 < length l + prefix_len kept s → (w : List ℕ) × First w ((l ++ s) ++ more) × (1048576 < length w)
  too_long long =
      let p = l ++ take (prefix_len kept s) s in
      let t = drop (prefix_len kept s) s ++ more in
      let size : length p ≡ length l + prefix_len kept s = length-append l (take (prefix_len kept s) s) ∙ ap (λ n. length l + n) (length-prefix_len kept s) in
      let whole : length (p ++ bare (front (lines t))) ≡ length p + length (bare (front (lines t))) = length-append p (bare (front (lines t))) in
      (p ++ bare (front (lines t)), (map bare (others (lines t)), ap bare_lines cut ∙ first p t (omega (arith, size, long)) (opens p (longer l s h))), omega (arith, size, whole, long))

  pub nul : prefix_len kept s < length s → get_or s (prefix_len kept s) 0 ≡ 0 → (w : List ℕ) × First w ((l ++ s) ++ more) × Contains w 0
  nul within zero =
      let p = l ++ take (prefix_len kept s) s in
      let q = p ++ 0 ∷ [] in
      let t = drop (prefix_len kept s + 1) s ++ more in
      let at : drop (prefix_len kept s) s ≡ 0 ∷ drop (prefix_len kept s + 1) s = drop_more s (prefix_len kept s) 0 within ∙ ap (λ x. x ∷ drop (prefix_len kept s + 1) s) zero in
      let open_q : list_all open_byte q ≡ true = list_all-append open_byte p (0 ∷ []) ∙ and_from _ _ (opens p (longer l s h)) refl in
      let e : (l ++ s) ++ more ≡ q ++ t = cut ∙ ap (λ x. p ++ (x ++ more)) at ∙ sym (append_assoc p (0 ∷ []) t) in
      let here : Contains (p ++ 0 ∷ []) 0 = Contains-append_right p (0 ∷ []) 0 (0, omega arith, refl) in
      (q ++ bare (front (lines t)), (map bare (others (lines t)), ap bare_lines e ∙ first q t (omega (arith, length-append p (0 ∷ []))) open_q), Contains-append_left q (bare (front (lines t))) 0 here)
