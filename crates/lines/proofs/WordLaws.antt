-- Laws of `words`.
use Rattle.std.proofs.Common.{◌≡◌, ℕ, suc, ◌+◌, ◌-◌, ◌<◌, ◌≤◌, min, ◌==◌, false, List, [], ◌∷◌, length, take, drop, sym, refl, ap, ◌∙◌, inl, inr, add-one, one-add, arith}
use Rattle.std.proofs.lemmas.List.{drop-drop, take_rest, drop_all, nil_from_length, length-drop, length-take}
use Rattle.std.proofs.lemmas.List.Sums.{prefix_len-le-length}
use Rattle.std.specs.List.{prefix_len}
use Rattle.std.proofs.lemmas.Bool.{cases_Bool, eqb-false}
use Rattle.lines.specs.Words.{blank, ink, onto, words, inline, lines, IsEnd}

-- blanks in front change nothing
pub words_past_blanks : (s : List ℕ) → words s ≡ words (drop (prefix_len blank s) s)
unfolding words
words_past_blanks [] = refl
words_past_blanks (b ∷ bs) =
    elim (cases_Bool (blank b)) [ inl e ↦ simp (e, one-add) (words_past_blanks bs) | inr e ↦ simp e ]

-- what stands before the first blank is the first word
pub words_at_ink : (s : List ℕ) → 0 < prefix_len ink s → words s ≡ take (prefix_len ink s) s ∷ words (drop (prefix_len ink s) s)
unfolding words
words_at_ink [] h = absurd (omega arith)
words_at_ink (b ∷ []) h = elim (cases_Bool (blank b)) [ inl e ↦ absurd (let h' : 0 < 0 = simp e at h in omega arith) | inr e ↦ simp (e, one-add) ]
words_at_ink (b ∷ c ∷ cs) h =
    elim (cases_Bool (blank b)) [
      | inl e ↦ absurd (let h' : 0 < 0 = simp e at h in omega arith)
      | inr e ↦ elim (cases_Bool (blank c)) [
        | inl f ↦ simp (e, f, one-add)
        | inr f ↦ let ih = words_at_ink (c ∷ cs) (simp (f, one-add) (omega arith)) in simp (e, f, one-add) (ap (onto b) (simp (f, one-add) at ih))
      ]
    ]

pub no_words : (s : List ℕ) → prefix_len ink (drop (prefix_len blank s) s) ≡ 0 → words s ≡ []
unfolding words
no_words [] h = refl
no_words (b ∷ bs) h =
    elim (cases_Bool (blank b)) [
      | inl e ↦ simp e (no_words bs (simp (e, one-add) at h))
      | inr e ↦ absurd (let h' : suc (prefix_len ink bs) ≡ 0 = simp (e, one-add) at h in omega arith)
    ]

pub first_word : (s : List ℕ) → 0 < prefix_len ink (drop (prefix_len blank s) s) → words s ≡ take (prefix_len ink (drop (prefix_len blank s) s)) (drop (prefix_len blank s) s) ∷ words (drop (prefix_len ink (drop (prefix_len blank s) s)) (drop (prefix_len blank s) s))
first_word s p = words_past_blanks s ∙ words_at_ink (drop (prefix_len blank s) s) p

-- a text that is not empty is its first line and the others
pub lines_first : (s : List ℕ) → 0 < length s → lines s ≡ take (prefix_len inline s) s ∷ lines (drop (suc (prefix_len inline s)) s)
unfolding lines
lines_first [] h = absurd (omega arith)
lines_first (b ∷ []) h = elim (cases_Bool (inline b)) [ inl e ↦ simp (e, one-add) | inr e ↦ simp e ]
lines_first (b ∷ c ∷ cs) h =
    elim (cases_Bool (inline b)) [
      | inl e ↦ let ih = lines_first (c ∷ cs) (omega arith) in simp (e, one-add) (ap (onto b) (simp one-add at ih))
      | inr e ↦ simp e
    ]

-- the line at the front, where a newline ends it and where the text does
module _ (s l rest : List ℕ) (some : 0 < length s) (l_is : l ≡ take (prefix_len inline s) s) (rest_is : rest ≡ drop (prefix_len inline s) s) where
  past_newline : lines s ≡ l ∷ lines (drop 1 rest)
  past_newline =
      let e : drop 1 rest ≡ drop (suc (prefix_len inline s)) s = ap (drop 1) rest_is ∙ drop-drop 1 (prefix_len inline s) s ∙ ap (λ k. drop k s) (add-one (prefix_len inline s)) in
      lines_first s some ∙ (let f : take (prefix_len inline s) s ≡ l = cc in let g : drop (suc (prefix_len inline s)) s ≡ drop 1 rest = cc in cc)

  cut_line : lines s ≡ l ∷ lines (take (length rest - 1) (drop 1 rest))
  cut_line = past_newline ∙ ap (λ x. l ∷ lines x) (sym (take_rest rest 1))

  last_line : length rest ≡ 0 → lines s ≡ l ∷ lines rest
  last_line none = past_newline ∙ ap (λ x. l ∷ lines x) (drop_all 1 rest (omega arith) ∙ sym (nil_from_length rest none))

-- what is dropped to is an end
dropped : (s t : List ℕ) (n : ℕ) → n ≤ length s → t ≡ drop n s → IsEnd t s
dropped s t n h t_is =
    let e : length t ≡ length s - n = ap length t_is ∙ length-drop n s in
    t_is ∙ ap (λ k. drop k s) (omega arith)

-- what follows the line at the front is an end, where a newline ends it and where the text does
module _ (s rest : List ℕ) (rest_is : rest ≡ drop (prefix_len inline s) s) where
  count : length rest ≡ length s - prefix_len inline s
  count = ap length rest_is ∙ length-drop (prefix_len inline s) s

  cut_end : 0 < length rest → IsEnd (take (length rest - 1) (drop 1 rest)) s
  cut_end some =
      let e : drop 1 rest ≡ drop (prefix_len inline s + 1) s = ap (drop 1) rest_is ∙ drop-drop 1 (prefix_len inline s) s in
      dropped s _ (prefix_len inline s + 1) (omega (arith, count)) (take_rest rest 1 ∙ e)

  last_end : length rest ≡ 0 → IsEnd rest s
  last_end none = dropped s rest (prefix_len inline s) (prefix_len-le-length inline s) rest_is

-- the same where the text is cut after n bytes
module _ (s l rest : List ℕ) (n : ℕ) (some : false ≡ (length s == 0)) (n_is : n ≡ prefix_len inline s) (front : l ≡ take n s) (back : rest ≡ drop n s) where
  longer : 0 < length s
  longer = let ne = eqb-false (length s) 0 (sym some) in omega (arith, ne)

  l_is : l ≡ take (prefix_len inline s) s
  l_is = front ∙ ap (λ k. take k s) n_is

  rest_is : rest ≡ drop (prefix_len inline s) s
  rest_is = back ∙ ap (λ k. drop k s) n_is

  left : length rest ≡ length s - n
  left = ap length back ∙ length-drop n s

  pub first_line : 1 ≤ length rest → (lines s ≡ l ∷ lines (take (length rest - 1) (drop 1 rest))) × (length (take (length rest - 1) (drop 1 rest)) < length s) × IsEnd (take (length rest - 1) (drop 1 rest)) s
  first_line more =
      let shorter : length (take (length rest - 1) (drop 1 rest)) ≡ min (length rest - 1) (length (drop 1 rest)) = length-take (length rest - 1) (drop 1 rest) in
      (cut_line s l rest longer l_is rest_is, omega (arith, shorter, left, longer), cut_end s rest rest_is more)

  pub only_line : length rest < 1 → (lines s ≡ l ∷ lines rest) × (length rest < length s) × IsEnd rest s
  only_line none =
      let empty : length rest ≡ 0 = omega (arith, none) in
      (last_line s l rest longer l_is rest_is empty, omega (arith, longer, empty), last_end s rest rest_is empty)

-- an end of an end
pub end_of_end : (s t u : List ℕ) → length t ≤ length s → length u ≤ length t → IsEnd t s → IsEnd u t → IsEnd u s
end_of_end s t u t_within u_within t_is u_is =
    u_is ∙ ap (drop (length t - length u)) t_is ∙ drop-drop (length t - length u) (length s - length t) s ∙ ap (λ k. drop k s) (omega arith)
