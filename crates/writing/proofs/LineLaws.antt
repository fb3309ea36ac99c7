-- Laws of a line of words: it is read as that line, and its words are read as those words.
use Rattle.std.proofs.Common.{◌≡◌, ℕ, ◌+◌, Bool, true, false, ◌&&◌, List, [], ◌∷◌, ◌++◌, length, sym, refl, ap, ◌∙◌, inl, inr, append_assoc, one-add, arith}
use Rattle.std.specs.List.{list_all, prefix_len}
use Rattle.std.proofs.lemmas.Bool.{and_parts, cases_Bool}
use Rattle.std.proofs.lemmas.List.{take_all}
use Rattle.lines.specs.Words.{blank, ink, onto, words, inline, lines, plain, bare}
use Rattle.text.specs.Meaning.{Drafted, statement, went, inside, opened, found, first_circuit}
use Rattle.text.proofs.MeaningLaws.{one_line, one_outside}
use Rattle.writing.specs.Written.{ended, line_of}

-- a byte that may stand in a line that is read whole, and one that may stand in a word
abbrev pub whole : ℕ → Bool
whole b = inline b && plain b

abbrev pub dark : ℕ → Bool
dark b = ink b && whole b

abbrev pub Calm : List ℕ → Type 0
Calm l = list_all whole l ≡ true

-- a word: some bytes that are dark
abbrev pub is_word : List ℕ → Bool
is_word [] = false
is_word (b ∷ bs) = list_all dark (b ∷ bs)

abbrev pub IsWord : List ℕ → Type 0
IsWord w = is_word w ≡ true

abbrev pub AreWords : List (List ℕ) → Type 0
AreWords ws = list_all is_word ws ≡ true

-- words, each after a space
abbrev pub spaced : List (List ℕ) → List ℕ
spaced [] = []
spaced (w ∷ ws) = 32 ∷ (w ++ spaced ws)

dark_parts : (b : ℕ) → dark b ≡ true → (blank b ≡ false) × (whole b ≡ true)
dark_parts b h = let p = and_parts (ink b) (whole b) h in (elim (cases_Bool (blank b)) [ inl e ↦ absurd (let z : true ≡ false = sym p.0 ∙ rw e refl in cc) | inr e ↦ e ], p.1)

calm_append : (w l : List ℕ) → list_all dark w ≡ true → Calm l → Calm (w ++ l)
calm_append [] l d c = c
calm_append (b ∷ w) l d c = let p = and_parts (dark b) (list_all dark w) d in rw ((dark_parts b p.0).1, calm_append w l p.1 c) refl

all_dark : (w : List ℕ) → IsWord w → list_all dark w ≡ true
all_dark [] h = refl
all_dark (b ∷ bs) h = h

calm_spaced : (ws : List (List ℕ)) → AreWords ws → Calm (spaced ws)
calm_spaced [] h = refl
calm_spaced (w ∷ ws) h = let p = and_parts (is_word w) (list_all is_word ws) h in calm_append w (spaced ws) (all_dark w p.0) (calm_spaced ws p.1)

pub ended_is : (ws : List (List ℕ)) (more : List ℕ) → ended ws ++ more ≡ spaced ws ++ (10 ∷ more)
ended_is [] more = refl
ended_is (w ∷ ws) more = ap (λ t. 32 ∷ t) (append_assoc w (ended ws) more ∙ ap (λ t. w ++ t) (ended_is ws more) ∙ sym (append_assoc w (spaced ws) (10 ∷ more)))

lines_cut : (l more : List ℕ) → Calm l → lines (l ++ (10 ∷ more)) ≡ l ∷ lines more
unfolding lines
lines_cut [] more c = refl
lines_cut (b ∷ l) more c = let p = and_parts (whole b) (list_all whole l) c in let i = (and_parts (inline b) (plain b) p.0).0 in rw (i, lines_cut l more p.1) refl

prefix_calm : (l : List ℕ) → Calm l → prefix_len plain l ≡ length l
prefix_calm [] c = refl
prefix_calm (b ∷ l) c = let p = and_parts (whole b) (list_all whole l) c in let i = (and_parts (inline b) (plain b) p.0).1 in simp (i, prefix_calm l p.1, one-add)

pub bare_calm : (l : List ℕ) → Calm l → bare l ≡ l
bare_calm l c = take_all (prefix_len plain l) l (omega (arith, prefix_calm l c))

-- a word, and what begins with a blank
abbrev Cut : List ℕ → Type 0
Cut [] = Unit {0}
Cut (b ∷ bs) = blank b ≡ true

words_word : (w rest : List ℕ) → IsWord w → Cut rest → words (w ++ rest) ≡ w ∷ words rest
unfolding words
words_word [] rest g c = absurd (let z : false ≡ true = g in cc)
words_word (b ∷ []) [] g c = let p = dark_parts b (and_parts (dark b) true g).0 in simp p.0
words_word (b ∷ []) (r ∷ rest) g c = let p = dark_parts b (and_parts (dark b) true g).0 in simp (p.0, c)
words_word (b ∷ x ∷ w) rest g c =
    let p = and_parts (dark b) (list_all dark (x ∷ w)) g in
    let q = and_parts (dark x) (list_all dark w) p.1 in
    let e = (dark_parts b p.0).0 in
    let f = (dark_parts x q.0).0 in
    simp (e, f) (ap (onto b) (simp f at (words_word (x ∷ w) rest p.1 c)))

cut_spaced : (ws : List (List ℕ)) → Cut (spaced ws)
unfolding blank
cut_spaced [] = tt
cut_spaced (w ∷ ws) = refl

words_spaced : (ws : List (List ℕ)) → AreWords ws → words (spaced ws) ≡ ws
unfolding words blank
words_spaced [] h = refl
words_spaced (w ∷ ws) h =
    let p = and_parts (is_word w) (list_all is_word ws) h in
    words_word w (spaced ws) p.0 (cut_spaced ws) ∙ ap (λ t. w ∷ t) (words_spaced ws p.1)

-- a line of words, read
module _ (w : List ℕ) (ws : List (List ℕ)) (word : IsWord w) (are : AreWords ws) where
  pub calm_line : Calm (w ++ spaced ws)
  calm_line = calm_append w (spaced ws) (all_dark w word) (calm_spaced ws are)

  pub whole_line : (more : List ℕ) → line_of w ws ++ more ≡ (w ++ spaced ws) ++ (10 ∷ more)
  whole_line more = append_assoc w (ended ws) more ∙ ap (λ t. w ++ t) (ended_is ws more) ∙ sym (append_assoc w (spaced ws) (10 ∷ more))

  pub lines_line : (more : List ℕ) → lines (line_of w ws ++ more) ≡ (w ++ spaced ws) ∷ lines more
  lines_line more = ap lines (whole_line more) ∙ lines_cut (w ++ spaced ws) more calm_line

  pub words_line : words (bare (w ++ spaced ws)) ≡ w ∷ ws
  words_line = ap words (bare_calm (w ++ spaced ws) calm_line) ∙ words_word w (spaced ws) word (cut_spaced ws) ∙ ap (λ t. w ∷ t) (words_spaced ws are)

  pub line_inside : (n : ℕ) (d : Drafted) (more : List ℕ) → inside n d (lines (line_of w ws ++ more)) ≡ went (statement n d (w ∷ ws)) n (lines more) (λ d'. inside (n + 1) d' (lines more))
  line_inside n d more = one_line refl refl (lines_line more) refl d ∙ ap (λ x. went (statement n d x) n (lines more) (λ d'. inside (n + 1) d' (lines more))) words_line

  pub line_outside : (n : ℕ) (more : List ℕ) → first_circuit n (lines (line_of w ws ++ more)) ≡ found (opened n (w ∷ ws)) n (lines more) (first_circuit (n + 1) (lines more))
  line_outside n more = one_outside refl refl (lines_line more) refl ∙ ap (λ x. found (opened n x) n (lines more) (first_circuit (n + 1) (lines more))) words_line
