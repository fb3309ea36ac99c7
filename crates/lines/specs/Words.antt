-- The lines of a text, and the words of a line.
use Rattle.std.specs.Prelude.{◌≡◌, ℕ, ◌+◌, ◌-◌, ◌<◌, ◌≤◌, Bool, cond, not, ◌||◌, List, [], ◌∷◌, length, take, drop, Option, MatchOption, ◌==◌}
use Rattle.std.specs.List.{prefix_len}
use Rattle.std.specs.Borrow.{Bor}

-- a space, a tab, or a carriage return
unfoldable pub blank : ℕ → Bool
blank b = b == 32 || (b == 9 || b == 13)

abbrev pub ink : ℕ → Bool
ink b = not (blank b)

-- the first word begins with b too
abbrev pub onto : ℕ → List (List ℕ) → List (List ℕ)
onto b [] = (b ∷ []) ∷ []
onto b (w ∷ ws) = (b ∷ w) ∷ ws

-- the byte b, which is no blank, before bs, which has the words ws
abbrev pub before : ℕ → List ℕ → List (List ℕ) → List (List ℕ)
before b [] ws = (b ∷ []) ∷ ws
before b (c ∷ cs) ws = cond (blank c) ((b ∷ []) ∷ ws) (onto b ws)

-- the words: the longest parts with no blank
unfoldable pub words : List ℕ → List (List ℕ)
words [] = []
words (b ∷ bs) = cond (blank b) (words bs) (before b bs (words bs))

-- no newline
abbrev pub inline : ℕ → Bool
inline b = not (b == 10)

-- the lines of a text; what follows the last newline is one too, unless it is empty
unfoldable pub lines : List ℕ → List (List ℕ)
lines [] = []
lines (b ∷ bs) = cond (inline b) (onto b (lines bs)) ([] ∷ lines bs)

-- no number sign, with which a comment begins
abbrev pub plain : ℕ → Bool
plain b = not (b == 35)

-- what stands before a comment
abbrev pub bare : List ℕ → List ℕ
bare s = take (prefix_len plain s) s

-- r is the first word of s and what follows it, with the other words; or None where there is none
abbrev pub FirstWord : (s : List ℕ) → Option (Bor (List ℕ) × Bor (List ℕ)) → Type 0
FirstWord s r =
    MatchOption r (words s ≡ [])
    (λ x. (words s ≡ x.0.now ∷ words x.1.now) × (0 < length x.0.now) × (length x.0.now + length x.1.now ≤ length s))

-- t is the end of s, byte for byte
abbrev pub IsEnd : (t s : List ℕ) → Type 0
IsEnd t s = t ≡ drop (length s - length t) s

-- r is the first line of s and what follows it, with the other lines; or None where s is empty
abbrev pub FirstLine : (s : List ℕ) → Option (Bor (List ℕ) × Bor (List ℕ)) → Type 0
FirstLine s r =
    MatchOption r (s ≡ [])
    (λ x. (lines s ≡ x.0.now ∷ lines x.1.now) × (length x.1.now < length s) × IsEnd x.1.now s)

-- a cursor at the line with number n of the lines of s gave r, that line with its number, and is at the others of t, with
-- number m the first; or it gave None at the text's end, and stays there
abbrev pub NextLine : (s : List ℕ) (n : ℕ) → Option (ℕ × Bor (List ℕ)) → (t : List ℕ) (m : ℕ) → Type 0
NextLine s n r t m =
    MatchOption r ((lines s ≡ []) × (t ≡ s) × (m ≡ n))
    (λ x. (x.0 ≡ n) × (m ≡ n + 1) × (lines s ≡ x.1.now ∷ lines t) × (length t < length s) × IsEnd t s)
