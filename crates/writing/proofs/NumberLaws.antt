-- Laws of rows of numbers, as they are taken out of a list one after another.
use Rattle.std.proofs.Common.{◌≡◌, ℕ, zero, suc, ◌+◌, ◌*◌, ◌<◌, ◌≤◌, List, [], ◌∷◌, ◌++◌, length, get_or, take, drop, sym, refl, ap, ◌∙◌, length-drop, arith}
use Rattle.std.proofs.lemmas.List.{get_or-take, get_or-drop, length-take-le}
use Rattle.std.proofs.Math.Seq.{take-add}
use Rattle.circuit.specs.Lent.{gate_in, register_in}
use Rattle.circuit.specs.declared.gate.Gate.{Gate}
use Rattle.writing.specs.Written.{time_numbers, register_numbers}
use Rattle.circuit.proofs.Chunks.{gate_like, register_like}

-- the numbers of a gate
abbrev pub gate_numbers : Gate → List ℕ
gate_numbers g = g.one ∷ g.two ∷ g.table ∷ g.least_one ∷ g.greatest_one ∷ g.least_two ∷ g.greatest_two ∷ []

-- a list by its places
abbrev listed : (ℕ → ℕ) → ℕ → List ℕ
listed f zero = []
listed f (suc n) = f 0 ∷ listed (λ i. f (suc i)) n

listed_all : (xs : List ℕ) → listed (λ i. get_or xs i 0) (length xs) ≡ xs
listed_all [] = refl
listed_all (x ∷ xs) = ap (λ t. x ∷ t) (listed_all xs)

listed_n : (n : ℕ) (xs : List ℕ) → length xs ≡ n → listed (λ i. get_or xs i 0) n ≡ xs
listed_n n xs e = ap (listed (λ i. get_or xs i 0)) (sym e) ∙ listed_all xs

pub times_listed : (times : List ℕ) → length times ≡ 5 → time_numbers times ≡ times
times_listed times e = listed_n 5 times e

-- row k, of m numbers each, after those before it
module _ (m k : ℕ) (xs : List ℕ) (room : m * k + m ≤ length xs) where
  abbrev the_row : List ℕ
  the_row = take m (drop (m * k) xs)

  row_length : length the_row ≡ m
  row_length = let l = length-drop (m * k) xs in length-take-le m (drop (m * k) xs) (omega arith)

  row_at : (j : ℕ) → j < m → get_or the_row j 0 ≡ get_or xs (m * k + j) 0
  row_at j l = get_or-take m (drop (m * k) xs) j 0 l ∙ get_or-drop (m * k) xs j 0

  row_next : take (m * suc k) xs ≡ take (m * k) xs ++ the_row
  row_next = let e : m * suc k ≡ m * k + m = omega arith in ap (λ i. take i xs) e ∙ take-add (m * k) m xs

pub next_gate : (k : ℕ) (xs : List ℕ) → 7 * k + 7 ≤ length xs → take (7 * suc k) xs ≡ take (7 * k) xs ++ gate_numbers (gate_in xs k)
next_gate k xs room = row_next 7 k xs room ∙ ap (λ t. take (7 * k) xs ++ t) (sym (listed_n 7 _ (row_length 7 k xs room)) ∙ ap gate_numbers (gate_like _ xs k (row_at 7 k xs room)))

pub next_register : (r : ℕ) (xs : List ℕ) → 3 * r + 3 ≤ length xs → take (3 * suc r) xs ≡ take (3 * r) xs ++ register_numbers (register_in xs r)
next_register r xs room = row_next 3 r xs room ∙ ap (λ t. take (3 * r) xs ++ t) (sym (listed_n 3 _ (row_length 3 r xs room)) ∙ ap register_numbers (register_like _ xs r (row_at 3 r xs room)))
