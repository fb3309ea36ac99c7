-- Lists of numbers cut into rows of one length.
use Rattle.std.proofs.Common.{◌≡◌, ℕ, zero, suc, ◌+◌, ◌*◌, ◌<◌, List, [], get_or, drop, ◌∙◌, lit<, add-zero, arith}
use Rattle.std.proofs.lemmas.List.{get_or-take, get_or-drop}
use Rattle.std.specs.Simd.{first_chunks}
use Rattle.circuit.specs.Lent.{gate_in, gate_of, register_in, register_of}

-- number j of row i, of k rows of n numbers, stands at n * i + j
pub at_row : (n k : ℕ) (xs : List ℕ) (i j : ℕ) → i < k → j < n → get_or (get_or (first_chunks n k xs) i []) j 0 ≡ get_or xs (n * i + j) 0
at_row n zero xs i j h l = absurd (omega arith)
at_row n (suc k) xs zero j h l = let e : n * 0 + j ≡ j = omega arith in rw e (get_or-take n xs j 0 l)
at_row n (suc k) xs (suc i) j h l =
    let e : n + (n * i + j) ≡ n * suc i + j = omega arith in
    at_row n k (drop n xs) i j (omega arith) l ∙ (get_or-drop n xs (n * i + j) 0 ∙ rw e)

-- a row that has the numbers of gate k, or of register r, is that gate or register
pub gate_like : (row xs : List ℕ) (k : ℕ) → ((j : ℕ) → j < 7 → get_or row j 0 ≡ get_or xs (7 * k + j) 0) → gate_of row ≡ gate_in xs k
gate_like row xs k at = rw (at 0 (lit< tt), at 1 (lit< tt), at 2 (lit< tt), at 3 (lit< tt), at 4 (lit< tt), at 5 (lit< tt), at 6 (lit< tt), add-zero)

pub register_like : (row xs : List ℕ) (r : ℕ) → ((j : ℕ) → j < 3 → get_or row j 0 ≡ get_or xs (3 * r + j) 0) → register_of row ≡ register_in xs r
register_like row xs r at = rw (at 0 (lit< tt), at 1 (lit< tt), at 2 (lit< tt), add-zero)
