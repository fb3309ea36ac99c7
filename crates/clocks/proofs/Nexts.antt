-- Clocks of a register, one from the one before it.
use Rattle.std.proofs.Common.{◌≡◌, ℕ, suc, ◌+◌, ◌*◌, ◌%◌, ◌<◌, ◌≤◌, max, Some, None, Option, Bor, List, [], ◌∷◌, length, get_or, refl, arith}
use Rattle.std.specs.Option.{unwrap_or, option_copied}
use Rattle.std.specs.Slice.{IsItemAt}
use Rattle.std.proofs.lemmas.List.{get_or_past}
use Rattle.circuit.specs.Lent.{register_count, register_in, register_of, early, late, period}
use Rattle.script.specs.declared.script.Script.{Script}
use Rattle.script.specs.Told.{clock_between, clock_told}

-- the clock of the next cycle
pub clock_next : (s : Script) (g r ts : List ℕ) (m n q before : ℕ) → n ≡ suc m → before ≡ clock_told s g r ts m q →
    clock_between s g r ts n q (max (n * period ts + early r q) (suc before)) (n * period ts + late r q) ≡ clock_told s g r ts n q
unfolding clock_told
clock_next s g r ts m n q before e b = rw (e, b)

pub clock_first : (s : Script) (g r ts : List ℕ) (q low high : ℕ) → low ≡ early r q → high ≡ late r q → clock_between s g r ts 0 q low high ≡ clock_told s g r ts 0 q
unfolding clock_told
clock_first s g r ts q low high a b = rw (a, b)

-- the numbers of a register, or zeros where there is none
pub register_or_zeros : (xs : List ℕ) (rows : List (List ℕ)) (r : ℕ) (o : Option (Bor (List ℕ))) → length xs % 3 ≡ 0 → length rows ≡ register_count xs →
    ((k : ℕ) → k < register_count xs → register_of (get_or rows k []) ≡ register_in xs k) → IsItemAt rows r o → register_of (unwrap_or (option_copied o) (0 ∷ 0 ∷ 0 ∷ [])) ≡ register_in xs r
register_or_zeros xs rows r None whole count each item =
    let past : register_count xs ≤ r = omega (arith, count, item.3) in
    rw (get_or_past xs (3 * r) 0 (omega arith), get_or_past xs (3 * r + 1) 0 (omega arith), get_or_past xs (3 * r + 2) 0 (omega arith)) refl
register_or_zeros xs rows r (Some x) whole count each item = rw (item.3.1 []) (each r (omega (arith, count, item.3.0)))
