-- The first k of two sorted lists.
use Rattle.std.specs.Prelude.{ℕ, zero, suc, ◌+◌, Bool, true, false, cond, List, [], ◌∷◌, Option, Some, None}
use Rattle.arrival.specs.declared.edge.Edge.{Edge}
use Rattle.path.specs.Path.{by_second}
use Rattle.worst_paths.specs.declared.entry.Entry.{Entry}

-- the first k of two lists, by a test that says whether the second's comes first
unfoldable pub merge : {X : Type 0} → (X → X → Bool) → ℕ → List X → List X → List X
merge second zero xs ys = []
merge second (suc k) [] [] = []
merge second (suc k) [] (y ∷ ys) = y ∷ merge second k [] ys
merge second (suc k) (x ∷ xs) [] = x ∷ merge second k xs []
merge second (suc k) (x ∷ xs) (y ∷ ys) =
    cond (second x y) (y ∷ merge second k (x ∷ xs) ys) (x ∷ merge second k xs (y ∷ ys))

-- of two entries only the second's time is worse
abbrev pub second_of : Edge → Entry → Entry → Bool
second_of e x y = by_second e x.time y.time

-- whether the next of two lists is the second's, None where both are at their end
unfoldable pub next_of : Edge → List Entry → List Entry → Option Bool
next_of e [] [] = None
next_of e [] (y ∷ ys) = Some true
next_of e (x ∷ xs) [] = Some false
next_of e (x ∷ xs) (y ∷ ys) = Some (second_of e x y)

-- the entries that a row gives to a gate or a register: each later by d, and named by the input or the register and by
-- its rank, from i on
unfoldable pub offered : (by d i : ℕ) → List Entry → List Entry
offered by d i [] = []
offered by d i (x ∷ xs) = record { time = x.time + d; by = by; rank = i } ∷ offered by d (suc i) xs
