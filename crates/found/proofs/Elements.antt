-- An element of the rest of a list.
use Rattle.std.proofs.Common.{◌≡◌, suc, List, ◌∷◌, Contains, arith}

pub there : {X : Type 0} (x : X) (xs : List X) (w : X) → Contains xs w → Contains (x ∷ xs) w
there x xs w (i, within, is) = (suc i, omega (arith, within), is)

pub further : {X : Type 0} {ys xs : List X} {x : X} → ys ≡ x ∷ xs → (w : X) → Contains xs w → Contains ys w
further is w h = rw is (there _ _ w h)
