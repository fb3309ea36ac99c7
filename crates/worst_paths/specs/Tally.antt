-- The slacks of a list as they are counted.
use Rattle.std.specs.Prelude.{◌≡◌, ℕ, ◌+◌, ◌*◌, ◌<◌, ℤ, pos, List, slice_index_or}
use Rattle.arrival.specs.declared.edge.Edge.{Edge}
use Rattle.arrival.specs.declared.edge.Edge.TheVariants.{Late, Early}
use Rattle.promise.specs.Machine.{Machine}
use Rattle.slack.specs.Margin.{margin_of}

-- where the slack of register r stands among those of all registers, setup and hold by turns
abbrev pub place_of : Edge → ℕ → ℕ
place_of Late r = 2 * r
place_of Early r = 2 * r + 1

-- the list has the slacks of the first n registers
abbrev pub HasSlacks : Edge → Machine → (n : ℕ) → List ℤ → Type 0
HasSlacks e m n xs = (r : ℕ) → r < n → slice_index_or xs (place_of e r) (pos 0) ≡ margin_of e m r
