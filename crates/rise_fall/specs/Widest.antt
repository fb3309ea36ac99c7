-- Four bounds beside the two of each input that a gate's record has.
use Rattle.std.specs.Prelude.{ℕ, ◌<◌, ◌≤◌, Bool, length}
use Rattle.circuit.specs.declared.gate.Gate.{Gate}
use Rattle.circuit.specs.Circuit.{Circuit, gate, signals, Sound}
use Rattle.arrival.specs.Arrival.{latest, earliest}
use Rattle.arrival.specs.Window.{Wave, Moves}
use Rattle.board.specs.Board.{Board, Passed}
use Rattle.rise_fall.specs.Gate.{GateBounds, RiseFallMoves}
use Rattle.rise_fall.specs.Times.{Stable, stable}
use Rattle.rise_fall.specs.Promise.{RiseFallPassed}

-- the four bounds of each input lie within the two of a gate's record
pub record BoundsInGate (d : GateBounds) (g : Gate) : Type 0 where
  pub one_within : (b : Bool) → (g.least_one ≤ d.one.least b) × (d.one.greatest b ≤ g.greatest_one)
  pub two_within : (b : Bool) → (g.least_two ≤ d.two.least b) × (d.two.greatest b ≤ g.greatest_two)

-- and so for every gate of a circuit
abbrev pub BoundsInCircuit : (ℕ → GateBounds) → Circuit → Type 0
BoundsInCircuit d c = (k : ℕ) → k < length c.gates → BoundsInGate (d k) (gate c k)

-- what moves by four bounds moves by the two
abbrev pub MovesWithin : Type 0
MovesWithin = (c : Circuit) (d : ℕ → GateBounds) (w : ℕ → Wave) → BoundsInCircuit d c → RiseFallMoves c d w → Moves c w

-- for neither bit is a signal stable later than its latest time by the two bounds, or for less than until its earliest
abbrev pub NoWorseThanWidest : Type 0
NoWorseThanWidest =
    (c : Circuit) (d : ℕ → GateBounds) → Sound c → BoundsInCircuit d c →
    (L E : ℕ → ℕ) (s : ℕ → Stable) →
    ((i : ℕ) → i < c.inputs → (b : Bool) → ((s i).from b ≤ L i) × (E i ≤ (s i).until b)) →
    (k : ℕ) → k < signals c → (b : Bool) →
    ((stable c d s k).from b ≤ latest c L k) × (earliest c E k ≤ (stable c d s k).until b)

-- what is passed with the two bounds is passed with the four: the four never pass less
abbrev pub WidestPass : Type 0
WidestPass = (m : Board) (d : ℕ → GateBounds) → BoundsInCircuit d m.circuit → Passed m → RiseFallPassed m d

-- the two bounds of each input, for both transitions
abbrev pub equal_bounds : Gate → GateBounds
equal_bounds g = record {
  one = record { least = λ b. g.least_one; greatest = λ b. g.greatest_one };
  two = record { least = λ b. g.least_two; greatest = λ b. g.greatest_two };
}

-- They may pass more even where they are equal to the two: times by transition go through a gate's table, so that an
-- input which it ignores does not count. So boards whose gates have two bounds are judged by the times of two bounds
abbrev pub EqualBoundsPassMore : Type 0
EqualBoundsPassMore = (m : Board) × RiseFallPassed m (λ k. equal_bounds (gate m.circuit k)) × ¬ Passed m
