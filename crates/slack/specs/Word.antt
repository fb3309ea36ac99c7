-- What the verdict on a circuit says of its margins.
use Rattle.std.specs.Prelude.{◌≡◌, ℕ, ◌<◌, List, Some, pos, ◌-ℤ◌}
use Rattle.circuit.specs.Refused.{AllOrFirst}
use Rattle.arrival.specs.declared.edge.Edge.{Edge}
use Rattle.arrival.specs.declared.edge.Edge.TheVariants.{Late, Early}
use Rattle.promise.specs.Machine.{Machine, machine_in}
use Rattle.signoff.specs.Verdict.{Says}
use Rattle.signoff.specs.declared.verdict.Verdict.{Verdict}
use Rattle.signoff.specs.declared.verdict.Verdict.TheVariants as verdict
use Rattle.slack.specs.Margin.{margin_of, Enough}

-- r is the first register with a margin below 0
abbrev pub FirstMissing : Edge → Machine → ℕ → Type 0
FirstMissing e m r = AllOrFirst (Enough e m) m.registers (Some r)

-- passed: no margin is below 0. Too late: the first register whose setup margin is. Too early: no setup margin is, and the first register
-- whose hold margin is. The two sums that are told differ by the margin
abbrev pub ByMargins : Machine → Verdict → Type 0
ByMargins m verdict.Passed = (e : Edge) (r : ℕ) → r < m.registers → Enough e m r
ByMargins m (verdict.TooLate x) = FirstMissing Late m x.register × (margin_of Late m x.register ≡ pos x.limit -ℤ pos x.arrival)
ByMargins m (verdict.TooEarly x) =
    ((r : ℕ) → r < m.registers → Enough Late m r) × FirstMissing Early m x.register
    × (margin_of Early m x.register ≡ pos x.arrival -ℤ pos x.limit -ℤ pos 1)

-- every verdict is by the margins
abbrev pub VerdictByMargins : Type 0
VerdictByMargins =
    (gates registers times : List ℕ) (before after : List ℕ) (v : Verdict) → Says gates registers times before after v → ByMargins (machine_in gates registers times) v
