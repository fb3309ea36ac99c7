-- What a register requires of the signal that it takes.
use Rattle.std.specs.Prelude.{◌≡◌, ℕ, ◌+◌, ℤ, pos, ◌-ℤ◌}
use Rattle.circuit.specs.Checked.{of}
use Rattle.circuit.specs.Lent.{takes}
use Rattle.circuit.specs.declared.circuit.Circuit as checked
use Rattle.arrival.specs.Lent.{time_of}
use Rattle.arrival.specs.declared.edge.Edge.{Edge}
use Rattle.arrival.specs.declared.edge.Edge.TheVariants.{Late, Early}
use Rattle.promise.specs.Machine.{Machine, machine_in, last_change, first_change}
use Rattle.slack.specs.Margin.{margin_of}
use Rattle.slack.specs.declared.endpoint.Ends.{Ends}

-- the latest that a signal may come for the setup sum to be right, and the earliest for the hold sum
abbrev pub required_of : Edge → Machine → ℕ → ℤ
required_of Late m r = pos (m.period + m.early r) -ℤ pos m.setup
required_of Early m r = pos (m.late r + m.hold + 1)

-- A MARGIN is the time that is required less the one of arrival, or for the hold sum that of arrival less the one required
abbrev pub MarginIsBetween : Type 0
MarginIsBetween =
    (m : Machine) (r : ℕ) →
    (margin_of Late m r ≡ required_of Late m r -ℤ pos (last_change m (m.takes r)))
    × (margin_of Early m r ≡ pos (first_change m (m.takes r)) -ℤ required_of Early m r)

-- the three times of register r
abbrev pub IsEnds : Edge → checked.Circuit → ℕ → Ends → Type 0
IsEnds e c r x =
    (x.arrival ≡ pos (of c (time_of e) (takes c.registers.now r)))
    × (x.required ≡ required_of e (of c machine_in) r)
    × (x.margin ≡ margin_of e (of c machine_in) r)
