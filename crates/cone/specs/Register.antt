-- What a register sees of a machine: its own numbers, and the fan-in cone of the signal that it takes.
use Rattle.std.specs.Prelude.{◌≡◌, ℕ, ◌+◌, ◌<◌, List}
use Rattle.circuit.specs.Lent.{gate_count, register_count, gate_in, drawn, takes, early, late}
use Rattle.circuit.specs.Whole.{Whole}
use Rattle.arrival.specs.declared.edge.Edge.{Edge}
use Rattle.arrival.specs.Lent.{source, time_of}
use Rattle.path.specs.Path.{told}
use Rattle.promise.specs.Machine.{Machine, Formed, machine_in}
use Rattle.slack.specs.Margin.{margin_of}
use Rattle.cone.specs.Cone.{InCone, IsMappedGate, MapsCone}

-- register r of machine m sees what register q of machine n sees: the same five times, the same early and late time of its own
-- clock, and f maps the cone of the signal that r takes to that of the signal that q takes, and each register in that cone to one with the
-- same early and late time
pub record SeesSame (f : ℕ → ℕ) (m n : Machine) (r q : ℕ) : Type 0 where
  pub period : m.period ≡ n.period
  pub output_early : m.output_early ≡ n.output_early
  pub output_late : m.output_late ≡ n.output_late
  pub setup : m.setup ≡ n.setup
  pub hold : m.hold ≡ n.hold
  pub early_same : m.early r ≡ n.early q
  pub late_same : m.late r ≡ n.late q
  pub takes : f (m.takes r) ≡ n.takes q
  pub cone : MapsCone f m.circuit n.circuit (m.takes r)
  pub launch_early : (i : ℕ) → i < m.circuit.inputs → InCone m.circuit (m.takes r) i → m.early i ≡ n.early (f i)
  pub launch_late : (i : ℕ) → i < m.circuit.inputs → InCone m.circuit (m.takes r) i → m.late i ≡ n.late (f i)

-- then both have the same margins, whatever else the machines have: other registers and gates, as many as they like, and other tables
abbrev pub ConeMargins : Type 0
ConeMargins =
    (e : Edge) (f : ℕ → ℕ) (m n : Machine) (r q : ℕ) → Formed m → Formed n → r < m.registers → q < n.registers → SeesSame f m n r q →
    margin_of e m r ≡ margin_of e n q

-- of lent numbers, each under its own number: as many registers; the five times; at register r the signal, the early and the late
-- time; on all paths to that signal the inputs and bounds of each gate, and the early and late time of each register where a path begins
pub record SameToRegister (gates registers times gates' registers' times' : List ℕ) (r : ℕ) : Type 0 where
  pub register_counts : register_count registers ≡ register_count registers'
  pub five : times ≡ times'
  pub signal : takes registers r ≡ takes registers' r
  pub early_same : early registers r ≡ early registers' r
  pub late_same : late registers r ≡ late registers' r
  pub cone : (k : ℕ) → k < gate_count gates → InCone (drawn gates registers) (takes registers r) (register_count registers + k) →
      (k < gate_count gates') × IsMappedGate (λ i. i) (gate_in gates k) (gate_in gates' k)
  pub launches : (i : ℕ) → i < register_count registers → InCone (drawn gates registers) (takes registers r) i →
      (early registers i ≡ early registers' i) × (late registers i ≡ late registers' i)

-- then the margins of register r, the time of the signal that it takes, and the path that is told are the same
abbrev pub SameConeMargins : Type 0
SameConeMargins =
    (gates registers times gates' registers' times' : List ℕ) (r : ℕ) → Whole gates registers times → Whole gates' registers' times' →
    r < register_count registers → SameToRegister gates registers times gates' registers' times' r →
    (e : Edge) →
    (margin_of e (machine_in gates registers times) r ≡ margin_of e (machine_in gates' registers' times') r)
    × (time_of e gates registers times (takes registers r) ≡ time_of e gates' registers' times' (takes registers r))
    × ((told e (drawn gates registers) (source e registers times) (takes registers r)).0 ≡ (told e (drawn gates' registers') (source e registers' times') (takes registers r)).0)
    × ((told e (drawn gates registers) (source e registers times) (takes registers r)).1 ≡ (told e (drawn gates' registers') (source e registers' times') (takes registers r)).1)
