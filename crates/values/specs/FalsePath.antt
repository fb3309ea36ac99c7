-- Sensitization: the paths along which a change can come, and false paths, along which none can.
use Rattle.std.specs.Prelude.{◌≡◌, ℕ, ◌+◌, ◌<◌, ◌≤◌, Bool, true, false, not, [], ◌∷◌, ◌≢◌}
use Rattle.circuit.specs.Circuit.{Circuit, gate, Sound}
use Rattle.drawing.specs.Drawing.{ideal}
use Rattle.arrival.specs.declared.edge.Edge.TheVariants.{Late}
use Rattle.path.specs.Path.{Steps, Leads, sum}
use Rattle.promise.specs.Machine.{Machine, Formed, since}
use Rattle.values.specs.Settling.{is_controlling_one, is_controlling_two, settle_time}
use Rattle.values.specs.ByValues.{SetupByValues}

-- whether a gate lets its path through, if the sources have the bits b: its side input, the one by which the path
-- does not come in, has no controlling value
abbrev pub is_open : Circuit → (b : ℕ → Bool) → ℕ × Bool → Bool
is_open c b (g, false) = not (is_controlling_two (gate c g) (ideal c b (gate c g).two))
is_open c b (g, true) = not (is_controlling_one (gate c g) (ideal c b (gate c g).one))

-- the sources' bits b sensitize a path: every gate on it is open
unfoldable pub Sensitizes : Circuit → (b : ℕ → Bool) → Steps → Type 0
Sensitizes c b [] = Unit {0}
Sensitizes c b (x ∷ p) = (is_open c b x ≡ true) × Sensitizes c b p

-- A FALSE PATH: no bits of the sources sensitize it
abbrev pub IsFalsePath : Circuit → Steps → Type 0
IsFalsePath c p = (b : ℕ → Bool) → Sensitizes c b p → ⊥

-- a signal is settled no sooner than a change can come along a path that is sensitized
abbrev pub SensitizedPathsCount : Type 0
SensitizedPathsCount =
    (c : Circuit) (b : ℕ → Bool) (s : ℕ → ℕ) → Sound c →
    (i : ℕ) (p : Steps) (k : ℕ) → Leads c i p k → Sensitizes c b p → s i + sum Late c p ≤ settle_time c b s k

-- the path p is launched by register i and captured by register r
abbrev pub EndsAt : Machine → (r i : ℕ) → Steps → Type 0
EndsAt m r i p = Leads m.circuit i p (m.takes r)

-- it meets the setup time: register i's latest time, the path's greatest delays and the setup time are at most the
-- period and register r's early time
abbrev pub MeetsSetup : Machine → (r i : ℕ) → Steps → Type 0
MeetsSetup m r i p = since m i + sum Late m.circuit p + m.setup ≤ m.period + m.early r

-- the path p is one from register i to register r that violates the setup time
abbrev pub Violates : Machine → (r i : ℕ) → Steps → Type 0
Violates m r i p = (r < m.registers) × EndsAt m r i p × (MeetsSetup m r i p → ⊥)

-- at a register that is right by values every path that violates the setup time is false
abbrev pub ViolationsAreFalse : Type 0
ViolationsAreFalse =
    (m : Machine) → Formed m → (r i : ℕ) (p : Steps) → SetupByValues m r → Violates m r i p → IsFalsePath m.circuit p

-- of the paths to register r only p, from register i, may violate the setup time; it is a false path, and its gates'
-- delays by themselves, without register i's latest time, still meet it
pub record OneFalsePath (m : Machine) (r i : ℕ) (p : Steps) : Type 0 where
  pub ends : EndsAt m r i p
  pub is_false : IsFalsePath m.circuit p
  pub gates_alone : sum Late m.circuit p + m.setup ≤ m.period + m.early r
  pub others : (j : ℕ) (q : Steps) → EndsAt m r j q → q ≢ p → MeetsSetup m r j q

-- ONE FALSE PATH DOES NO HARM: the register is right by values
abbrev pub OneFalsePathIsHarmless : Type 0
OneFalsePathIsHarmless =
    (m : Machine) → Formed m → (r i : ℕ) (p : Steps) → r < m.registers → OneFalsePath m r i p → SetupByValues m r
