-- Latest and earliest arrival times of signals, over times of their sources.
use Rattle.std.specs.Prelude.{◌≡◌, ℕ, ◌+◌, ◌<◌, ◌≤◌, min, max, Bool, true, false, length}
use Rattle.circuit.specs.declared.gate.Gate.{Gate}
use Rattle.circuit.specs.Circuit.{Circuit, gate, signals, Sound, along}
use Rattle.arrival.specs.declared.edge.Edge.{Edge}
use Rattle.arrival.specs.declared.edge.Edge.TheVariants.{Late, Early}

-- the bound of an input's delay that counts: the greatest for latest times, the least for earliest; of the second input if `second`
abbrev pub delay : Edge → (second : Bool) → Gate → ℕ
delay Late false g = g.greatest_one
delay Late true g = g.greatest_two
delay Early false g = g.least_one
delay Early true g = g.least_two

-- the later or the earlier of two times
abbrev pub choose : Edge → ℕ → ℕ → ℕ
choose Late a b = max a b
choose Early a b = min a b

-- a gate's time, from those of its inputs, each with its delay
abbrev pub gate_time : Edge → ℕ → Gate → ℕ → ℕ → ℕ
gate_time e n g a b = choose e (a + delay e false g) (b + delay e true g)

-- the time of every signal, from those of the sources
unfoldable pub arrival : Edge → Circuit → (ℕ → ℕ) → (ℕ → ℕ)
arrival e c s = along (gate_time e) c.inputs c.gates s

abbrev pub latest : Circuit → (ℕ → ℕ) → (ℕ → ℕ)
latest c s = arrival Late c s

abbrev pub earliest : Circuit → (ℕ → ℕ) → (ℕ → ℕ)
earliest c s = arrival Early c s

-- a is no worse than b: no later for latest times, no earlier for earliest times
abbrev pub NoWorse : Edge → ℕ → ℕ → Type 0
NoWorse Late a b = a ≤ b
NoWorse Early a b = b ≤ a

-- a gate's inputs are those of another, and its bounds lie within the other's
pub record GateWithin (new old : Gate) : Type 0 where
  pub one_same : new.one ≡ old.one
  pub two_same : new.two ≡ old.two
  pub one_least : old.least_one ≤ new.least_one
  pub one_greatest : new.greatest_one ≤ old.greatest_one
  pub two_least : old.least_two ≤ new.least_two
  pub two_greatest : new.greatest_two ≤ old.greatest_two

-- two circuits of one structure, the new one's bounds within the old one's
pub record CircuitWithin (new old : Circuit) : Type 0 where
  pub inputs_same : new.inputs ≡ old.inputs
  pub gates_same : length new.gates ≡ length old.gates
  pub gates_within : (k : ℕ) → k < length old.gates → GateWithin (gate new k) (gate old k)

-- with bounds within the old ones, and sources that are no worse, no time is worse
abbrev pub Monotone : Type 0
Monotone =
    (e : Edge) (new old : Circuit) (s u : ℕ → ℕ) → Sound new → Sound old → CircuitWithin new old →
    ((i : ℕ) → i < old.inputs → NoWorse e (s i) (u i)) → (k : ℕ) → k < signals old → NoWorse e (arrival e new s k) (arrival e old u k)

-- all sources later by a: every signal later by a
abbrev pub Shifts : Type 0
Shifts = (e : Edge) (c : Circuit) (s : ℕ → ℕ) (a : ℕ) → Sound c → (k : ℕ) → k < signals c → arrival e c (λ i. a + s i) k ≡ a + arrival e c s k

-- times depend on those of the sources alone
abbrev pub Agrees : Type 0
Agrees =
    (e : Edge) (c : Circuit) (s u : ℕ → ℕ) → Sound c → ((i : ℕ) → i < c.inputs → s i ≡ u i) → (k : ℕ) → k < signals c → arrival e c s k ≡ arrival e c u k
