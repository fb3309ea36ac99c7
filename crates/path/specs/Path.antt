-- Paths through gates, and the one by which a signal's latest or earliest time is reached.
use Rattle.std.specs.Prelude.{◌≡◌, ℕ, ◌+◌, ◌-◌, ◌*◌, ◌<◌, ◌≤◌, Bool, true, false, cond, ◌⊎◌, List, [], ◌∷◌, ◌++◌, length, nat_lt, slice_index}
use Rattle.circuit.specs.declared.gate.Gate.{Gate}
use Rattle.circuit.specs.Circuit.{Circuit, gate, signals, Sound, along}
use Rattle.circuit.specs.Filled.{Filled}
use Rattle.circuit.specs.Lent.{gate_count, register_count, signal_count, drawn}
use Rattle.circuit.specs.declared.circuit.Circuit as checked
use Rattle.circuit.specs.declared.refusal.Refusal.{Refusal}
use Rattle.circuit.specs.declared.refusal.Refusal.TheVariants.{NoRoom, NoSignal}
use Rattle.arrival.specs.declared.edge.Edge.{Edge}
use Rattle.arrival.specs.declared.edge.Edge.TheVariants.{Late, Early}
use Rattle.arrival.specs.Arrival.{delay, arrival, NoWorse}
use Rattle.arrival.specs.Lent.{source}

-- the steps of a path, the newest first: a gate, counted among the gates, and whether it is come in by its second input
abbrev pub Steps : Type 0
Steps = List (ℕ × Bool)

-- the signal at one of a gate's inputs
abbrev pub input : Bool → Gate → ℕ
input second g = cond second g.two g.one

-- the steps p lead from source i to signal k
unfoldable pub Leads : Circuit → ℕ → Steps → ℕ → Type 0
Leads c i [] k = (k ≡ i) × (i < c.inputs)
Leads c i ((g, second) ∷ p) k = (k ≡ c.inputs + g) × (g < length c.gates) × Leads c i p (input second (gate c g))

-- the delays along a path, greatest or least
unfoldable pub sum : Edge → Circuit → Steps → ℕ
sum e c [] = 0
sum e c ((g, second) ∷ p) = delay e second (gate c g) + sum e c p

-- p comes before q or is q, comparing from the end: the first input before the second
unfoldable pub Ahead : Steps → Steps → Type 0
Ahead [] q = Unit {0}
Ahead (x ∷ p) [] = ⊥
Ahead (x ∷ p) (y ∷ q) = ((x.1 ≡ false) × (y.1 ≡ true)) ⊎ ((x.1 ≡ y.1) × Ahead p q)

-- of two times at a gate's inputs only the second is the gate's own
abbrev pub by_second : Edge → ℕ → ℕ → Bool
by_second Late a b = nat_lt a b
by_second Early a b = nat_lt b a

-- one step more at the gate of signal n, by the input that gives its time, the first if both do
abbrev pub step : Edge → Circuit → (ℕ → ℕ) → ℕ → Gate → ℕ × Steps → ℕ × Steps → ℕ × Steps
step e c s n g p q =
    cond (by_second e (arrival e c s g.one + delay e false g) (arrival e c s g.two + delay e true g))
    (q.0, (n - c.inputs, true) ∷ q.1)
    (p.0, (n - c.inputs, false) ∷ p.1)

-- the source where the told path of each signal begins, and its steps
unfoldable pub told : Edge → Circuit → (ℕ → ℕ) → ℕ → ℕ × Steps
told e c s = along (step e c s) c.inputs c.gates (λ i. (i, []))

-- the same of a circuit that was looked at, over its registers' times
abbrev pub told_path : Edge → checked.Circuit → ℕ → ℕ × Steps
told_path e c = told e (drawn c.gates.now c.registers.now) (source e c.registers.now c.times.now)

-- p is the first path from a source to signal k by which its time is reached, and begins at i
pub record Told (e : Edge) (c : Circuit) (s : ℕ → ℕ) (k i : ℕ) (p : Steps) : Type 0 where
  pub leads : Leads c i p k
  pub reaches : s i + sum e c p ≡ arrival e c s k
  pub first : (j : ℕ) (q : Steps) → Leads c j q k → s j + sum e c q ≡ arrival e c s k → Ahead p q

-- no path has a later latest time (an earlier earliest time) than the signal that it leads to
abbrev pub NoneWorse : Type 0
NoneWorse = (e : Edge) (c : Circuit) (s : ℕ → ℕ) → Sound c → (i : ℕ) (p : Steps) (k : ℕ) → Leads c i p k → NoWorse e (s i + sum e c p) (arrival e c s k)

-- the told path is one by which the time is reached, and the first of these
abbrev pub ToldIsFirst : Type 0
ToldIsFirst = (e : Edge) (c : Circuit) (s : ℕ → ℕ) (k : ℕ) → Sound c → k < signals c → Told e c s k (told e c s k).0 (told e c s k).1

-- a path has at most as many steps as there are gates: signals fall along it
abbrev pub NoneLonger : Type 0
NoneLonger = (c : Circuit) → Sound c → (i : ℕ) (p : Steps) (k : ℕ) → Leads c i p k → length p ≤ length c.gates

-- a path as it is written: the source, then for each gate its signal's number and 0 or 1 for the input that it is come in by
unfoldable pub written_steps : ℕ → Steps → List ℕ
written_steps n [] = []
written_steps n ((g, second) ∷ p) = written_steps n p ++ ((n + g) ∷ (cond second 1 0) ∷ [])

abbrev pub written : ℕ → ℕ × Steps → List ℕ
written n p = p.0 ∷ written_steps n p.1

-- lent memory begins with w, and is else as it was
abbrev pub BeginsWith : (w before after : List ℕ) → Type 0
BeginsWith w before after = Filled 0 (length w) (λ j. slice_index w j) before after

-- what a path that is told in lent memory is: the first path to a signal by which its time is reached, and how much room it takes, which there was
abbrev pub PathTold : Edge → (gates registers times : List ℕ) (signal len : ℕ) (before after : List ℕ) → Type 0
PathTold e gates registers times signal len before after =
    (i : ℕ) × (p : Steps) × Told e (drawn gates registers) (source e registers times) signal i p
    × (len ≡ length (written (register_count registers) (i, p))) × (len ≤ length before) × BeginsWith (written (register_count registers) (i, p)) before after

-- room that is too short for this path is refused by the length that it needs, which is never above one number for the source and two for each gate
abbrev pub PathShort : Edge → (gates registers times : List ℕ) (signal : ℕ) (before : List ℕ) → Refusal → Type 0
PathShort e gates registers times signal before refusal =
    (i : ℕ) × (p : Steps) × Told e (drawn gates registers) (source e registers times) signal i p
    × (length before < length (written (register_count registers) (i, p))) × (length (written (register_count registers) (i, p)) ≤ 1 + 2 * gate_count gates)
    × (refusal ≡ NoRoom (length (written (register_count registers) (i, p))))

-- a signal past the circuit is refused, and then room that is too short
abbrev pub PathRefused : Edge → (gates registers times : List ℕ) (signal : ℕ) (before : List ℕ) → Refusal → Type 0
PathRefused e gates registers times signal before refusal =
    ((signal_count gates registers ≤ signal) × (refusal ≡ NoSignal signal))
    ⊎ ((signal < signal_count gates registers) × PathShort e gates registers times signal before refusal)
