-- The fan-in cone of a signal, and what of a circuit its times and paths depend on.
use Rattle.std.specs.Prelude.{◌≡◌, ℕ, ◌+◌, ◌-◌, ◌<◌, Bool, true, false, ◌++◌, length, map}
use Rattle.circuit.specs.declared.gate.Gate.{Gate}
use Rattle.circuit.specs.Circuit.{Circuit, gate, signals, Sound}
use Rattle.arrival.specs.declared.edge.Edge.{Edge}
use Rattle.arrival.specs.Arrival.{arrival}
use Rattle.path.specs.Path.{Steps, input, Leads, sum, told}

-- signal k is in the fan-in cone of signal `to`: some path leads from a source i through k to `to`; its steps up to k are p, those from there on q
abbrev pub InCone : Circuit → (to k : ℕ) → Type 0
InCone c to k = (i : ℕ) × (q : Steps) × (p : Steps) × Leads c i p k × Leads c i (q ++ p) to

-- gate b stands for gate a under the map f of signals: its inputs are those that the inputs of a are mapped to, and its four bounds
-- are the same. Nothing is said of the tables
pub record IsMappedGate (f : ℕ → ℕ) (a b : Gate) : Type 0 where
  pub one : f a.one ≡ b.one
  pub two : f a.two ≡ b.two
  pub least_one : a.least_one ≡ b.least_one
  pub greatest_one : a.greatest_one ≡ b.greatest_one
  pub least_two : a.least_two ≡ b.least_two
  pub greatest_two : a.greatest_two ≡ b.greatest_two

-- f maps the cone of signal `to` of circuit a into circuit b: sources to sources, and each gate to one that stands for it. Two
-- signals may be mapped to one, and what f does outside the cone does not matter
pub record MapsCone (f : ℕ → ℕ) (a b : Circuit) (to : ℕ) : Type 0 where
  pub sources : (i : ℕ) → i < a.inputs → InCone a to i → f i < b.inputs
  pub gates : (k : ℕ) → k < length a.gates → InCone a to (a.inputs + k) →
      (j : ℕ) × (f (a.inputs + k) ≡ b.inputs + j) × (j < length b.gates) × IsMappedGate f (gate a k) (gate b j)

-- each source in the cone has the time of the source that it is mapped to
abbrev pub MapsTimes : (f : ℕ → ℕ) (a : Circuit) (to : ℕ) (s u : ℕ → ℕ) → Type 0
MapsTimes f a to s u = (i : ℕ) → i < a.inputs → InCone a to i → s i ≡ u (f i)

-- a path's steps as they are mapped: each step's gate, by the same one of its inputs
abbrev pub mapped_step : (f : ℕ → ℕ) (a b : Circuit) → ℕ × Bool → ℕ × Bool
mapped_step f a b x = (f (a.inputs + x.0) - b.inputs, x.1)

abbrev pub mapped : (f : ℕ → ℕ) (a b : Circuit) → Steps → Steps
mapped f a b p = map (mapped_step f a b) p

-- a signal is in its own cone, and both inputs of a gate that is in a cone are in it
abbrev pub ConeIsClosed : Type 0
ConeIsClosed =
    (c : Circuit) (to : ℕ) → Sound c → to < signals c →
    InCone c to to
    × ((k : ℕ) (second : Bool) → k < length c.gates → InCone c to (c.inputs + k) → InCone c to (input second (gate c k)))

-- every signal in a cone has the latest and the earliest time of the signal that it is mapped to
abbrev pub ConeTimes : Type 0
ConeTimes =
    (e : Edge) (f : ℕ → ℕ) (a b : Circuit) (s u : ℕ → ℕ) (to : ℕ) → Sound a → Sound b → MapsCone f a b to → MapsTimes f a to s u →
    (k : ℕ) → k < signals a → InCone a to k → arrival e a s k ≡ arrival e b u (f k)

-- the paths to a signal in a cone are mapped to paths with the same sum of delays, and no other path leads to the signal that it is mapped to
abbrev pub ConePaths : Type 0
ConePaths =
    (f : ℕ → ℕ) (a b : Circuit) (to : ℕ) → Sound a → Sound b → MapsCone f a b to →
    (k : ℕ) → k < signals a → InCone a to k →
    ((i : ℕ) (p : Steps) → Leads a i p k → Leads b (f i) (mapped f a b p) (f k) × ((e : Edge) → sum e a p ≡ sum e b (mapped f a b p)))
    × ((j : ℕ) (q : Steps) → Leads b j q (f k) → (i : ℕ) × (p : Steps) × Leads a i p k × (j ≡ f i) × (q ≡ mapped f a b p))

-- the path that is told for a signal in a cone is mapped to the one that is told for the signal that it is mapped to
abbrev pub ConeToldPaths : Type 0
ConeToldPaths =
    (e : Edge) (f : ℕ → ℕ) (a b : Circuit) (s u : ℕ → ℕ) (to : ℕ) → Sound a → Sound b → MapsCone f a b to → MapsTimes f a to s u →
    (k : ℕ) → k < signals a → InCone a to k →
    ((told e b u (f k)).0 ≡ f (told e a s k).0) × ((told e b u (f k)).1 ≡ mapped f a b (told e a s k).1)

-- two circuits with as many sources whose gates in the cone of signal `to` have the same inputs and bounds, each under its own number.
-- How many gates each has is not said
abbrev pub HasSameCone : (a b : Circuit) (to : ℕ) → Type 0
HasSameCone a b to =
    (a.inputs ≡ b.inputs)
    × ((k : ℕ) → k < length a.gates → InCone a to (a.inputs + k) → (k < length b.gates) × IsMappedGate (λ i. i) (gate a k) (gate b k))

-- then every signal of the cone is mapped to itself
abbrev pub SameConeIsMapped : Type 0
SameConeIsMapped = (a b : Circuit) (to : ℕ) → HasSameCone a b to → MapsCone (λ i. i) a b to

-- where some gates of a circuit are changed, a signal to which no path leads through one of them keeps its time and its told path
abbrev pub OthersKeepTimes : Type 0
OthersKeepTimes =
    (e : Edge) (a b : Circuit) (s : ℕ → ℕ) (is_changed : ℕ → Bool) → Sound a → Sound b → a.inputs ≡ b.inputs → length a.gates ≡ length b.gates →
    ((j : ℕ) → j < length a.gates → is_changed j ≡ false → gate a j ≡ gate b j) →
    (to : ℕ) → to < signals a → ((j : ℕ) → is_changed j ≡ true → InCone a to (a.inputs + j) → ⊥) →
    (arrival e a s to ≡ arrival e b s to) × ((told e a s to).0 ≡ (told e b s to).0) × ((told e a s to).1 ≡ (told e b s to).1)
