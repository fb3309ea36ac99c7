-- The first k paths to each signal, by one pass over the gates, and from these the first k that end at registers.
use Rattle.std.specs.Prelude.{ℕ, zero, suc, ◌+◌, ◌-◌, Bool, true, false, List, [], ◌∷◌, map}
use Rattle.circuit.specs.Circuit.{Circuit, along}
use Rattle.circuit.specs.declared.gate.Gate.{Gate}
use Rattle.arrival.specs.declared.edge.Edge.{Edge}
use Rattle.arrival.specs.declared.edge.Edge.TheVariants.{Late, Early}
use Rattle.path.specs.Path.{Steps, sum, by_second}
use Rattle.promise.specs.Machine.{Machine}
use Rattle.worst_paths.specs.WorstPaths.{RegisterPath, launch_time, arrival_of}
use Rattle.worst_paths.specs.Merge.{merge}

-- a path to a signal: the source where it begins, and its steps, the last first
abbrev pub SignalPath : Type 0
SignalPath = ℕ × Steps

-- the path with one step more: through gate k, by its second input or its first
abbrev pub extended : (k : ℕ) → (second : Bool) → SignalPath → SignalPath
extended k second p = (p.0, (k, second) ∷ p.1)

-- over any sources, whose times are s
module _ (e : Edge) (c : Circuit) (s : ℕ → ℕ) where
  -- the time at the end of a path
  abbrev pub time : SignalPath → ℕ
  time p = s p.0 + sum e c p.1

  -- of two paths only the second's time is worse
  abbrev pub second : SignalPath → SignalPath → Bool
  second p q = by_second e (time p) (time q)

  -- the first k paths to the gate of signal n, from those to its inputs
  abbrev pub at_gate : (k n : ℕ) → Gate → List SignalPath → List SignalPath → List SignalPath
  at_gate k n g ps qs = merge second k (map (extended (n - c.inputs) false) ps) (map (extended (n - c.inputs) true) qs)

  -- the first k paths to each signal
  unfoldable pub first_paths : ℕ → ℕ → List SignalPath
  first_paths k = along (at_gate k) c.inputs c.gates (λ i. (i, []) ∷ [])

-- the time of its clock from which a register's required time counts
abbrev pub capture_clock : Edge → Machine → ℕ → ℕ
capture_clock Late m = m.early
capture_clock Early m = m.late

-- the arrival time of a path, were its register's clock to come at `bound`: so arrival times compare between registers
abbrev pub shifted_arrival : Edge → Machine → (bound : ℕ) → RegisterPath → ℕ
shifted_arrival e m bound p = arrival_of e m p + (bound - capture_clock e m p.register)

-- a path to a signal as one that ends at a register, which takes that signal
abbrev pub ending_at : ℕ → SignalPath → RegisterPath
ending_at r p = record { register = r; source = p.0; steps = p.1 }

module _ (e : Edge) (m : Machine) where
  -- the first k paths to signal j of a machine
  abbrev pub paths_to : (k j : ℕ) → List SignalPath
  paths_to k j = first_paths e m.circuit (launch_time e m) k j

  module _ (bound : ℕ) where
    -- of two paths only the second's arrival, so shifted, is worse
    abbrev pub second_is_worse : RegisterPath → RegisterPath → Bool
    second_is_worse p q = by_second e (shifted_arrival e m bound p) (shifted_arrival e m bound q)

    -- the first k paths that end at registers below r
    unfoldable pub register_paths : (k r : ℕ) → List RegisterPath
    register_paths k zero = []
    register_paths k (suc r) = merge second_is_worse k (register_paths k r) (map (ending_at r) (paths_to k (m.takes r)))
