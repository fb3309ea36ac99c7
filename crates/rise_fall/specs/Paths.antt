-- Paths with the bit at each step, and that times by transition are those of paths.
use Rattle.std.specs.Prelude.{◌≡◌, ℕ, ◌+◌, ◌<◌, ◌≤◌, Bool, true, false, cond, List, [], ◌∷◌, length}
use Rattle.circuit.specs.Gate.{output}
use Rattle.circuit.specs.declared.gate.Gate.{Gate}
use Rattle.circuit.specs.Circuit.{Circuit, gate, signals, Sound}
use Rattle.rise_fall.specs.Gate.{Bounds, GateBounds}
use Rattle.rise_fall.specs.Times.{shortest, Stable, stable, delay_late, has_arc, swapped}

-- the steps of a path, the newest first: a gate, whether it is come in by its second input, and the bit there
abbrev pub RiseFallSteps : Type 0
RiseFallSteps = List (ℕ × Bool × Bool)

-- of a gate's two inputs the second or the first: its signal, the table as it sees it, its bounds
abbrev pub input : Bool → Gate → ℕ
input second g = cond second g.two g.one

abbrev pub side : Bool → Gate → Bool → Bool → Bool
side true g = swapped (output g.table)
side false g = output g.table

abbrev pub bounds_at : Bool → GateBounds → Bounds
bounds_at true d = d.two
bounds_at false d = d.one

-- the steps lead from source i at bit u to signal k at bit v, at each gate by an arc
unfoldable pub Leads : Circuit → ℕ → Bool → RiseFallSteps → ℕ → Bool → Type 0
Leads c i u [] k v = (k ≡ i) × (i < c.inputs) × (v ≡ u)
Leads c i u ((g, second, a) ∷ p) k v =
    (k ≡ c.inputs + g) × (g < length c.gates) × (has_arc (side second (gate c g)) a v ≡ true)
    × Leads c i u p (input second (gate c g)) a

-- the delays that count along a path: for latest times those of `delay_late`, for earliest times the least of either
-- transition
unfoldable pub slowest : Circuit → (ℕ → GateBounds) → (ℕ → Stable) → RiseFallSteps → ℕ
slowest c d s [] = 0
slowest c d s ((g, second, a) ∷ p) =
    delay_late (bounds_at second (d g)) (stable c d s (input second (gate c g))) a + slowest c d s p

unfoldable pub fastest : Circuit → (ℕ → GateBounds) → RiseFallSteps → ℕ
fastest c d [] = 0
fastest c d ((g, second, a) ∷ p) = shortest (bounds_at second (d g)) + fastest c d p

-- for each bit of a signal no path has a later latest time than it, and some path has just it
abbrev pub RiseFallLatestIs : Type 0
RiseFallLatestIs =
    (c : Circuit) (d : ℕ → GateBounds) (s : ℕ → Stable) (k : ℕ) (v : Bool) → Sound c → k < signals c →
    ((i : ℕ) (u : Bool) (p : RiseFallSteps) → Leads c i u p k v →
    (s i).from u + slowest c d s p ≤ (stable c d s k).from v)
    × ((i : ℕ) × (u : Bool) × (p : RiseFallSteps) × Leads c i u p k v
    × ((s i).from u + slowest c d s p ≡ (stable c d s k).from v))

-- and no path has an earlier earliest time, and some path has just it
abbrev pub RiseFallEarliestIs : Type 0
RiseFallEarliestIs =
    (c : Circuit) (d : ℕ → GateBounds) (s : ℕ → Stable) (k : ℕ) (v : Bool) → Sound c → k < signals c →
    ((i : ℕ) (u : Bool) (p : RiseFallSteps) → Leads c i u p k v →
    (stable c d s k).until v ≤ (s i).until u + fastest c d p)
    × ((i : ℕ) × (u : Bool) × (p : RiseFallSteps) × Leads c i u p k v
    × ((s i).until u + fastest c d p ≡ (stable c d s k).until v))
