-- The figures of a machine's slacks of one kind.
use Rattle.std.specs.Prelude.{◌≡◌, ℕ, zero, suc, ◌+◌, ◌↔◌, ℤ, pos, negsuc, ◌+ℤ◌}
use Rattle.arrival.specs.declared.edge.Edge.{Edge}
use Rattle.arrival.specs.declared.edge.Edge.TheVariants.{Late, Early}
use Rattle.promise.specs.Machine.{Machine, Formed, Passed}
use Rattle.slack.specs.Margin.{margin_of, IsWorst}
use Rattle.worst_paths.specs.declared.figures.Figures.{Figures}

-- a slack below 0 is one violation, and counts in full; another is none, and does not count
abbrev pub violation : ℤ → ℕ
violation (pos n) = 0
violation (negsuc n) = 1

abbrev pub negative_part : ℤ → ℤ
negative_part (pos n) = pos 0
negative_part (negsuc n) = negsuc n

-- how many of the first n registers have a slack below 0
unfoldable pub violations : Edge → Machine → ℕ → ℕ
violations e m zero = 0
violations e m (suc n) = violations e m n + violation (margin_of e m n)

-- the sum of the slacks below 0 of the first n registers
unfoldable pub total_negative : Edge → Machine → ℕ → ℤ
total_negative e m zero = pos 0
total_negative e m (suc n) = total_negative e m n +ℤ negative_part (margin_of e m n)

-- of all registers
pub record AreFigures (e : Edge) (m : Machine) (f : Figures) : Type 0 where
  pub violations : f.violations ≡ violations e m m.registers
  pub worst : IsWorst e m m.registers f.worst
  pub total : f.total_negative ≡ total_negative e m m.registers

-- a machine that is well formed is passed exactly if it has no violation of either kind
abbrev pub PassedByFigures : Type 0
PassedByFigures =
    (m : Machine) →
    Formed m → Passed m ↔ ((violations Late m m.registers ≡ 0) × (violations Early m m.registers ≡ 0))

-- the sum is 0 exactly if there is no violation
abbrev pub TotalOfNone : Type 0
TotalOfNone = (e : Edge) (m : Machine) (n : ℕ) → (total_negative e m n ≡ pos 0) ↔ (violations e m n ≡ 0)
