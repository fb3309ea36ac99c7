-- Bits of registers, and where two of them differ.
use Rattle.std.specs.Prelude.{◌≡◌, ℕ, ◌<◌, Bool, List, length, Option, Some, None, ◌≢◌}
use Rattle.circuit.specs.Lent.{register_count, signal_count}
use Rattle.drawing.specs.Lent.{bit_at}
use Rattle.script.specs.declared.script.Script.{Script}
use Rattle.script.specs.Told.{start_told}

-- n bits, the values f
pub record BitsOf (n : ℕ) (f : ℕ → Bool) (xs : List Bool) : Type 0 where
  pub count : length xs ≡ n
  pub each : (q : ℕ) → q < n → bit_at xs q ≡ f q

-- the first of n places at which f and g differ, if they do
abbrev pub FirstDifference : (n : ℕ) (f g : ℕ → Bool) → Option ℕ → Type 0
FirstDifference n f g None = (q : ℕ) → q < n → f q ≡ g q
FirstDifference n f g (Some q) = (q < n) × (f q ≢ g q) × ((p : ℕ) → p < q → f p ≡ g p)

-- the bits of a run at the start, those of its drawing, and room for its signals
pub record BitsAtStart (s : Script) (g r ts : List ℕ) (run drawing room : List Bool) : Type 0 where
  pub held : BitsOf (register_count r) (start_told s g r ts) run
  pub drawn : BitsOf (register_count r) (start_told s g r ts) drawing
  pub signals : length room ≡ signal_count g r
