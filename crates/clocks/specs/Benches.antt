-- Clocks of a circuit on the bench, and those that can be computed with.
use Rattle.std.specs.Prelude.{ℕ, ◌*◌, ◌^◌, ◌≤◌, List}
use Rattle.circuit.specs.Checked.{of}
use Rattle.circuit.specs.Lent.{period}
use Rattle.script.specs.Told.{clock_told}
use Rattle.clocks.specs.declared.bench.Bench.{Bench}

-- when the clock of cycle n comes to register q
abbrev pub clock_at : Bench → (n q : ℕ) → ℕ
clock_at b = of b.circuit (clock_told b.script.now)

-- no number on the way to cycle n's clock is too large, which is so of every run that ends
pub record SmallClock (ts : List ℕ) (n before : ℕ) : Type 0 where
  pub cycle : n ≤ 2 ^ 62
  pub begins : n * period ts ≤ 2 ^ 62
  pub clock : before ≤ 2 ^ 62
