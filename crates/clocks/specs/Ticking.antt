-- Clocks that come to one register, moment by moment.
use Rattle.std.specs.Prelude.{◌≡◌, ℕ, suc, ◌^◌, ◌<◌, ◌≤◌, Bool, IsTrue, ◌↔◌}
use Rattle.circuit.specs.Checked.{of, registers_of}
use Rattle.circuit.specs.Lent.{period}
use Rattle.script.specs.Told.{Fits}
use Rattle.clocks.specs.Benches.{clock_at}
use Rattle.clocks.specs.declared.bench.Bench.{Bench}
use Rattle.clocks.specs.declared.ticks.Ticks.{Ticks}

-- the clock of some cycle comes to register q at moment t
abbrev pub Comes : Bench → (q t : ℕ) → Type 0
Comes b q t = (n : ℕ) × (clock_at b n q ≡ t)

-- before moment t: the next clock is known and has not come yet, and those of all cycles before have
pub record Ticking (b : Bench) (t : ℕ) (y : Ticks) : Type 0 where
  pub next : y.next ≡ clock_at b y.cycle y.register
  pub ahead : t ≤ y.next
  pub gone : (n : ℕ) → n < y.cycle → clock_at b n y.register < t

-- a circuit and a script whose clocks come one after another
pub record InTurn (b : Bench) (q : ℕ) : Type 0 where
  pub fits : of b.circuit (Fits b.script.now)
  pub some_period : 0 < period b.circuit.times.now
  pub register : q < registers_of b.circuit

-- MOMENT t: if the clocks come one after another, and what was known before it stood, a clock is said to come exactly if one does, and what is known stands before the next moment
pub record Ticked (b : Bench) (t : ℕ) (y y' : Ticks) (came : Bool) : Type 0 where
  pub register_same : y'.register ≡ y.register
  pub says : InTurn b y.register → t < 2 ^ 60 → Ticking b t y → IsTrue came ↔ Comes b y.register t
  pub goes : InTurn b y.register → t < 2 ^ 60 → Ticking b t y → Ticking b (suc t) y'
