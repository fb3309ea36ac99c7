-- When what is told on a line is within its bounds, and when a misfit says what it is out of.
use Rattle.std.specs.Prelude.{◌≡◌, ℕ, ◌+◌, ◌<◌, ◌≤◌, ◌⊎◌, List, length}
use Rattle.circuit.specs.Lent.{gate_count, register_count, signal_count, gate_in, early, late}
use Rattle.detail.specs.declared.column.Input.TheVariants.{First, Second}
use Rattle.script.specs.declared.entry.Entry.{Entry}
use Rattle.script.specs.declared.script.Script.{Script}
use Rattle.script.specs.Entries.{entry}
use Rattle.script.specs.Told.{DelayFits}
use Rattle.fitting.specs.Misfit.{ClockWithin}
use Rattle.detail.specs.declared.bounds.Bounded.{Bounded}
use Rattle.detail.specs.declared.bounds.Misfit.{Misfit}
use Rattle.detail.specs.declared.bounds.Misfit.TheVariants.{NoGate, Delay, NoRegister, Clock}

-- b is a number that was told, with its bounds, and is out of them
pub record Out (b : Bounded) (told least greatest : ℕ) : Type 0 where
  pub told_is : b.told ≡ told
  pub least_is : b.least ≡ least
  pub greatest_is : b.greatest ≡ greatest
  pub out : (told < least) ⊎ (greatest < told)

module _ (s : Script) (g r ts : List ℕ) where
  -- a misfit says what a told delay is out of: the first input's bounds, or else the second's
  abbrev pub DelayOutside : Entry → Misfit → Type 0
  DelayOutside e (NoGate first end) = (first ≡ register_count r) × (end ≡ signal_count g r) × (gate_count g ≤ e.who)
  DelayOutside e (Delay k First b) = (k ≡ register_count r + e.who) × (e.who < gate_count g) × Out b e.one (gate_in g e.who).least_one (gate_in g e.who).greatest_one
  DelayOutside e (Delay k Second b) = (k ≡ register_count r + e.who) × (e.who < gate_count g) × Out b e.two (gate_in g e.who).least_two (gate_in g e.who).greatest_two
      × ((gate_in g e.who).least_one ≤ e.one) × (e.one ≤ (gate_in g e.who).greatest_one)
  DelayOutside e (NoRegister n) = ⊥
  DelayOutside e (Clock q b) = ⊥

  -- a misfit says what a told clock is out of
  abbrev pub ClockOutside : Entry → Misfit → Type 0
  ClockOutside e (NoGate first end) = ⊥
  ClockOutside e (Delay k input b) = ⊥
  ClockOutside e (NoRegister n) = (n ≡ register_count r) × (register_count r ≤ e.who)
  ClockOutside e (Clock q b) = (q ≡ e.who) × (e.who < register_count r) × Out b e.one (early r e.who) (late r e.who)

  -- every delay and every clock that is told on a line is within its bounds
  pub record WithinOn (line : ℕ) : Type 0 where
    pub delays : (i : ℕ) → i < length s.delays → (entry s.delays i).line ≡ line → DelayFits s g r ts (entry s.delays i)
    pub clocks : (i : ℕ) → i < length s.clocks → (entry s.clocks i).line ≡ line → ClockWithin r (entry s.clocks i)

  -- a misfit says what one that is told on a line is out of
  abbrev pub Outside : (line : ℕ) → Misfit → Type 0
  Outside line w =
      ((i : ℕ) × (i < length s.delays) × ((entry s.delays i).line ≡ line) × DelayOutside (entry s.delays i) w)
      ⊎ ((i : ℕ) × (i < length s.clocks) × ((entry s.clocks i).line ≡ line) × ClockOutside (entry s.clocks i) w)
