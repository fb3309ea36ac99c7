-- Statements that do not fit, and the first line on which one stands.
use Rattle.std.specs.Prelude.{◌≡◌, ℕ, suc, ◌+◌, ◌*◌, ◌<◌, ◌≤◌, min, Bool, ◌&&◌, nat_lt, nat_le, ◌⊎◌, List, length, Some, None, Option}
use Rattle.circuit.specs.Lent.{gate_count, register_count, gate_in, early, late, period}
use Rattle.script.specs.declared.entry.Entry.{Entry}
use Rattle.script.specs.declared.script.Script.{Script}
use Rattle.script.specs.Entries.{entry}
use Rattle.script.specs.Told.{clock_told, DelayFits, ClockFits}
use Rattle.circuit.specs.declared.refusal.Refusal.{Refusal}
use Rattle.circuit.specs.declared.refusal.Refusal.TheVariants.{OutOfBounds}

-- P holds of the first n statements; or l is the first line of one of which it does not
abbrev pub FirstMisfit : (Entry → Type 0) → List Entry → ℕ → Option ℕ → Type 0
FirstMisfit P es n None = (i : ℕ) → i < n → P (entry es i)
FirstMisfit P es n (Some l) = ((i : ℕ) × (i < n) × ((entry es i).line ≡ l) × (P (entry es i) → ⊥)) × ((j : ℕ) → j < n → (entry es j).line < l → P (entry es j))

-- the same of all statements of a list
abbrev pub FirstMisfitIn : (Entry → Type 0) → List Entry → Option ℕ → Type 0
FirstMisfitIn P es = FirstMisfit P es (length es)

-- the earlier of two lines
abbrev pub earlier : Option ℕ → Option ℕ → Option ℕ
earlier None b = b
earlier (Some l) None = Some l
earlier (Some l) (Some m) = Some (min l m)

-- a clock is one of a register, and within its bounds
pub record ClockWithin (r : List ℕ) (e : Entry) : Type 0 where
  pub register : e.who < register_count r
  pub within : (early r e.who ≤ e.one) × (e.one ≤ late r e.who)

-- the same as a test, and as a test that a delay lies within the bounds of its gate
abbrev pub clock_passes : List ℕ → Entry → Bool
clock_passes r e = nat_lt e.who (register_count r) && (nat_le (early r e.who) e.one && nat_le e.one (late r e.who))

abbrev pub delay_passes : List ℕ → Entry → Bool
delay_passes g e =
    nat_lt e.who (gate_count g) && ((nat_le (gate_in g e.who).least_one e.one && nat_le e.one (gate_in g e.who).greatest_one) && (nat_le (gate_in g e.who).least_two e.two && nat_le e.two (gate_in g e.who).greatest_two))

-- a clock comes after the one before it
abbrev pub InTurn : (s : Script) (g r ts : List ℕ) → Entry → Type 0
InTurn s g r ts e = (n : ℕ) → e.when ≡ suc n → clock_told s g r ts n e.who < e.when * period ts + e.one

-- the same, of the clocks of one register, and of those of the registers below q
abbrev pub TurnOf : (s : Script) (g r ts : List ℕ) (q : ℕ) → Entry → Type 0
TurnOf s g r ts q e = e.who ≡ q → InTurn s g r ts e

abbrev pub TurnsBelow : (s : Script) (g r ts : List ℕ) (q : ℕ) → Entry → Type 0
TurnsBelow s g r ts q e = e.who < q → InTurn s g r ts e

-- the first line on which a delay or a clock does not fit
pub record Misfit (s : Script) (g r ts : List ℕ) (e : Refusal) : Type 0 where
  pub line : ℕ
  pub is : e ≡ OutOfBounds line
  pub there : ((i : ℕ) × (i < length s.delays) × ((entry s.delays i).line ≡ line) × (DelayFits s g r ts (entry s.delays i) → ⊥))
      ⊎ ((i : ℕ) × (i < length s.clocks) × ((entry s.clocks i).line ≡ line) × (ClockFits s g r ts (entry s.clocks i) → ⊥))
  pub delays_before : (i : ℕ) → i < length s.delays → (entry s.delays i).line < line → DelayFits s g r ts (entry s.delays i)
  pub clocks_before : (i : ℕ) → i < length s.clocks → (entry s.clocks i).line < line → ClockFits s g r ts (entry s.clocks i)
