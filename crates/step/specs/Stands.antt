-- How far a run has come, and what is remembered of it.
use Rattle.std.specs.Prelude.{◌≡◌, ℕ, suc, ◌+◌, ◌<◌, ◌≤◌, Bool, false, List, length, vec_items, slice_index, slice_index_or}
use Rattle.circuit.specs.Circuit.{gate, signals}
use Rattle.circuit.specs.Lent.{register_count}
use Rattle.promise.specs.Machine.{Machine, machine_in}
use Rattle.history.specs.declared.history.History.{History}
use Rattle.history.specs.Kept.{kept, span}
use Rattle.simulation.specs.Simulated.{Told, cycle, run_waves, run_bits, Runnable, MayTell}
use Rattle.step.specs.Lent.{TellsGates, TellsRegister, clocks_at}
use Rattle.step.specs.declared.state.State.{State}
use Rattle.step.specs.declared.registers.Doing.{Doing}
use Rattle.step.specs.declared.told.Clocks.{Clocks}
use Rattle.step.specs.declared.told.Delays.{Delays}
use Rattle.step.specs.declared.told.Now.{Now}

-- the cycle in which a register stands
abbrev pub cycle_of : State → ℕ → ℕ
cycle_of b q = slice_index (vec_items b.cycles) q

-- a history has a row for each signal, and goes back further than any delay, and than from a register's decision to the setup time before its clock
pub record Wide (m : Machine) (past : History) : Type 0 where
  pub rows : past.rows ≡ signals m.circuit
  pub delays : (k : ℕ) → k < length m.circuit.gates → ((gate m.circuit k).greatest_one < span past) × ((gate m.circuit k).greatest_two < span past)
  pub look_back : m.setup + m.output_late < span past

-- a machine that can be simulated, and what it may be told
pub record Ready (m : Machine) (x : Told) : Type 0 where
  pub runnable : Runnable m
  pub may : MayTell m x

module _ (m : Machine) (x : Told) (t : ℕ) where
  -- at moment t, with the signals below j settled, what lies less than the history's span back is the run's
  abbrev pub Remembers : (j : ℕ) → History → Type 0
  Remembers j past = (k u : ℕ) → k < signals m.circuit → u ≤ t → (u ≡ t → k < j) → t < u + span past → kept past k u ≡ run_waves m x k u

  -- before moment t, what lies no further than the history's span back is the run's
  abbrev pub Remembered : History → Type 0
  Remembered past = (k u : ℕ) → k < signals m.circuit → u < t → t ≤ u + span past → kept past k u ≡ run_waves m x k u

  -- register r before moment t: it shows the bit of cycle n, and its bits of the last cycles are known
  pub record InCycle (r n : ℕ) (bits : History) : Type 0 where
    pub shown : n ≡ cycle m x r t
    pub held : (i : ℕ) → i ≤ n → n < i + span bits → kept bits r i ≡ run_bits m x i r

  -- what register r does at moment t: it comes to cycle n, of which it holds the bit, and shows something
  pub record Does (r n : ℕ) (bit shows : Bool) : Type 0 where
    pub comes_to : n ≡ cycle m x r (suc t)
    pub holds : bit ≡ run_bits m x n r
    pub shows_now : shows ≡ run_waves m x r t

  -- THE STATE STANDS before moment t, where the run has come to: its history, its registers' cycles and their bits are the run's
  pub record Stands (b : State) : Type 0 where
    pub remembered : Remembered b.past
    pub registers : (r : ℕ) → r < m.registers → InCycle r (cycle_of b r) b.bits

-- a history has as many rows and goes back as far as it did
pub record SameSize (before after : History) : Type 0 where
  pub rows_same : after.rows ≡ before.rows
  pub span_same : span after ≡ span before

-- What functions do over lent numbers, whatever is told: for every x that may be told and tells what is lent, if the run had come there before, it has come a step further after.

-- at moment t, where the registers show what they do, the signals below j are settled
pub record Settles (g r ts : List ℕ) (t : ℕ) (delays : List Delays) (j : ℕ) (before after : History) : Type 0 where
  pub size : SameSize before after
  pub settled : (x : Told) → Ready (machine_in g r ts) x → Wide (machine_in g r ts) before → TellsGates (machine_in g r ts) x t delays →
      Remembers (machine_in g r ts) x t (register_count r) before → Remembers (machine_in g r ts) x t j after

-- x may be told, and tells what is lent of the registers; the histories are of the right size; and the run has come to that moment
pub record Given (g r ts : List ℕ) (x : Told) (told : Now) (b : State) : Type 0 where
  pub ready : Ready (machine_in g r ts) x
  pub wide : Wide (machine_in g r ts) b.past
  pub rows : b.bits.rows ≡ register_count r
  pub tells : (q : ℕ) → q < register_count r → TellsRegister (machine_in g r ts) x told.moment q (cycle_of b q) (slice_index_or told.shows.now q false) (clocks_at told.clocks.now q)
  pub stands : Stands (machine_in g r ts) x told.moment b

-- register q goes from the cycle in which it stands to another or the same, holds a bit and shows something
pub record RegisterGoes (g r ts : List ℕ) (t q : ℕ) (show : Bool) (told : Clocks) (b : State) (d : Doing) : Type 0 where
  pub does : (x : Told) → Ready (machine_in g r ts) x → Wide (machine_in g r ts) b.past → TellsRegister (machine_in g r ts) x t q (cycle_of b q) show told →
      Remembers (machine_in g r ts) x t q b.past → InCycle (machine_in g r ts) x t q (cycle_of b q) b.bits → Does (machine_in g r ts) x t q d.cycle d.bit d.shows

-- the registers below i have done what they do
pub record RegistersGo (g r ts : List ℕ) (told : Now) (i : ℕ) (before after : State) : Type 0 where
  pub past_size : SameSize before.past after.past
  pub bits_size : SameSize before.bits after.bits
  pub cycles_size : length (vec_items after.cycles) ≡ length (vec_items before.cycles)
  pub later_same : (q : ℕ) → i ≤ q → cycle_of after q ≡ cycle_of before q
  pub remembered : (x : Told) → Given g r ts x told before → Remembers (machine_in g r ts) x told.moment i after.past
  pub done : (x : Told) → Given g r ts x told before → (q : ℕ) → q < i → InCycle (machine_in g r ts) x (suc told.moment) q (cycle_of after q) after.bits
  pub left : (x : Told) → Given g r ts x told before → (q : ℕ) → i ≤ q → q < register_count r → InCycle (machine_in g r ts) x told.moment q (cycle_of after q) after.bits

-- ONE MOMENT: whatever is told, if the state is that of the run before that moment, it is so before the next
pub record Steps (g r ts : List ℕ) (told : Now) (before after : State) : Type 0 where
  pub past_size : SameSize before.past after.past
  pub bits_size : SameSize before.bits after.bits
  pub cycles_size : length (vec_items after.cycles) ≡ length (vec_items before.cycles)
  pub goes : (x : Told) → Given g r ts x told before → TellsGates (machine_in g r ts) x told.moment told.delays.now → Stands (machine_in g r ts) x (suc told.moment) after
