-- A bench with what it is told, before a moment.
use Rattle.std.specs.Prelude.{◌≡◌, ℕ, suc, ◌+◌, ◌-◌, ◌*◌, ◌/◌, ◌^◌, ◌<◌, ◌≤◌, true, List, length, Result, is_ok, vec_items}
use Rattle.circuit.specs.Lent.{register_count, gate_in, early, late, period, setup, output_late}
use Rattle.circuit.specs.declared.refusal.Refusal.{Refusal}
use Rattle.promise.specs.Machine.{machine_in, Formed}
use Rattle.history.specs.declared.history.History.{History}
use Rattle.history.specs.Kept.{kept, span}
use Rattle.simulation.specs.Simulated.{cycle}
use Rattle.step.specs.Lent.{clocks_at}
use Rattle.step.specs.Stands.{Wide, Stands, cycle_of}
use Rattle.step.specs.declared.state.State.{State}
use Rattle.script.specs.declared.script.Script.{Script}
use Rattle.script.specs.Told.{start_told, told_by, Fits}
use Rattle.telling.specs.Knows.{Knows, Begins}
use Rattle.trial.specs.declared.room.Room.{Room}

-- a circuit and a script with which a run can be made
pub record ReadyToGo (s : Script) (g r ts : List ℕ) : Type 0 where
  pub formed : Formed (machine_in g r ts)
  pub fits : Fits s g r ts
  pub some_period : 0 < period ts
  pub some_moment : 0 < setup ts + output_late ts

-- a room is of the right size for a circuit: its history goes back far enough, and it keeps registers' bits for more cycles than any two registers, one at its latest and one at its
-- earliest, can be apart
pub record Roomy (g r ts : List ℕ) (y : Room) : Type 0 where
  pub wide : Wide (machine_in g r ts) y.state.past
  pub rows : y.state.bits.rows ≡ register_count r
  pub cycles_each : register_count r ≤ length (vec_items y.state.cycles)
  pub latest : (q : ℕ) → q < register_count r → late r q ≤ y.latest
  pub apart : (q : ℕ) → q < register_count r → (y.latest - early r q) / period ts < span y.state.bits
  pub small : y.latest ≤ 1000000

-- the first n gates have delays up to most
abbrev pub DelaysWithin : (g : List ℕ) (n most : ℕ) → Type 0
DelaysWithin g n most = (k : ℕ) → k < n → ((gate_in g k).greatest_one ≤ most) × ((gate_in g k).greatest_two ≤ most)

-- the clocks of the first n registers come from earliest to latest in their cycle
pub record ClocksWithin (r : List ℕ) (n earliest latest : ℕ) : Type 0 where
  pub early : (q : ℕ) → q < n → earliest ≤ early r q
  pub late : (q : ℕ) → q < n → late r q ≤ latest
  pub small : latest ≤ 1000000

-- the bits of cycle 0 of the registers below i are those of the start
pub record Started (s : Script) (g r ts : List ℕ) (i : ℕ) (before after : History) : Type 0 where
  pub rows_same : after.rows ≡ before.rows
  pub span_same : span after ≡ span before
  pub bits : (q : ℕ) → q < i → kept after q 0 ≡ start_told s g r ts q

-- the bits of the start, with places for as many cycles as two registers can be apart
pub record BitsReady (s : Script) (g r ts : List ℕ) (latest : ℕ) (bits : History) : Type 0 where
  pub rows : bits.rows ≡ register_count r
  pub apart : (q : ℕ) → q < register_count r → (latest - early r q) / period ts < span bits
  pub start : (q : ℕ) → q < register_count r → kept bits q 0 ≡ start_told s g r ts q

-- what is remembered before the first moment
pub record AtFirst (s : Script) (g r ts : List ℕ) (latest : ℕ) (b : State) : Type 0 where
  pub wide : Wide (machine_in g r ts) b.past
  pub bits : BitsReady s g r ts latest b.bits
  pub cycles_each : register_count r ≤ length (vec_items b.cycles)
  pub cycles : (q : ℕ) → cycle_of b q ≡ 0

-- a room that is made for a circuit and a script, before the first moment
pub record Furnished (s : Script) (g r ts : List ℕ) (y : Room) : Type 0 where
  pub roomy : Roomy g r ts y
  pub bits : (q : ℕ) → q < register_count r → kept y.state.bits q 0 ≡ start_told s g r ts q
  pub cycles : (q : ℕ) → cycle_of y.state q ≡ 0
  pub begins : Begins s g r ts y.teller

-- THE ROOM STANDS before moment t: all that it holds is that of the run which the script tells, and registers are told of the cycle in which they stood before the last moment
pub record Standing (s : Script) (g r ts : List ℕ) (t : ℕ) (y : Room) : Type 0 where
  pub ready : ReadyToGo s g r ts
  pub roomy : Roomy g r ts y
  pub stands : Stands (machine_in g r ts) (told_by s g r ts) t y.state
  pub knows : Knows s g r ts t y.teller
  pub stood : (q : ℕ) → q < register_count r → (clocks_at (vec_items y.teller.clocks) q).cycle ≡ cycle (machine_in g r ts) (told_by s g r ts) q (t - 1)

-- the moment by which every register has its bit of the cycle after n: past its latest clock by the latest output time
abbrev pub end_of : (ts : List ℕ) (latest n : ℕ) → ℕ
end_of ts latest n = suc n * period ts + latest + output_late ts + 1

-- a room that stands before moment t went on, and stands before the next
pub record Goes (s : Script) (g r ts : List ℕ) (t : ℕ) (y y' : Room) (went : Result (Unit {0}) Refusal) : Type 0 where
  pub latest_same : y'.latest ≡ y.latest
  pub goes : Standing s g r ts t y → t < 2 ^ 60 → (is_ok went ≡ true) × Standing s g r ts (suc t) y'
