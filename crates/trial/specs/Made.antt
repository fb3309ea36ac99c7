-- What a run gives, cycle by cycle.
use Rattle.std.specs.Prelude.{◌≡◌, ℕ, suc, ◌<◌, ◌≤◌, Bool, true, false, List, length, Ok, Err, Result}
use Rattle.circuit.specs.Filled.{Filled}
use Rattle.circuit.specs.Checked.{of, registers_of}
use Rattle.circuit.specs.declared.refusal.Refusal.{Refusal}
use Rattle.circuit.specs.declared.refusal.Refusal.TheVariants.{NoRoom}
use Rattle.promise.specs.Machine.{Machine, machine_in, Passed, drawing}
use Rattle.script.specs.Told.{told_by}
use Rattle.clocks.specs.declared.bench.Bench.{Bench}
use Rattle.promise.specs.Run.{Run}
use Rattle.simulation.specs.Simulated.{Told, run_bits, run_waves}
use Rattle.trial.specs.declared.room.Room.{Room}
use Rattle.trial.specs.declared.running.Trial.{Trial}

-- the machine of a run, and what it is told
abbrev pub machine_of : Trial → Machine
machine_of y = of y.bench.circuit machine_in

abbrev pub told_to : Trial → Told
told_to y = of y.bench.circuit (told_by y.bench.script.now)

-- what a script tells to a circuit makes one of the runs that passing speaks of
abbrev pub IsRun : Bench → Type 0
IsRun b =
    Run (of b.circuit machine_in) (of b.circuit (told_by b.script.now)).start (of b.circuit (told_by b.script.now)).clock
    (run_bits (of b.circuit machine_in) (of b.circuit (told_by b.script.now))) (run_waves (of b.circuit machine_in) (of b.circuit (told_by b.script.now)))

-- a run before its first moment, of the circuit and the script that it was given, which is one of the runs that passing speaks of: no cycle is done
pub record Begun (bench : Bench) (y : Trial) : Type 0 where
  pub bench_same : y.bench ≡ bench
  pub is_run : IsRun bench
  pub moment : y.moment ≡ 0
  pub done : y.done ≡ 0

-- the same in the room that it was given
pub record BegunIn (bench : Bench) (room : Room) (y : Trial) : Type 0 where
  pub begun : Begun bench y
  pub room_same : y.room ≡ room

-- the same run, with as many cycles done, up to the same moment
pub record SameCycle (y y' : Trial) : Type 0 where
  pub bench_same : y'.bench ≡ y.bench
  pub done_same : y'.done ≡ y.done
  pub ends_same : y'.ends ≡ y.ends

-- one moment was gone, true; or the next cycle is done, false, and nothing changed
pub record Stepped (y y' : Trial) (went : Bool) : Type 0 where
  pub cycle_same : SameCycle y y'
  pub on : went ≡ true → y'.moment ≡ suc y.moment
  pub over : went ≡ false → (y' ≡ y) × (y.moment ≡ y.ends)

-- THE NEXT CYCLE of a run: one more is done, the run is at that cycle's end and no moment further, and the bits lent are those that the registers hold in it, in the run that the script tells; of a passed machine these are the drawing's
pub record CycleDone (y y' : Trial) (before after : List Bool) : Type 0 where
  pub bench_same : y'.bench ≡ y.bench
  pub one_more : y'.done ≡ suc y.done
  pub gone : y'.moment ≡ y.ends
  pub bits : Filled false (registers_of y.bench.circuit) (run_bits (machine_of y) (told_to y) (suc y.done)) before after
  pub drawn : Passed (machine_of y) → (q : ℕ) → q < registers_of y.bench.circuit → run_bits (machine_of y) (told_to y) (suc y.done) q ≡ drawing (machine_of y) (told_to y).start (suc y.done) q

-- the answer to the call for the next cycle: it is done, or all are that the script asks for, and in both cases there was room; or room for too few
-- bits is refused
abbrev pub CycleAnswer : (y y' : Trial) (before after : List Bool) → Result Bool Refusal → Type 0
CycleAnswer y y' before after (Ok true) = (registers_of y.bench.circuit ≤ length before) × (y.done < y.bench.script.now.cycles) × CycleDone y y' before after
CycleAnswer y y' before after (Ok false) = (registers_of y.bench.circuit ≤ length before) × (y.done ≡ y.bench.script.now.cycles) × (y' ≡ y) × (after ≡ before)
CycleAnswer y y' before after (Err e) = (e ≡ NoRoom (registers_of y.bench.circuit)) × (length before < registers_of y.bench.circuit) × (y' ≡ y) × (after ≡ before)
