-- A run that is gone on with, beside its drawing.
use Rattle.std.specs.Prelude.{◌≡◌, ℕ, suc, ◌<◌, Bool, true, false, vec_items}
use Rattle.circuit.specs.Checked.{registers_of}
use Rattle.drawing.specs.Lent.{bit_at}
use Rattle.promise.specs.Machine.{Passed, drawing}
use Rattle.simulation.specs.Simulated.{run_bits}
use Rattle.trial.specs.Made.{machine_of, told_to, Stepped}
use Rattle.watch.specs.declared.watch.Watch.{Watch}
use Rattle.watch.specs.Bits.{BitsOf}

-- the bits are as they were
pub record SameBits (y y' : Watch) : Type 0 where
  pub held_same : vec_items y'.held ≡ vec_items y.held
  pub drawn_same : vec_items y'.drawn ≡ vec_items y.drawn

-- one moment of the run, or none where the next cycle is done
pub record WentOn (y y' : Watch) (went : Bool) : Type 0 where
  pub stepped : Stepped y.trial y'.trial went
  pub bits_same : SameBits y y'

-- ONE MORE CYCLE: the run is at that cycle's end and no moment further, the bits are those that the registers hold in it, in the run that the script tells, and those of the drawing; of a passed machine they are the same
pub record Watched (y y' : Watch) : Type 0 where
  pub bench_same : y'.trial.bench ≡ y.trial.bench
  pub one_more : y'.trial.done ≡ suc y.trial.done
  pub gone : y'.trial.moment ≡ y.trial.ends
  pub held : BitsOf (registers_of y.trial.bench.circuit) (run_bits (machine_of y.trial) (told_to y.trial) (suc y.trial.done)) (vec_items y'.held)
  pub drawn : BitsOf (registers_of y.trial.bench.circuit) (drawing (machine_of y.trial) (told_to y.trial).start (suc y.trial.done)) (vec_items y'.drawn)
  pub passed : Passed (machine_of y.trial) → (q : ℕ) → q < registers_of y.trial.bench.circuit → bit_at (vec_items y'.held) q ≡ bit_at (vec_items y'.drawn) q

-- the answer to the call for one more cycle: it is done, or all were that the script asks for, and nothing changed
abbrev pub CycleWatched : (y y' : Watch) → Bool → Type 0
CycleWatched y y' true = (y.trial.done < y.trial.bench.script.now.cycles) × Watched y y'
CycleWatched y y' false = (y.trial.done ≡ y.trial.bench.script.now.cycles) × (y'.trial ≡ y.trial) × SameBits y y'
