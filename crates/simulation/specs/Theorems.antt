-- What a simulated run is.
use Rattle.std.specs.Prelude.{◌≡◌, ℕ, suc, ◌+◌, ◌<◌, ◌≤◌, true, false}
use Rattle.promise.specs.Machine.{Machine, Passed, drawing}
use Rattle.promise.specs.Run.{Clocks, Run}
use Rattle.promise.specs.Promise.{Delays}
use Rattle.simulation.specs.Simulated.{Told, first_seen, end_seen, cycle, run_waves, run_bits, shows_anything, takes_anything, MayTell, Runnable}

-- a simulated run is one of those that passing speaks of, of a machine that is passed or not
abbrev pub SimulatedIsRun : Type 0
SimulatedIsRun = (m : Machine) (x : Told) → Runnable m → MayTell m x → Run m x.start x.clock (run_bits m x) (run_waves m x)

-- and so a passed machine, whatever it is told within bounds, holds the drawing's bits
abbrev pub SimulatedAsDrawn : Type 0
SimulatedAsDrawn =
    (m : Machine) (x : Told) → Passed m → 0 < m.setup + m.output_late → Delays m.circuit x.one x.two → Clocks m x.clock →
    (n r : ℕ) → r < m.registers → run_bits m x n r ≡ drawing m x.start n r

-- a register shows its bit of the cycle in which it stands at every moment at which it may not show anything, and at the others what is told
abbrev pub ShowsItsBit : Type 0
ShowsItsBit =
    (m : Machine) (x : Told) → Runnable m → MayTell m x → (r t : ℕ) → r < m.registers →
    (shows_anything m x r t ≡ false → run_waves m x r t ≡ run_bits m x (cycle m x r (suc t)) r) × (shows_anything m x r t ≡ true → run_waves m x r t ≡ x.show r t)

-- a register that comes to a cycle in which it may hold anything holds what is told; one that comes to another holds the bit that its signal was at all moments from which it decides
abbrev pub TakesItsSignal : Type 0
TakesItsSignal =
    (m : Machine) (x : Told) (r t : ℕ) →
    (takes_anything m x r t ≡ true → run_bits m x (cycle m x r (suc t)) r ≡ x.take (cycle m x r (suc t)) r)
    × (cycle m x r t < cycle m x r (suc t) → takes_anything m x r t ≡ false → (u : ℕ) →
    first_seen m (x.clock (cycle m x r (suc t)) r) ≤ u → u < end_seen m (x.clock (cycle m x r (suc t)) r) → run_waves m x (m.takes r) u ≡ run_bits m x (cycle m x r (suc t)) r)
