-- The times that are looked up for a register.
use Rattle.std.proofs.Common.{◌≡◌, ℕ, ◌+◌, ◌*◌, ◌^◌, ◌<◌, List, get_or, arith, pos, ◌-ℤ◌, FitsSigned, w64}
use Rattle.std.proofs.lemmas.Int.{ints}
use Rattle.circuit.specs.Checked.{of, registers_of, signals_of}
use Rattle.circuit.specs.Lent.{takes, period}
use Rattle.circuit.specs.declared.circuit.Circuit as checked
use Rattle.circuit.proofs.Known.{sound_of, taken_of, registers_small, times_small}
use Rattle.arrival.specs.declared.edge.Edge.{Edge}
use Rattle.arrival.specs.declared.edge.Edge.TheVariants.{Late}
use Rattle.arrival.specs.Lent.{time_of}
use Rattle.arrival.proofs.Turns.{time_small}
use Rattle.promise.specs.Machine.{machine_in}
use Rattle.slack.specs.Margin.{IsWorst}
use Rattle.slack.specs.declared.worst.Worst.{Worst}

-- the time of the signal that a register takes is the circuit's, and takes few bits
pub taken_time : (e : Edge) (c : checked.Circuit) (times : List ℕ) → ((k : ℕ) → k < signals_of c → get_or times k 0 ≡ of c (time_of e) k) →
    (r signal : ℕ) → r < registers_of c → signal ≡ takes c.registers.now r →
    (get_or times signal 0 ≡ of c (time_of e) (takes c.registers.now r)) × (get_or times signal 0 < 2 ^ 34)
taken_time e c times known r signal h is =
    let inside = taken_of c r h in
    let at = known _ inside in
    let small = time_small e c.gates.now c.registers.now c.times.now c.few c.small (sound_of c) _ inside in
    rw is (at, omega arith)

-- the period less the smallest first margin is a sum of times of one register
pub period_fits : (c : checked.Circuit) (w : Worst) → IsWorst Late (of c machine_in) (registers_of c) w → FitsSigned w64 (pos (period c.times.now) -ℤ w.margin)
period_fits c w worst =
    let r = w.register in
    let small = time_small Late c.gates.now c.registers.now c.times.now c.few c.small (sound_of c) _ (taken_of c r worst.inside) in
    omega (arith, ints, worst.has, times_small c 3, registers_small c (3 * r + 1))
