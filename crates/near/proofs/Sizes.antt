-- A circuit's smallest margins are few bits.
use Rattle.std.proofs.Common.{◌+◌, ◌*◌, ◌^◌, ◌<◌, arith, ℤ, pos, negsuc, ◌+ℤ◌, ◌<ℤ◌, FitsSigned, w64, to_z, of_z}
use Rattle.std.proofs.lemmas.Int.{ints, to_z-of_z}
use Rattle.circuit.specs.Checked.{of, registers_of}
use Rattle.circuit.specs.declared.circuit.Circuit as checked
use Rattle.circuit.proofs.Known.{sound_of, taken_of, registers_small, times_small}
use Rattle.arrival.specs.declared.edge.Edge.{Edge}
use Rattle.arrival.specs.declared.edge.Edge.TheVariants.{Late, Early}
use Rattle.arrival.proofs.Turns.{time_small}
use Rattle.promise.specs.Machine.{machine_in}
use Rattle.slack.specs.Margin.{IsWorst}
use Rattle.slack.specs.declared.worst.Worst.{Worst}
use Rattle.near.specs.Ratio.{size_of}

size_small : (z : ℤ) → z <ℤ pos (2 ^ 35) → pos 0 <ℤ (z +ℤ pos (2 ^ 35)) → size_of z < 2 ^ 35
size_small (pos n) above below = omega (arith, ints)
size_small (negsuc n) above below = omega (arith, ints)

margin_small : (e : Edge) (c : checked.Circuit) (w : Worst) → IsWorst e (of c machine_in) (registers_of c) w → (w.margin <ℤ pos (2 ^ 35)) × (pos 0 <ℤ (w.margin +ℤ pos (2 ^ 35)))
margin_small Late c w worst =
    let r = w.register in
    let small = time_small Late c.gates.now c.registers.now c.times.now c.few c.small (sound_of c) _ (taken_of c r worst.inside) in
    (omega (arith, ints, worst.has, small, times_small c 0, registers_small c (3 * r + 1)), omega (arith, ints, worst.has, small, times_small c 3))
margin_small Early c w worst =
    let r = w.register in
    let small = time_small Early c.gates.now c.registers.now c.times.now c.few c.small (sound_of c) _ (taken_of c r worst.inside) in
    (omega (arith, ints, worst.has, small), omega (arith, ints, worst.has, times_small c 4, registers_small c (3 * r + 2)))

-- as a number of 64 bits
pub smallest_size : (e : Edge) (c : checked.Circuit) (w : Worst) → IsWorst e (of c machine_in) (registers_of c) w → size_of (to_z w64 (of_z w64 w.margin)) < 2 ^ 35
smallest_size e c w worst =
    let small = margin_small e c w worst in
    let fits : FitsSigned w64 w.margin = omega (arith, ints, small.0, small.1) in
    rw (to_z-of_z w64 w.margin fits) (size_small w.margin small.0 small.1)
