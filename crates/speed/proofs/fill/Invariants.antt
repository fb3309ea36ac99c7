use Rattle.std.proofs.Common.{◌≡◌, length}
use Rattle.speed.specs.Turns.{Gone}
use Rattle.speed.proofs.fill.Given as goal

abbrev pub invariant-loop : goal.invariant-loop
invariant-loop l =
    Gone l.circuit.gates.now l.circuit.registers.now l.circuit.times.now l.counter l.initial.latest l.latest l.initial.earliest l.earliest
    × (length l.latest ≡ length l.initial.latest) × (length l.earliest ≡ length l.initial.earliest)
