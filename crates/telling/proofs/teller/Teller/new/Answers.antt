use Rattle.telling.proofs.Beginning.{begins}
use Rattle.telling.proofs.teller.Teller.new.Goals as goal

pub returns : goal.returns
returns c =
    let k = c.args.bench.circuit in
    begins c.args.bench.script.now k.gates.now k.registers.now k.times.now _ (rw c.gate_count.ensures at c.in_ok-delays.ensures) (rw c.register_count.ensures at c.in_ok-shows.ensures) c.in_ok-clocks.ensures
