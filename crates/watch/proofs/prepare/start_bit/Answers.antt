use Rattle.watch.proofs.prepare.start_bit.Goals as goal

pub returns : goal.returns
returns c = let k = c.args.bench.circuit in c.start_of.ensures k.gates.now k.registers.now k.times.now
