use Rattle.circuit.specs.Checked.{of}
use Rattle.promise.specs.Machine.{machine_in}
use Rattle.promise.proofs.Lent.{formed_in}
use Rattle.slack.proofs.MarginLaws.{both_smallest}
use Rattle.slack.proofs.margin.smallest_of.Goals as goal

pub returns : goal.returns
returns c =
    let m = c.args.a.circuit in
    both_smallest (of m machine_in) _ (formed_in m.gates.now m.registers.now m.times.now m.placed m.ranged m.tied m.ordered) c.worst.ensures c.worst-2.ensures
