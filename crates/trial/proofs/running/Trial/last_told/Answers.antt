use Rattle.std.proofs.Common.{◌<◌, arith}
use Rattle.circuit.specs.Checked.{registers_of}
use Rattle.trial.proofs.Seen.{told_read, cycle_read}
use Rattle.trial.proofs.running.Trial.last_told.Goals as goal

pub returns : goal.returns
returns c =
    let y = c.args.self.now in
    let h : c.args.r < registers_of y.bench.circuit = omega arith in
    (omega arith, h, told_read y c.args.r _ h c.index.ensures, cycle_read y c.args.r _ h c.index-2.ensures)
