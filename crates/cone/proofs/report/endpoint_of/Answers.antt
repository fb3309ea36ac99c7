use Rattle.std.proofs.Common.{◌∙◌, w64}
use Rattle.std.proofs.lemmas.Int.{to_z-of_z}
use Rattle.circuit.proofs.Known.{taken_of}
use Rattle.cone.proofs.Marking.{here}
use Rattle.cone.proofs.SumLaws.{margin_is, margin_fits}
use Rattle.cone.proofs.TimeLaws.{cone_known}
use Rattle.cone.proofs.report.endpoint_of.Goals as goal

pub sums_of-sums-requires-clause-time : goal.sums_of-sums-requires-clause-time
sums_of-sums-requires-clause-time c =
    let m = c.args.circuit in
    let inside = taken_of m c.args.r c.requires.register in
    rw c.signal_of-signal.ensures (cone_known c.args.edge m _ c.args.marks.now c.fill_marked.new.times c.requires.cone c.fill_marked.ensures _ inside (here m _ inside))

pub returns : goal.returns
returns c =
    let sums = c.sums_of-sums.ensures in
    let fits = margin_fits c.args.edge c.sums_of-sums.result.arrival c.sums_of-sums.result.limit c.margin.result sums.few_bits.0 sums.few_bits.1 c.margin.ensures in
    record {
      sums = sums.sums;
      margin = to_z-of_z w64 _ fits ∙ c.margin.ensures ∙ margin_is c.args.edge c.args.circuit c.args.r _ _ sums.sums;
      path = rw c.signal_of-signal.ensures at c.path_to-path.ensures;
    }
