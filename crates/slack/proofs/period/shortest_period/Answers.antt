use Rattle.std.proofs.Common.{FitsSigned, w64, rules, arith}
use Rattle.std.proofs.lemmas.Int.{ints, clamps}
use Rattle.circuit.specs.Checked.{of}
use Rattle.promise.specs.Machine.{machine_in}
use Rattle.promise.proofs.Lent.{formed_in}
use Rattle.slack.proofs.PeriodLaws.{from_worst, passed_from}
use Rattle.slack.proofs.Times.{period_fits}
use Rattle.slack.proofs.period.shortest_period.Goals as goal

pub overflow_sub-shortest : goal.overflow_sub-shortest
overflow_sub-shortest c =
    let fits = period_fits c.args.circuit _ c.smallest.ensures.setup in
    let margin : FitsSigned w64 c.smallest.result.setup.margin = search rules in
    omega (arith, ints, fits)

pub returns : goal.returns
returns c =
    let fits = period_fits c.args.circuit _ c.smallest.ensures.setup in
    let margin : FitsSigned w64 c.smallest.result.setup.margin = search rules in
    let m = c.args.circuit in
    let shortest = from_worst (of m machine_in) c.smallest.result.setup _ c.smallest.ensures.setup (omega (arith, ints, clamps, fits, c.max.ensures.value)) in
    record { shortest = shortest; passed = passed_from (of m machine_in) _ (formed_in m.gates.now m.registers.now m.times.now m.placed m.ranged m.tied m.ordered) shortest }
