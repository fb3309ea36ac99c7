use Rattle.std.proofs.Common.{sym, ◌∙◌, arith}
use Rattle.fitting.specs.Misfit.{ClockWithin, clock_passes}
use Rattle.fitting.proofs.Firsts.{passed_more, failed_more, all_looked_at}
use Rattle.fitting.proofs.Tests.{clock_decides}
use Rattle.fitting.proofs.misfit_clock.Goals as goal
use Rattle.fitting.proofs.misfit_clock.Goals.{then-not-clock_within, else-not-clock_within}

pub loop-e-init : goal.loop-e-init
loop-e-init c = λ i l. absurd (omega arith)

pub loop-e-preserved : goal.loop-e-preserved
loop-e-preserved c =
    let k = c.args.bench.circuit in
    let so_far = c.loop-e.invariant in
    elim c.if-not-clock_within.branch [
      | then-not-clock_within w ↦ rw (w.first-is, w.earlier-first.ensures) (failed_more (ClockWithin k.registers.now) (clock_passes k.registers.now) (clock_decides k.registers.now) _ _ _ so_far (sym c.clock_within.ensures ∙ w.if-not-clock_within.true))
      | else-not-clock_within w ↦ rw w.first-is (passed_more (ClockWithin k.registers.now) (clock_passes k.registers.now) (clock_decides k.registers.now) _ _ _ so_far (sym c.clock_within.ensures ∙ w.if-not-clock_within.false))
    ]

pub returns : goal.returns
returns c =
    let k = c.args.bench.circuit in
    all_looked_at (ClockWithin k.registers.now) _ _ _ _ c.as_slice-e-items.ensures.items (omega (arith, c.loop-e.auto.e-index-end, c.loop-e-test.false)) c.loop-e.invariant
