use Rattle.std.proofs.Common.{sym, ◌∙◌, arith}
use Rattle.script.specs.Told.{DelayFits}
use Rattle.fitting.specs.Misfit.{delay_passes}
use Rattle.fitting.proofs.Firsts.{passed_more, failed_more, all_looked_at}
use Rattle.fitting.proofs.Tests.{delay_decides}
use Rattle.fitting.proofs.misfit_delay.Goals as goal
use Rattle.fitting.proofs.misfit_delay.Goals.{then-not-delay_fits, else-not-delay_fits}

pub loop-e-init : goal.loop-e-init
loop-e-init c = λ i l. absurd (omega arith)

pub loop-e-preserved : goal.loop-e-preserved
loop-e-preserved c =
    let k = c.args.bench.circuit in
    let so_far = c.loop-e.invariant in
    elim c.if-not-delay_fits.branch [
      | then-not-delay_fits w ↦ rw (w.first-is, w.earlier-first.ensures) (failed_more (DelayFits c.args.bench.script.now k.gates.now k.registers.now k.times.now) (delay_passes k.gates.now) (delay_decides c.args.bench.script.now k.gates.now k.registers.now k.times.now) _ _ _ so_far (sym c.delay_fits.ensures ∙ w.if-not-delay_fits.true))
      | else-not-delay_fits w ↦ rw w.first-is (passed_more (DelayFits c.args.bench.script.now k.gates.now k.registers.now k.times.now) (delay_passes k.gates.now) (delay_decides c.args.bench.script.now k.gates.now k.registers.now k.times.now) _ _ _ so_far (sym c.delay_fits.ensures ∙ w.if-not-delay_fits.false))
    ]

pub returns : goal.returns
returns c =
    let k = c.args.bench.circuit in
    all_looked_at (DelayFits c.args.bench.script.now k.gates.now k.registers.now k.times.now) _ _ _ _ c.as_slice-e-items.ensures.items (omega (arith, c.loop-e.auto.e-index-end, c.loop-e-test.false)) c.loop-e.invariant
