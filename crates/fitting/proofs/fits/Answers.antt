use Rattle.fitting.proofs.Together.{fitting, misfitting}
use Rattle.fitting.proofs.fits.Goals as goal

pub returns-in-None : goal.returns-in-None
returns-in-None c =
    let k = c.args.bench.circuit in
    fitting c.args.bench.script.now k.gates.now k.registers.now k.times.now c.misfit_clock.result c.misfit_turns.result c.earlier-clocks.result c.misfit_delay.result c.earlier-clocks.ensures c.in-None.ensures
    c.misfit_clock.ensures c.misfit_turns.ensures c.misfit_delay.ensures

pub returns-in-Some : goal.returns-in-Some
returns-in-Some c =
    let k = c.args.bench.circuit in
    misfitting c.args.bench.script.now k.gates.now k.registers.now k.times.now c.misfit_clock.result c.misfit_turns.result c.earlier-clocks.result c.misfit_delay.result _ c.earlier-clocks.ensures c.in-Some.ensures
    c.misfit_clock.ensures c.misfit_turns.ensures c.misfit_delay.ensures
