use Rattle.std.proofs.lemmas.Bool.{eq-eqb, ne_eqb}
use Rattle.clocks.proofs.Coming.{heard, silent}
use Rattle.clocks.proofs.ticks.Ticks.comes.Goals as goal

pub returns-then-came : goal.returns-then-came
returns-then-came c = rw (eq-eqb c.args.self.now.next c.args.t c.if-came.true) (heard c.args.bench c.args.t c.args.self.now _ _ c.if-came.true c.saturating_add-self.ensures c.next_clock-self.ensures.value)

pub returns-else-came : goal.returns-else-came
returns-else-came c = rw (ne_eqb c.args.self.now.next c.args.t c.if-came.false) (silent c.args.bench c.args.t c.args.self.now c.if-came.false)
