use Rattle.std.proofs.Common.{ap, ◌∙◌}
use Rattle.circuit.specs.declared.register.Register.{Register}
use Rattle.trial.proofs.Seen.{none_is, takes_staying, takes_coming}
use Rattle.trial.proofs.running.Trial.takes_anything.Goals as goal

pub returns-then-cycle-told : goal.returns-then-cycle-told
returns-then-cycle-told c =
    let l = c.in-Some.ensures in
    takes_staying c.args.self.now l.0 c.args.r c.in-Some.cycle c.in-Some.told l.1 l.2 l.3 c.if-cycle-told.true

pub returns : goal.returns
returns c =
    let l = c.in-Some.ensures in
    let signal = ap (λ (k : Register). k.signal) (c.from-signal.ensures ∙ c.registers.ensures.each c.args.r l.1) in
    none_is _ _ c.is_none.ensures ∙ takes_coming c.args.self.now l.0 c.args.r c.in-Some.cycle c.in-Some.told l.1 l.2 l.3 c.if-cycle-told.false _ c.settled.result signal c.settled.ensures
