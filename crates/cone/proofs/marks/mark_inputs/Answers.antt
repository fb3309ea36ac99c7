use Rattle.std.proofs.Common.{true, set, ap, ◌∙◌}
use Rattle.cone.proofs.marks.mark_inputs.Goals as goal

pub returns : goal.returns
returns c = ap (λ g. set (set c.args.marks.now g.one true) g.two true) (c.from-gate.ensures ∙ c.gates.ensures.each _ c.requires.gate)
