use Rattle.std.proofs.Common.{◌++◌, sym, ap, ◌∙◌}
use Rattle.input.specs.Line.{bare_lines}
use Rattle.input.proofs.Steps.{comes_from, faults_from}
use Rattle.input.proofs.text.Text.next.Goals as goal

pub returns-in-Err-clause-fault : goal.returns-in-Err-clause-fault
returns-in-Err-clause-fault c =
    let f = c.forget.ensures.same in
    let k = c.in-Err.ensures.same in (
      faults_from c.args.self.now c.forget.new.self f.pending_same c.in-Err.e c.in-Err.ensures.fault,
      record {
        pending_same = k.pending_same ∙ f.pending_same;
        number_same = k.number_same ∙ f.number_same;
        ended_same = k.ended_same ∙ f.ended_same;
      },
      c.in-Err.ensures.whole,
    )

pub returns-clause-comes : goal.returns-clause-comes
returns-clause-comes c =
    let f = c.forget.ensures.same in
    let k = c.in_default.ensures.same in
    let p = c.pass.ensures in
    comes_from c.args.self.now c.pass.new.self c.hand_out.new.self
    (λ more. ap (λ x. bare_lines (x ++ more)) (sym (k.pending_same ∙ f.pending_same)) ∙ p.lines more)
    (p.kept.2 ∙ k.ended_same ∙ f.ended_same) (p.kept.1 ∙ k.number_same ∙ f.number_same) c.hand_out.result c.hand_out.ensures
