use Rattle.std.proofs.Common.{ap, ◌∙◌}
use Rattle.std.specs.List.{prefix_len}
use Rattle.lines.specs.Words.{inline}
use Rattle.input.proofs.Steps.{passes_comment, stops_at_line}
use Rattle.input.proofs.text.Text.pass.Goals as goal

pub returns-then-self-clause-lines : goal.returns-then-self-clause-lines
returns-then-self-clause-lines c =
    passes_comment c.args.self.now c.before_newline.result c.requires.whole c.if-self.true (c.before_newline.ensures.count ∙ ap (prefix_len inline) c.at_hand.ensures)

pub returns-then-self-clause-stop : goal.returns-then-self-clause-stop
returns-then-self-clause-stop c =
    stops_at_line c.args.self.now c.before_newline.result (c.before_newline.ensures.count ∙ ap (prefix_len inline) c.at_hand.ensures)
