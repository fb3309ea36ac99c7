use Rattle.lines.proofs.WordLaws.{first_line, only_line}
use Rattle.lines.proofs.line.Goals as goal

pub returns-in-empty : goal.returns-in-empty
returns-in-empty c = only_line _ _ _ _ c.if-is_empty.ensures c.until.ensures.count c.split_at.ensures.front c.split_at.ensures.back c.in-empty.len_below

pub returns-in-len1-up : goal.returns-in-len1-up
returns-in-len1-up c = first_line _ _ _ _ c.if-is_empty.ensures c.until.ensures.count c.split_at.ensures.front c.split_at.ensures.back c.in-len1-up.len_at_least
