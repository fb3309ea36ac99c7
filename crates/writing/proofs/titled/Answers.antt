use Rattle.std.proofs.Common.{rules}
use Rattle.writing.proofs.NameLaws.{titled}
use Rattle.writing.proofs.titled.Goals as goal

pub returns-then-is_nameable : goal.returns-then-is_nameable
returns-then-is_nameable c = rw c.ok.ensures.value (titled _ _ c.args.name.now (search rules) c.from_utf8.result c.from_utf8.ensures.cases)
