use Rattle.std.proofs.Common.{◌∙◌, rules}
use borrow.Author.Tests.{tests}
use Rattle.std.proofs.lemmas.Iterator.Search.{find_from_yields_List}
use Rattle.std.proofs.lemmas.Iterator.Adapters.{YieldsList-from_rev_slice}
use Rattle.script.specs.Entries.{about}
use Rattle.script.proofs.entries.last_about.Goals as goal

pub returns : goal.returns
returns c =
    c.copied.ensures ∙ find_from_yields_List (about c.args.who) _ _ c.find.result c.find.ensures.ran (YieldsList-from_rev_slice c.args.entries.now cc) (λ x b q k. search (rules, tests))
