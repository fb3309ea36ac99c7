use Rattle.fields.proofs.FieldLaws.{any_number}
use Rattle.fields.proofs.next.Goals as goal

pub returns-in-Some : goal.returns-in-Some
returns-in-Some c = let e = c.in-Some.ensures in (e.0, e.1, any_number c.args.capped c.args.may_be_table e.0 c.in-Some.number e.2)
