use Rattle.std.proofs.Common.{sym, ap, ◌∙◌}
use Rattle.fields.specs.declared.fault.Expected.TheVariants.{End as Ending}
use Rattle.circuits.specs.declared.Wrong.TheVariants.{Fault}
use Rattle.circuits.proofs.Lines.{inside_some}
use Rattle.circuits.proofs.Circuits.end.Goals as goal

pub returns-then-is_inside : goal.returns-then-is_inside
returns-then-is_inside g c =
    (ap (λ n. Fault (record { line = n; expected = Ending })) c.number.ensures, inside_some c.args.self.now.reader.current (sym c.is_inside.ensures ∙ c.if-is_inside.true))
