use Rattle.std.proofs.Common.{inr}
use Rattle.delays.proofs.MeaningLaws.{some_cycles, no_cycles}
use Rattle.delays.proofs.Reader.finish.Goals as goal

pub returns-in-Some : goal.returns-in-Some
returns-in-Some c = rw c.in-Some.is (some_cycles c.args.self.registers c.args.line c.args.self.draft.script _)

pub returns-in-None : goal.returns-in-None
returns-in-None c = inr (rw c.in-None.is (no_cycles c.args.self.registers c.args.line c.args.self.draft.script))
