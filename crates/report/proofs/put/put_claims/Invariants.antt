use Rattle.std.proofs.Common.{◌++◌}
use Rattle.std.specs.String.{string_bytes}
use Rattle.report.specs.Reported.{claims_text}
use Rattle.report.proofs.TextLaws.{Put}
use Rattle.report.proofs.put.put_claims.Given as goal

abbrev pub invariant-loop-claim : goal.invariant-loop-claim
invariant-loop-claim l = Put (string_bytes l.initial.text ++ claims_text l.claims) l.claims (string_bytes l.text) l.claim-index
