use Rattle.claim.proofs.ClaimLaws.{claims_are_read}
use Rattle.claim.proofs.read.claims_are_read.Goals as goal

pub returns : goal.returns
returns c = claims_are_read
