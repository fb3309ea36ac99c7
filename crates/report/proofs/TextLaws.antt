-- Laws of written reports.
use Rattle.std.proofs.Common.{◌≡◌, ℕ, List, ◌++◌, drop}
use Rattle.std.specs.List.{list_all}
use Rattle.claim.specs.Claims.{claim_fits}
use Rattle.claim.specs.declared.kinds.Claim.{Claim}
use Rattle.report.specs.Reported.{claims_text}

-- what is written, b, before what is still to be written is the whole, t, and so far all claims fit
pub record Put (t : List ℕ) (cs : List Claim) (b : List ℕ) (i : ℕ) : Type 0 where
  pub whole : b ++ claims_text (drop i cs) ≡ t
  pub fit : list_all claim_fits cs ≡ list_all claim_fits (drop i cs)
