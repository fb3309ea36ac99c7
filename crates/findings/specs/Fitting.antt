-- That the numbers of a circuit's findings fit 64 bits.
use Rattle.std.specs.Prelude.{◌≡◌, true, ℕ, List}
use Rattle.std.specs.List.{list_all}
use Rattle.circuit.specs.Whole.{Whole}
use Rattle.claim.specs.Claims.{claim_fits}
use Rattle.claim.specs.declared.kinds.Claim.{Claim}
use Rattle.findings.specs.Findings.{AreFindings}

-- the numbers of all these claims fit
abbrev pub Fitting : List Claim → Type 0
Fitting claims = list_all claim_fits claims ≡ true

-- the findings of a circuit do
abbrev pub FindingsFit : Type 0
FindingsFit = (gates registers times : List ℕ) → Whole gates registers times → (claims : List Claim) → AreFindings gates registers times claims → Fitting claims
