-- The text of a report, as it is written.
use Rattle.std.specs.Prelude.{◌≡◌, ℕ, true, List, [], ◌∷◌, ◌++◌, Result, String, MatchResult}
use Rattle.std.specs.List.{list_all}
use Rattle.std.specs.String.{string_bytes}
use Rattle.circuit.specs.Checked.{of}
use Rattle.circuit.specs.declared.circuit.Circuit.{Circuit}
use Rattle.writing.specs.Written.{end_line, written, nameable, NotWritten}
use Rattle.writing.specs.declared.Unwritten.{Unwritten}
use Rattle.claim.specs.Claims.{claim_line}
use Rattle.claim.specs.declared.kinds.Claim.{Claim}

-- the lines of claims in order, and the end
abbrev pub claims_text : List Claim → List ℕ
claims_text [] = end_line
claims_text (c ∷ cs) = claim_line c ++ claims_text cs

-- the text of a report: a circuit's text, and its claims
abbrev pub reported : (name gates registers times : List ℕ) → List Claim → List ℕ
reported name gates registers times claims = written name gates registers times ++ claims_text claims

-- the answer r to a circuit and its claims that are to be reported under a name
abbrev pub IsReported : (name : List ℕ) → Circuit → List Claim → {Z : Type 0} → Result (String Z) Unwritten → Type 0
IsReported name c claims r = MatchResult r (λ text. (list_all nameable name ≡ true) × (string_bytes text ≡ of c (reported name) claims)) (NotWritten name)
