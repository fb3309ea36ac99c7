-- Laws of the report with all that is found.
use Rattle.std.proofs.Common.{ℕ, List, Ok, Err, Result}
use Rattle.std.specs.Prelude.{String, IfOk}
use Rattle.std.specs.String.{string_bytes}
use Rattle.circuit.specs.Checked.{of}
use Rattle.circuit.specs.declared.circuit.Circuit.{Circuit}
use Rattle.writing.specs.declared.Unwritten.{Unwritten}
use Rattle.writing.specs.declared.Unwritten.TheVariants.{Name, Memory}
use Rattle.claim.specs.declared.kinds.Claim.{Claim}
use Rattle.findings.specs.Findings.{AreFindings}
use Rattle.report.specs.Again.{IsReportedAgain}
use Rattle.report.specs.Reported.{IsReported}
use Rattle.report.specs.OfCircuit.{ReportAnswer}

-- the text with claims that are found
pub with_findings : {Z : Type 0} (name : List ℕ) (c : Circuit) (claims : List Claim) (r : Result (String Z) Unwritten) → of c AreFindings claims → IsReported name c claims r
    → IfOk r (λ text. IsReportedAgain name c claims (string_bytes text)) → ReportAnswer name c r
with_findings name c claims (Ok text) found is again = (is.0, (claims, found, is.1, again))
with_findings name c claims (Err Name) found is again = is
with_findings name c claims (Err Memory) found is again = tt
