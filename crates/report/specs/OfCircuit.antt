-- The report on a circuit, with what is found of it.
use Rattle.std.specs.Prelude.{◌≡◌, true, false, List, ℕ, Result, String, MatchResult}
use Rattle.std.specs.List.{list_all}
use Rattle.std.specs.String.{string_bytes}
use Rattle.circuit.specs.Checked.{of}
use Rattle.circuit.specs.declared.circuit.Circuit.{Circuit}
use Rattle.writing.specs.Written.{nameable}
use Rattle.writing.specs.declared.Unwritten.{Unwritten}
use Rattle.writing.specs.declared.Unwritten.TheVariants.{Name, Memory}
use Rattle.claim.specs.declared.kinds.Claim.{Claim}
use Rattle.findings.specs.Findings.{AreFindings}
use Rattle.report.specs.Again.{IsReportedAgain}
use Rattle.report.specs.Reported.{reported}

-- t is the text of a circuit under a name and of all that is found of it, and is read again as just that
abbrev pub IsReport : (name : List ℕ) → Circuit → (t : List ℕ) → Type 0
IsReport name c t = (claims : List Claim) × of c AreFindings claims × (t ≡ of c (reported name) claims) × IsReportedAgain name c claims t

-- why there is no report: its name could not be read again, or want of memory
abbrev pub Unreported : (name : List ℕ) → Unwritten → Type 0
Unreported name Name = list_all nameable name ≡ false
Unreported name Memory = Unit {0}

-- the answer r to a circuit that is to be reported under a name
abbrev pub ReportAnswer : (name : List ℕ) → Circuit → {Z : Type 0} → Result (String Z) Unwritten → Type 0
ReportAnswer name c r = MatchResult r (λ text. (list_all nameable name ≡ true) × IsReport name c (string_bytes text)) (Unreported name)
