-- What is reported is read again.
use Rattle.std.specs.Prelude.{◌≡◌, ℕ, ◌+◌, ◌<◌, true, List, [], ◌++◌, length, take, Some, Ok}
use Rattle.std.specs.List.{list_all}
use Rattle.circuit.specs.Checked.{of}
use Rattle.circuit.specs.Whole.{Whole}
use Rattle.circuit.specs.declared.circuit.Circuit.{Circuit}
use Rattle.lines.specs.Words.{lines}
use Rattle.text.specs.Meaning.{Drafted}
use Rattle.writing.specs.Written.{nameable}
use Rattle.writing.specs.Again.{read_again, line_count}
use Rattle.claim.specs.Claims.{claim_fits}
use Rattle.claim.specs.declared.kinds.Claim.{Claim}
use Rattle.report.specs.Reported.{reported}
use Rattle.report.specs.Meaning.{first_report}

-- how many lines a report has: those of its circuit, one for each claim, and the end
abbrev pub report_lines : (gates registers times : List ℕ) → List Claim → ℕ
report_lines gates registers times claims = line_count gates registers times + length claims + 1

-- WHAT IS REPORTED IS READ AGAIN: of a whole circuit under a name that could be read, and of claims whose numbers fit,
-- wherever the report stands among others, the reader gets that name, just those numbers and just those claims, and what
-- follows is still to be read
abbrev pub ReportIsRead : Type 0
ReportIsRead =
    (name gates registers times more : List ℕ) (claims : List Claim) (n : ℕ) → list_all nameable name ≡ true → Whole gates registers times → list_all claim_fits claims ≡ true
    → first_report n (lines (reported name gates registers times claims ++ more)) ≡ Ok (Some (read_again name n gates registers times, claims, n + report_lines gates registers times claims, lines more))

-- the same of the text t alone that was written of a circuit and its claims: nothing is left
abbrev pub IsReportedAgain : (name : List ℕ) → Circuit → List Claim → (t : List ℕ) → Type 0
IsReportedAgain name c claims t = first_report 1 (lines t) ≡ Ok (Some (of c (read_again name 1), claims, 1 + of c report_lines claims, []))

-- A REPORT THAT IS CUT SHORT IS NO REPORT: of the first m bytes of its text, unless no more than the last newline is missing,
-- the reader gets none
abbrev pub ReportCutShort : Type 0
ReportCutShort =
    (name gates registers times : List ℕ) (claims : List Claim) (m n : ℕ) → list_all nameable name ≡ true → Whole gates registers times → list_all claim_fits claims ≡ true
    → m + 1 < length (reported name gates registers times claims)
    → (x : Drafted × List Claim × ℕ × List (List ℕ)) → first_report n (lines (take m (reported name gates registers times claims))) ≡ Ok (Some x) → ⊥
