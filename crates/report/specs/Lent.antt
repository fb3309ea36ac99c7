-- A report in lent room.
use Rattle.std.specs.Prelude.{◌≡◌, ℕ, ◌<◌, ◌≤◌, true, List, ◌++◌, length, drop, Result, MatchResult}
use Rattle.std.specs.List.{list_all}
use Rattle.circuit.specs.Checked.{of}
use Rattle.circuit.specs.declared.circuit.Circuit.{Circuit}
use Rattle.circuit.specs.declared.refusal.Refusal.TheVariants.{NoRoom}
use Rattle.writing.specs.Written.{nameable, NotWritten}
use Rattle.claim.specs.declared.kinds.Claim.{Claim}
use Rattle.report.specs.Reported.{reported}
use Rattle.report.specs.declared.lent.Unput.{Unput}
use Rattle.report.specs.declared.lent.Unput.TheVariants.{Unwritten, Refused}

-- why the text t of a report under a name is not put into room of n bytes
abbrev pub NotPut : (name t : List ℕ) (n : ℕ) → Unput → Type 0
NotPut name t n (Unwritten u) = NotWritten name u
NotPut name t n (Refused e) = (list_all nameable name ≡ true) × (n < length t) × (e ≡ NoRoom (length t))

-- the answer r to a report that is to be put into room, from what the room held before to what it holds after: the text
-- in front and its length; or why not, and the room as it was
abbrev pub IsPut : (name : List ℕ) → Circuit → List Claim → (room room' : List ℕ) → Result ℕ Unput → Type 0
IsPut name c claims room room' r =
    let t = of c (reported name) claims in
    MatchResult r
    (λ n. (list_all nameable name ≡ true) × (n ≡ length t) × (n ≤ length room) × (room' ≡ t ++ drop n room))
    (λ e. (room' ≡ room) × NotPut name t (length room) e)
