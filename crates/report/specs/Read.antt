-- What the reader of reports answers, by what a text means.
use Rattle.std.specs.Prelude.{◌≡◌, ℕ, ◌<◌, ◌≤◌, ◌⊎◌, Bool, true, false, List, [], ◌∷◌, ◌++◌, length, Some, None, Ok, Err, vec_items, Option, Result, MatchResult}
use Rattle.std.specs.Option as options
use Rattle.lines.specs.Words.{lines, IsEnd}
use Rattle.fields.specs.declared.fault.Expected.{Expected}
use Rattle.fields.specs.declared.fault.Expected.TheVariants.{Memory}
use Rattle.fields.specs.declared.fault.Fault.{Fault}
use Rattle.text.specs.Meaning.{Drafted, drafted}
use Rattle.claim.specs.declared.kinds.Claim.{Claim}
use Rattle.report.specs.declared.reading.Report.{Report}
use Rattle.report.specs.declared.reading.Said.{Said}
use Rattle.report.specs.declared.reading.Said.TheVariants.{Nothing, Claim as Claims, End}
use Rattle.report.specs.Meaning.{Claimed, Told}

-- the claims cs with what a line says behind them, and whether it ends them
abbrev pub added : Result Said Expected → List Claim → Result (Bool × List Claim) Expected
added (Ok Nothing) cs = Ok (false, cs)
added (Ok (Claims c)) cs = Ok (false, cs ++ c ∷ [])
added (Ok End) cs = Ok (true, cs)
added (Err e) cs = Err e

-- the claims became these; or there is a fault, which may be want of memory
abbrev pub WasAdded : Result (Bool × List Claim) Expected → (after : List Claim) → Result Bool Expected → Type 0
WasAdded o after r = MatchResult r (λ ends. o ≡ Ok (ends, after)) (λ e. (e ≡ Memory) ⊎ (o ≡ Err e))

-- the claims behind the circuit d were read, and what is left is an end of the text t; or there is a fault, which may be
-- want of memory
abbrev pub WereRead : Claimed → Drafted → (t : List ℕ) → Result Report Fault → Type 0
WereRead o d t r =
    MatchResult r
    (λ x. (o ≡ Ok (vec_items x.claims, x.rest.number, lines x.rest.text.now)) × (drafted x.draft ≡ d) × (length x.rest.text.now ≤ length t) × IsEnd x.rest.text.now t)
    (λ e. (e.expected ≡ Memory) ⊎ (o ≡ Err e))

-- a report was read, and what is left is a shorter end of the text t; or there is none; or there is a fault, which may be
-- want of memory
abbrev pub IsRead : Told → (t : List ℕ) → Result (Option Report) Fault → Type 0
IsRead o t r =
    MatchResult r
    (λ x. options.MatchOption x (o ≡ Ok None)
    (λ y. (o ≡ Ok (Some (drafted y.draft, vec_items y.claims, y.rest.number, lines y.rest.text.now))) × (length y.rest.text.now < length t) × IsEnd y.rest.text.now t))
    (λ e. (e.expected ≡ Memory) ⊎ (o ≡ Err e))
