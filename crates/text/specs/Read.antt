-- What the reader answers, by what a text means.
use Rattle.std.specs.Prelude.{◌≡◌, ℕ, ◌<◌, ◌≤◌, ◌⊎◌, List, length, Some, None, Ok, Err, Option, Result, MatchResult}
use Rattle.std.specs.Option as options
use Rattle.lines.specs.Words.{lines, IsEnd}
use Rattle.fields.specs.declared.fault.Expected.TheVariants.{Memory}
use Rattle.fields.specs.declared.fault.Fault.{Fault}
use Rattle.text.specs.declared.draft.Draft.{Draft}
use Rattle.text.specs.declared.draft.Read.{Read}
use Rattle.text.specs.Meaning.{Drafted, Outcome, drafted, inside}

-- a circuit was read, and what is left is an end of the text t; or there is a fault, which may be want of memory
abbrev pub WasRead : Outcome → (t : List ℕ) → Result Read Fault → Type 0
WasRead o t r =
    MatchResult r
    (λ x. (o ≡ Ok (Some (drafted x.draft, x.rest.number, lines x.rest.text.now))) × (length x.rest.text.now ≤ length t) × IsEnd x.rest.text.now t)
    (λ e. (e.expected ≡ Memory) ⊎ (o ≡ Err e))

-- the same where there may be no circuit, and what is left is shorter
abbrev pub IsRead : Outcome → (t : List ℕ) → Result (Option Read) Fault → Type 0
IsRead o t r =
    MatchResult r
    (λ x. options.MatchOption x (o ≡ Ok None) (λ y. (o ≡ Ok (Some (drafted y.draft, y.rest.number, lines y.rest.text.now))) × (length y.rest.text.now < length t) × IsEnd y.rest.text.now t))
    (λ e. (e.expected ≡ Memory) ⊎ (o ≡ Err e))

-- the code's answer r for the lines of the text t inside of a circuit, which is d at its end, with the number n and the text u after it
abbrev pub ToEnd : Outcome → (t : List ℕ) → Drafted → (n : ℕ) (u : List ℕ) → Result (Unit {0}) Fault → Type 0
ToEnd o t d n u r = MatchResult r (λ _. (o ≡ Ok (Some (d, n, lines u))) × (length u ≤ length t) × IsEnd u t) (λ e. (e.expected ≡ Memory) ⊎ (o ≡ Err e))

-- the code's answer r for the lines of the text t outside of a circuit, up to the beginning of one, with the number n and the text u after it
abbrev pub FirstOpened : Outcome → (t : List ℕ) (n : ℕ) (u : List ℕ) → Result (Option Draft) Fault → Type 0
FirstOpened o t n u r =
    MatchResult r
    (λ x. options.MatchOption x (o ≡ Ok None) (λ d. (o ≡ inside n (drafted d) (lines u)) × (length u < length t) × IsEnd u t))
    (λ e. (e.expected ≡ Memory) ⊎ (o ≡ Err e))
