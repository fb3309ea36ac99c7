-- What a text of reports means.
use Rattle.std.specs.Prelude.{ℕ, ◌+◌, cond, List, [], ◌∷◌, ◌++◌, Some, None, Ok, Err, codes, Option, Result}
use Rattle.std.specs.Str.{bytes_eq}
use Rattle.lines.specs.Words.{words, bare}
use Rattle.fields.specs.declared.fault.Expected.{Expected}
use Rattle.fields.specs.declared.fault.Expected.TheVariants.{ReportEnd, Nothing as NothingMore}
use Rattle.fields.specs.declared.fault.Fault.{Fault}
use Rattle.text.specs.Meaning.{Drafted, Outcome, first_circuit}
use Rattle.claim.specs.Claims.{claim_of}
use Rattle.claim.specs.declared.kinds.Claim.{Claim}
use Rattle.report.specs.declared.reading.Said.{Said}
use Rattle.report.specs.declared.reading.Said.TheVariants.{Nothing, Claim as Claims, End}

abbrev pub claims : Result Claim Expected → Result Said Expected
claims (Ok c) = Ok (Claims c)
claims (Err e) = Err e

abbrev pub ending : List (List ℕ) → Result Said Expected
ending [] = Ok End
ending (w ∷ ws) = Err NothingMore

-- what the words of a line say behind a circuit: nothing, the end, or a claim
abbrev pub said : List (List ℕ) → Result Said Expected
said [] = Ok Nothing
said (w ∷ ws) = cond (bytes_eq w (codes "end")) (ending ws) (claims (claim_of (w ∷ ws)))

-- the claims up to a report's end, with the number of the next line and the lines from there on; or the first fault
abbrev pub Claimed : Type 0
Claimed = Result (List Claim × ℕ × List (List ℕ)) Fault

abbrev pub went : Result Said Expected → ℕ → List Claim → List (List ℕ) → (List Claim → Claimed) → Claimed
went (Ok Nothing) n cs ls more = more cs
went (Ok (Claims c)) n cs ls more = more (cs ++ c ∷ [])
went (Ok End) n cs ls more = Ok (cs, n + 1, ls)
went (Err e) n cs ls more = Err (record { line = n; expected = e })

-- line after line from line n on, behind the claims cs
unfoldable pub claims_from : ℕ → List Claim → List (List ℕ) → Claimed
claims_from n cs [] = Err (record { line = n; expected = ReportEnd })
claims_from n cs (l ∷ ls) = went (said (words (bare l))) n cs ls (λ cs'. claims_from (n + 1) cs' ls)

-- what was read: a circuit and its claims, with the number of the next line and the lines from there on; nothing; or the
-- first fault
abbrev pub Told : Type 0
Told = Result (Option (Drafted × List Claim × ℕ × List (List ℕ))) Fault

abbrev pub under : Drafted → Claimed → Told
under d (Ok x) = Ok (Some (d, x.0, x.1, x.2))
under d (Err e) = Err e

abbrev pub behind : Outcome → Told
behind (Ok None) = Ok None
behind (Ok (Some x)) = under x.0 (claims_from x.1 [] x.2)
behind (Err e) = Err e

-- THE MEANING OF A TEXT of reports: its first circuit from line n on, with the claims behind it; and then the same of the
-- lines that are left
abbrev pub first_report : ℕ → List (List ℕ) → Told
first_report n ls = behind (first_circuit n ls)
