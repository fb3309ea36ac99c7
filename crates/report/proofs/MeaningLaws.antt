-- Laws of what a text of reports means.
use Rattle.std.proofs.Common.{◌≡◌, ℕ, ◌+◌, true, false, Bool, List, [], ◌∷◌, Ok, Err, Result, refl, ◌∙◌}
use Rattle.lines.specs.Words.{bare, words}
use Rattle.fields.specs.declared.fault.Expected.{Expected}
use Rattle.fields.specs.declared.fault.Expected.TheVariants.{ReportEnd}
use Rattle.claim.specs.declared.kinds.Claim.{Claim}
use Rattle.report.specs.Meaning.{Claimed, said, went, claims_from}
use Rattle.report.specs.Read.{added}
use Rattle.report.specs.declared.reading.Said.{Said}
use Rattle.report.specs.declared.reading.Said.TheVariants.{Nothing, Claim as Claims, End}

-- how a text goes on behind a line
abbrev pub gone : Result (Bool × List Claim) Expected → ℕ → List (List ℕ) → (List Claim → Claimed) → Claimed
gone (Ok (false, cs)) n ls more = more cs
gone (Ok (true, cs)) n ls more = Ok (cs, n + 1, ls)
gone (Err e) n ls more = Err (record { line = n; expected = e })

went_gone : (s : Result Said Expected) (n : ℕ) (cs : List Claim) (ls : List (List ℕ)) (more : List Claim → Claimed) → went s n cs ls more ≡ gone (added s cs) n ls more
went_gone (Ok Nothing) n cs ls more = refl
went_gone (Ok (Claims c)) n cs ls more = refl
went_gone (Ok End) n cs ls more = refl
went_gone (Err e) n cs ls more = refl

-- a step of the cursor behind a circuit
pub one_line : {xs ls : List (List ℕ)} {l b : List ℕ} {n k m : ℕ} → k ≡ n → m ≡ n + 1 → xs ≡ l ∷ ls → b ≡ bare l → (cs : List Claim) → claims_from n cs xs ≡ went (said (words b)) k cs ls (λ cs'. claims_from m cs' ls)
unfolding claims_from
one_line k_is m_is first b_is cs = rw (first, k_is, m_is, b_is) refl

-- the same, by what becomes of the claims
pub one_added : {xs ls : List (List ℕ)} {l b : List ℕ} {n k m : ℕ} → k ≡ n → m ≡ n + 1 → xs ≡ l ∷ ls → b ≡ bare l → (cs : List Claim) → claims_from n cs xs ≡ gone (added (said (words b)) cs) k ls (λ cs'. claims_from m cs' ls)
one_added {ls = ls} {b = b} {k = k} {m = m} k_is m_is first b_is cs = one_line k_is m_is first b_is cs ∙ went_gone (said (words b)) k cs ls (λ cs'. claims_from m cs' ls)

pub no_line : (n : ℕ) (cs : List Claim) {xs : List (List ℕ)} → xs ≡ [] → claims_from n cs xs ≡ Err (record { line = n; expected = ReportEnd })
unfolding claims_from
no_line n cs none = rw none refl
