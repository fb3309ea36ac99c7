-- The first line of a misfit, statement by statement.
use Rattle.std.proofs.Common.{◌≡◌, ℕ, ◌+◌, ◌<◌, min, Bool, true, false, List, length, Some, None, Option, refl, inl, inr, arith, below_more}
use Rattle.std.specs.Bool.{Decides}
use Rattle.std.proofs.lemmas.Bool.{cases_lt, both_ways}
use Rattle.script.specs.declared.entry.Entry.{Entry}
use Rattle.script.specs.Entries.{entry}
use Rattle.fitting.specs.Misfit.{FirstMisfit, FirstMisfitIn, earlier}

module _ (P : Entry → Type 0) (es : List Entry) (n : ℕ) where
  -- one more that fits
  pub fit_more : (o : Option ℕ) → P (entry es n) → FirstMisfit P es n o → FirstMisfit P es (n + 1) o
  fit_more None fits all = below_more (λ i. P (entry es i)) n all fits
  fit_more (Some l) fits ((i, h, at, bad), before) = ((i, omega arith, at, bad), below_more (λ j. (entry es j).line < l → P (entry es j)) n before (λ _. fits))

  -- one more that does not
  pub misfit_more : (o : Option ℕ) → (P (entry es n) → ⊥) → FirstMisfit P es n o → FirstMisfit P es (n + 1) (earlier o (Some (entry es n).line))
  misfit_more None bad all = ((n, omega arith, refl, bad), below_more (λ j. (entry es j).line < (entry es n).line → P (entry es j)) n (λ j l _. all j l) (λ l. absurd (omega arith)))
  misfit_more (Some l) bad ((i, h, at, worse), before) = (first, rest)
    where
      first : (j : ℕ) × (j < n + 1) × ((entry es j).line ≡ min l (entry es n).line) × (P (entry es j) → ⊥)
      first = elim (cases_lt (entry es n).line l) [
        | inl less ↦ (n, omega arith, omega arith, bad)
        | inr more ↦ (i, omega arith, omega (arith, at), worse)
      ]

      rest : (j : ℕ) → j < n + 1 → (entry es j).line < min l (entry es n).line → P (entry es j)
      rest = below_more (λ j. (entry es j).line < min l (entry es n).line → P (entry es j)) n (λ j b q. before j b (omega arith)) (λ q. absurd (omega arith))

-- one more by a test that decides
module _ (P : Entry → Type 0) (test : Entry → Bool) (decides : (e : Entry) → Decides (test e) (P e)) (es : List Entry) (n : ℕ) (o : Option ℕ) (so_far : FirstMisfit P es n o) where
  pub passed_more : test (entry es n) ≡ true → FirstMisfit P es (n + 1) o
  passed_more passes = fit_more P es n o ((decides (entry es n)).0 passes) so_far

  pub failed_more : test (entry es n) ≡ false → FirstMisfit P es (n + 1) (earlier o (Some (entry es n).line))
  failed_more fails = misfit_more P es n o (λ p. both_ways (test (entry es n)) fails ((decides (entry es n)).1 p)) so_far

-- all were looked at
pub all_looked_at : (P : Entry → Type 0) (es es' : List Entry) (n : ℕ) (o : Option ℕ) → es ≡ es' → n ≡ length es → FirstMisfit P es n o → FirstMisfitIn P es' o
all_looked_at P es es' n o same all so_far = rw (← same, ← all) so_far

-- the same of another property that comes to the same
pub misfit_same : (P Q : Entry → Type 0) (es : List Entry) (n : ℕ) (o : Option ℕ) → ((i : ℕ) → i < n → P (entry es i) → Q (entry es i)) → ((i : ℕ) → i < n → Q (entry es i) → P (entry es i)) → FirstMisfit P es n o → FirstMisfit Q es n o
misfit_same P Q es n None to from all = λ i h. to i h (all i h)
misfit_same P Q es n (Some l) to from ((i, h, at, bad), before) = ((i, h, at, λ q. bad (from i h q)), λ j b q. to j b (before j b q))

-- two properties together
pub misfit_both : (P Q : Entry → Type 0) (es : List Entry) (n : ℕ) (a b : Option ℕ) → FirstMisfit P es n a → FirstMisfit Q es n b → FirstMisfit (λ e. P e × Q e) es n (earlier a b)
misfit_both P Q es n None None p q = λ i h. (p i h, q i h)
misfit_both P Q es n None (Some m) p ((j, k, on, worse), after) = ((j, k, on, λ z. worse z.1), λ i h l. (p i h, after i h l))
misfit_both P Q es n (Some l) None ((i, h, at, bad), before) q = ((i, h, at, λ z. bad z.0), λ j k m. (before j k m, q j k))
misfit_both P Q es n (Some l) (Some m) ((i, h, at, bad), before) ((j, k, on, worse), after) = (first, λ e b c. (before e b (omega arith), after e b (omega arith)))
  where
    first : (e : ℕ) × (e < n) × ((entry es e).line ≡ min l m) × (P (entry es e) × Q (entry es e) → ⊥)
    first = elim (cases_lt m l) [
      | inl less ↦ (j, k, omega (arith, on), λ z. worse z.1)
      | inr more ↦ (i, h, omega (arith, at), λ z. bad z.0)
    ]
