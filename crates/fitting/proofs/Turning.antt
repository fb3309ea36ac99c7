-- The clocks of one register, statement by statement.
use Rattle.std.proofs.Common.{◌≡◌, ℕ, suc, ◌+◌, ◌-◌, ◌*◌, ◌^◌, ◌<◌, ◌≤◌, ◌⊎◌, List, length, Some, Option, sym, inl, inr, arith}
use Rattle.circuit.specs.Lent.{period}
use Rattle.script.specs.declared.entry.Entry.{Entry}
use Rattle.script.specs.declared.script.Script.{Script}
use Rattle.script.specs.Entries.{no_entry, entry, Ordered}
use Rattle.script.specs.Told.{clock_told}
use Rattle.fitting.specs.Misfit.{FirstMisfit, FirstMisfitIn, earlier, TurnOf}
use Rattle.fitting.proofs.Firsts.{fit_more, misfit_more}

-- after i statements: the clock of cycle n is known, no statement to come is before the next cycle, and the first line is that of the misfits so far
pub record Walked (s : Script) (g r ts : List ℕ) (q : ℕ) (es : List Entry) (i n clock : ℕ) (first : Option ℕ) : Type 0 where
  pub clock_is : clock ≡ clock_told s g r ts n q
  pub small : n < 2 ^ 32
  pub bound : clock ≤ n * period ts + n + 2 ^ 32
  pub to_come : (j : ℕ) → i ≤ j → j < length es → n ≤ (entry es j).when - 1
  pub so_far : FirstMisfit (TurnOf s g r ts q) es i first

module _ {s : Script} {g r ts : List ℕ} {q : ℕ} {es : List Entry} {i n clock : ℕ} {first : Option ℕ} (walked : Walked s g r ts q es i n clock first) where
  -- all were looked at
  pub all_walked : (es' : List Entry) → es ≡ es' → i ≡ length es → FirstMisfitIn (TurnOf s g r ts q) es' first
  all_walked es' same all = rw (← same, ← all) walked.so_far

  -- one that is about another register, or in the first cycle
  pub passed_by : (((entry es i).who ≡ q → ⊥) ⊎ ((entry es i).when ≡ 0)) → Walked s g r ts q es (i + 1) n clock first
  passed_by other = record {
    clock_is = walked.clock_is;
    small = walked.small;
    bound = walked.bound;
    to_come = λ j l h. walked.to_come j (omega arith) h;
    so_far = fit_more (TurnOf s g r ts q) es i first (fits other) walked.so_far;
  }
    where
      fits : (((entry es i).who ≡ q → ⊥) ⊎ ((entry es i).when ≡ 0)) → TurnOf s g r ts q (entry es i)
      fits (inl ne) = λ e. absurd (ne e)
      fits (inr z) = λ e m w. absurd (omega arith)

  -- one of its clocks, which comes after the one before it or does not
  pub looked_at : (c : ℕ) (after : Option ℕ) → Ordered es → i < length es → (entry es i).who ≡ q → 0 < (entry es i).when → (entry es i).when < 2 ^ 32 →
      c ≡ clock_told s g r ts ((entry es i).when - 1) q → c ≤ ((entry es i).when - 1) * period ts + ((entry es i).when - 1) + 2 ^ 32 →
      ((c < (entry es i).when * period ts + (entry es i).one) × (after ≡ first)) ⊎ (((entry es i).when * period ts + (entry es i).one ≤ c) × (after ≡ earlier first (Some (entry es i).line))) →
      Walked s g r ts q es (i + 1) ((entry es i).when - 1) c after
  looked_at c after order h who some low is bound next = record {
    clock_is = is;
    small = omega arith;
    bound = bound;
    to_come = λ j l b. omega (arith, order i j no_entry (omega arith) b);
    so_far = elim next [
      | inl fits ↦ rw fits.1 (fit_more (TurnOf s g r ts q) es i first (λ w m e. rw (before m e) fits.0) walked.so_far)
      | inr not ↦ rw not.1 (misfit_more (TurnOf s g r ts q) es i first (bad not.0) walked.so_far)
    ];
  }
    where
      before : (m : ℕ) → (entry es i).when ≡ suc m → clock_told s g r ts m (entry es i).who ≡ c
      before m e = let z : (entry es i).when - 1 ≡ m = omega arith in rw who (rw z at (sym is))

      bad : (entry es i).when * period ts + (entry es i).one ≤ c → TurnOf s g r ts q (entry es i) → ⊥
      bad f turn =
          let e : (entry es i).when ≡ suc ((entry es i).when - 1) = omega arith in
          let l = rw (before ((entry es i).when - 1) e) at (turn who ((entry es i).when - 1) e) in
          omega (arith, f)
