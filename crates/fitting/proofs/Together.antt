-- All registers, and all that is told.
use Rattle.std.proofs.Common.{◌≡◌, ℕ, ◌+◌, min, List, length, Some, None, Option, sym, refl, ◌∙◌, inl, inr, arith}
use Rattle.std.proofs.lemmas.Bool.{cases_lt, cases_eq}
use Rattle.circuit.specs.Lent.{register_count}
use Rattle.script.specs.declared.entry.Entry.{Entry}
use Rattle.script.specs.declared.script.Script.{Script}
use Rattle.script.specs.Entries.{entry}
use Rattle.script.specs.Told.{DelayFits, ClockFits, Fits}
use Rattle.circuit.specs.declared.refusal.Refusal.TheVariants.{OutOfBounds}
use Rattle.fitting.specs.Misfit.{FirstMisfitIn, earlier, ClockWithin, TurnOf, TurnsBelow, Misfit}
use Rattle.fitting.proofs.Firsts.{misfit_same, misfit_both}

module _ (s : Script) (g r ts : List ℕ) where
  abbrev clocks : List Entry
  clocks = s.clocks

  abbrev delays : List Entry
  delays = s.delays

  pub turns_none : FirstMisfitIn (TurnsBelow s g r ts 0) clocks None
  turns_none i h l = absurd (omega arith)

  -- one register more
  pub turns_more : (q : ℕ) (a b c : Option ℕ) → c ≡ earlier a b → FirstMisfitIn (TurnsBelow s g r ts q) clocks a → FirstMisfitIn (TurnOf s g r ts q) clocks b →
      FirstMisfitIn (TurnsBelow s g r ts (q + 1)) clocks c
  turns_more q a b c e below at =
      rw e (misfit_same (λ x. TurnsBelow s g r ts q x × TurnOf s g r ts q x) (TurnsBelow s g r ts (q + 1)) clocks (length clocks) (earlier a b)
      (λ i h both l. elim (cases_eq (entry clocks i).who q) [ inl is ↦ both.1 is | inr ne ↦ both.0 (omega (arith, ne)) ])
      (λ i h all. (λ l. all (omega arith), λ is. all (omega arith)))
      (misfit_both (TurnsBelow s g r ts q) (TurnOf s g r ts q) clocks (length clocks) a b below at))

  -- clocks within bounds, and in turn
  clocks_fit : (a b c : Option ℕ) → c ≡ earlier a b → FirstMisfitIn (ClockWithin r) clocks a → FirstMisfitIn (TurnsBelow s g r ts (register_count r)) clocks b →
      FirstMisfitIn (ClockFits s g r ts) clocks c
  clocks_fit a b c e within turns =
      rw e (misfit_same (λ x. ClockWithin r x × TurnsBelow s g r ts (register_count r) x) (ClockFits s g r ts) clocks (length clocks) (earlier a b)
      (λ i h both. record { register = both.0.register; within = both.0.within; in_turn = both.1 both.0.register })
      (λ i h all. (record { register = all.register; within = all.within }, λ l. all.in_turn))
      (misfit_both (ClockWithin r) (TurnsBelow s g r ts (register_count r)) clocks (length clocks) a b within turns))

  pub fitting : (a b c d : Option ℕ) → c ≡ earlier a b → None ≡ earlier d c → FirstMisfitIn (ClockWithin r) clocks a →
      FirstMisfitIn (TurnsBelow s g r ts (register_count r)) clocks b → FirstMisfitIn (DelayFits s g r ts) delays d → Fits s g r ts
  fitting a b c d e f within turns ranged = fit c d f (clocks_fit a b c e within turns) ranged
    where
      fit : (c d : Option ℕ) → None ≡ earlier d c → FirstMisfitIn (ClockFits s g r ts) clocks c → FirstMisfitIn (DelayFits s g r ts) delays d → Fits s g r ts
      fit None None f c d = record { delays = d; clocks = c }
      fit (Some l) None f c d = absurd (let z : ◌≡◌ {A = ℕ} 0 1 = cc in omega arith)
      fit None (Some m) f c d = absurd (let z : ◌≡◌ {A = ℕ} 0 1 = cc in omega arith)
      fit (Some l) (Some m) f c d = absurd (let z : ◌≡◌ {A = ℕ} 0 1 = cc in omega arith)

  pub misfitting : (a b c d : Option ℕ) (l : ℕ) → c ≡ earlier a b → Some l ≡ earlier d c → FirstMisfitIn (ClockWithin r) clocks a →
      FirstMisfitIn (TurnsBelow s g r ts (register_count r)) clocks b → FirstMisfitIn (DelayFits s g r ts) delays d → Misfit s g r ts (OutOfBounds l)
  misfitting a b c d l e f within turns ranged = misfit c d f (clocks_fit a b c e within turns) ranged
    where
      misfit : (c d : Option ℕ) → Some l ≡ earlier d c → FirstMisfitIn (ClockFits s g r ts) clocks c → FirstMisfitIn (DelayFits s g r ts) delays d → Misfit s g r ts (OutOfBounds l)
      misfit None None f c d = absurd (let z : ◌≡◌ {A = ℕ} 0 1 = cc in omega arith)
      misfit (Some m) None f ((i, h, at, bad), before) d =
          let e : l ≡ m = cc in
          record { line = l; is = refl; there = inr (i, h, at ∙ sym e, bad); delays_before = λ j b q. d j b; clocks_before = λ j b q. before j b (omega arith) }
      misfit None (Some n) f c ((i, h, at, bad), before) =
          let e : l ≡ n = cc in
          record { line = l; is = refl; there = inl (i, h, at ∙ sym e, bad); delays_before = λ j b q. before j b (omega arith); clocks_before = λ j b q. c j b }
      misfit (Some m) (Some n) f ((j, k, on, worse), after) ((i, h, at, bad), before) =
          let e : l ≡ min n m = cc in
          record {
            line = l;
            is = refl;
            there = elim (cases_lt m n) [ inl less ↦ inr (j, k, omega (arith, on), worse) | inr more ↦ inl (i, h, omega (arith, at), bad) ];
            delays_before = λ j b q. before j b (omega arith);
            clocks_before = λ j b q. after j b (omega arith);
          }
