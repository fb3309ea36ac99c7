use Rattle.std.proofs.Common.{◌^◌, ◌-◌, ◌∙◌, inl, inr, arith}
use Rattle.std.proofs.lemmas.Nat.{mul-le}
use Rattle.script.specs.Entries.{Ordered}
use Rattle.fitting.proofs.Turning.{all_walked, passed_by, looked_at}
use Rattle.fitting.proofs.misfit_turn.Goals as goal
use Rattle.fitting.proofs.misfit_turn.Goals.{then-e-r+then-when-gt0+then-clock-when, then-e-r+then-when-gt0+else-clock-when, else-e-r}

pub overflow_add-when : goal.overflow_add-when
overflow_add-when c = omega (arith, c.from-one.ensures, mul-le c.from-when.result c.from-period.result (2 ^ 32 - 1) (2 ^ 32 - 1) (omega (arith, c.from-when.ensures)) (omega (arith, c.from-period.ensures)))

pub loop-e-preserved : goal.loop-e-preserved
loop-e-preserved c =
    let order : Ordered c.as_slice-e-items.result.now = rw c.as_slice-e-items.ensures.items c.as_slice-e-items.ensures.ordered in
    elim c.if-e-r.branch [
      | then-e-r+then-when-gt0+then-clock-when w ↦ rw (w.n-is, w.clock-is, c.from-when.ensures)
          (looked_at c.loop-e.invariant _ _ order c.loop-e-test.true w.if-e-r.true (rw c.from-when.ensures at w.if-when-gt0.true) (omega arith) (rw c.from-when.ensures at w.walk-clock.ensures.value) (rw c.from-when.ensures at w.walk-clock.ensures.bound)
          (inr (rw (c.from-when.ensures, c.from-one.ensures, c.from-period.ensures, c.period.ensures) at w.if-clock-when.true, w.first-is ∙ w.earlier-first.ensures)))
      | then-e-r+then-when-gt0+else-clock-when w ↦ rw (w.n-is, w.clock-is, c.from-when.ensures)
          (looked_at c.loop-e.invariant _ _ order c.loop-e-test.true w.if-e-r.true (rw c.from-when.ensures at w.if-when-gt0.true) (omega arith) (rw c.from-when.ensures at w.walk-clock.ensures.value) (rw c.from-when.ensures at w.walk-clock.ensures.bound)
          (inl (rw (c.from-when.ensures, c.from-one.ensures, c.from-period.ensures, c.period.ensures) at w.if-clock-when.false, w.first-is)))
      | else-e-r w ↦ rw (w.first-is, w.n-is, w.clock-is) (passed_by c.loop-e.invariant (elim w.else-e-r.either [ inl a ↦ inr (omega arith) | inr b ↦ inl b ]))
    ]

pub returns : goal.returns
returns c = all_walked c.loop-e.invariant _ c.as_slice-e-items.ensures.items (omega arith)
