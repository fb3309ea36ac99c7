use mathlib.Core.Bool.{beq}
use Rattle.std.proofs.Common.{◌≡◌, sym, ap, ◌∙◌, Some, Bool, true, false, not, arith}
use Rattle.history.specs.Kept.{kept}
use Rattle.simulation.proofs.Running.{still_kept, still_not}
use Rattle.step.proofs.registers.still.Goals as goal

differ : (a b : Bool) → not (beq a b) ≡ true → a ≡ b → ⊥
differ true true h e = cc
differ true false h e = cc
differ false true h e = cc
differ false false h e = cc

pub returns-then-get-bit : goal.returns-then-get-bit
returns-then-get-bit c =
    let f = kept c.args.past.now c.args.signal in
    sym (still_not f c.args.from c.args.end c.loop-u.u c.loop-u.auto.u c.loop-u-test.true (λ e. differ _ _ c.if-get-bit.true (c.get.ensures ∙ e ∙ sym c.get-bit.ensures)))

pub returns : goal.returns
returns c =
    let f = kept c.args.past.now c.args.signal in
    let same = still_kept f c.args.from c.args.end (λ u l h. c.loop-u.invariant u l (omega arith) ∙ c.get-bit.ensures) in
    ap (λ (b : Bool). Some b) c.get-bit.ensures ∙ sym same
