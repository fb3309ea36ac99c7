use Rattle.std.proofs.Common.{sym, refl, ap, ◌∙◌, arith}
use Rattle.trial.specs.Made.{SameCycle}
use Rattle.trial.proofs.Runs.{same_through, same_cycles, end_small, cycle_is_done}
use Rattle.trial.proofs.running.Trial.cycle.Goals as goal

pub invariant_of-self : goal.invariant_of-self
invariant_of-self c =
    let z = c.step.new.self in
    let same : SameCycle c.args.self.now z = same_through c.loop.invariant c.step.ensures.cycle_same in
    let few = same_cycles c.args.self.now z same in
    let done = same.done_same in
    record { standing = z.standing; few = omega arith; within = omega (arith, z.within); small = omega (arith, end_small z (omega arith)); end = omega (arith, z.end) }

pub returns : goal.returns
returns c =
    let y = c.args.self.now in
    let z = c.step.new.self in
    let same : SameCycle y z = same_through c.loop.invariant c.step.ensures.cycle_same in
    let over = c.loop-test.ensures.over refl in
    (omega arith, omega arith, cycle_is_done y z _ _ _ same (ap (λ t. t.moment) over.0 ∙ over.1 ∙ sym c.step.ensures.cycle_same.ends_same) refl refl refl (rw c.register_count-n.ensures at c.copy_bits.ensures))
