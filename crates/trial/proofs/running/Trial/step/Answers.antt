use mathlib.Core.Logic.{∥∥₁_map}
use Rattle.std.proofs.Common.{add-one, ◌∙◌, arith}
use Rattle.std.proofs.lemmas.Bool.{both_ways}
use Rattle.trial.proofs.Runs.{goes_on}
use Rattle.trial.proofs.running.Trial.step.Goals as goal

pub invariant_of-self : goal.invariant_of-self
invariant_of-self c =
    let y = c.args.self.now in
    let latest = c.go.ensures.latest_same in
    record { standing = ∥∥₁_map y.standing (λ standing. rw (add-one y.moment) (c.go.ensures.goes standing (omega arith)).1); few = y.few; within = omega arith; small = y.small; end = rw latest y.end }

pub invariant_of-self-else-went : goal.invariant_of-self-else-went
invariant_of-self-else-went c =
    let y = c.args.self.now in
    absurd (both_ways c.is_ok-went.result c.if-went.false (c.is_ok-went.ensures.value ∙ goes_on _ _ _ _ y.moment y.room _ c.go.result y.standing (omega arith) c.go.ensures))

pub returns-else-went : goal.returns-else-went
returns-else-went c =
    let y = c.args.self.now in
    absurd (both_ways c.is_ok-went.result c.if-went.false (c.is_ok-went.ensures.value ∙ goes_on _ _ _ _ y.moment y.room _ c.go.result y.standing (omega arith) c.go.ensures))
