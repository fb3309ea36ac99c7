use Rattle.std.proofs.Common.{refl, arith, rules}
use Rattle.std.proofs.lemmas.List.Sorted.{IsNonDecreasingBy-push}
use Rattle.script.proofs.entries.Entries.push.Goals as goal

pub invariant_of-self : goal.invariant_of-self
invariant_of-self c = rw c.in_ok-push.ensures.items (IsNonDecreasingBy-push (λ e. e.when) _ c.args.e c.self.invariant (λ d h. grind (arith, rules)))

pub returns-in_ok-push : goal.returns-in_ok-push
returns-in_ok-push c = rw c.if-fits.true (rw (c.in_ok-push.ensures.items, ← c.self.view_is) refl, rw c.in_ok-push.ensures.items (IsNonDecreasingBy-push (λ e. e.when) _ c.args.e c.self.invariant (λ d h. grind (arith, rules))))
