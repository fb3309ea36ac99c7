use Rattle.std.proofs.Common.{refl, ◌∙◌, ap₂}
use Rattle.std.proofs.lemmas.Bool.{lt-ltb, le-ltb}
use Rattle.history.specs.Kept.{bit_in, kept}
use Rattle.history.proofs.history.History.get.Goals as goal

pub returns-then-row-self : goal.returns-then-row-self
unfolding kept
returns-then-row-self c = rw (lt-ltb _ _ c.if-row-self.true) (c.bit_at.ensures ∙ ap₂ bit_in c.deref.ensures.value c.place.ensures.spot)

pub returns-else-row-self : goal.returns-else-row-self
unfolding kept
returns-else-row-self c = rw (le-ltb _ _ c.if-row-self.false) refl
