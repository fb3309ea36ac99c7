use Rattle.std.proofs.Common.{ℕ, eqb, ap}
use Rattle.std.proofs.lemmas.Nat.{and_mask}
use Rattle.history.specs.Kept.{bit_in}
use Rattle.history.proofs.keeping.bit_at.Goals as goal

pub returns : goal.returns
unfolding bit_in
returns c = ap (λ (h : ℕ). eqb h 1) (and_mask _ 1)
