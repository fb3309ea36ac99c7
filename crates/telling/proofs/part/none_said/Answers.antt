use Rattle.std.proofs.Common.{◌≡◌, None, replicate, vec_items, rules}
use Rattle.std.proofs.lemmas.Result.{IfOk-weaker}
use Rattle.telling.proofs.part.none_said.Goals as goal

pub returns : goal.returns
returns c = IfOk-weaker c.vec.result _ (λ v. vec_items v ≡ replicate c.args.n None) (λ v items. items (λ y e. search rules)) c.vec.ensures.items_if_clones_equal
