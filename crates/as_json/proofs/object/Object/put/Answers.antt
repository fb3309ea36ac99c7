use Rattle.as_json.proofs.Depths.{still}
use Rattle.as_json.proofs.object.Object.put.Goals as goal

pub invariant_of-self : goal.invariant_of-self
invariant_of-self c = record { shallow = still c.put.result _ _ _ _ 3 c.put.ensures.ok c.put.ensures.err c.requires c.args.self.now.shallow }

pub returns : goal.returns
returns c = λ n value members. still c.put.result _ _ _ _ n c.put.ensures.ok c.put.ensures.err value members
