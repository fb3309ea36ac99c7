use Rattle.as_json.proofs.Depths.{after_push}
use Rattle.as_json.proofs.worst.paths_of.Goals as goal

pub loop-path-preserved : goal.loop-path-preserved
loop-path-preserved c = rw c.in_ok-push.ensures.ok (after_push 2 c.loop-path.list.items c.in_ok-path_of.field-0 c.loop-path.invariant c.in_ok-path_of.ensures)
