use Rattle.std.proofs.Common.{◌≤◌, arith}
use Rattle.serde_json.specs.Data.{depth}
use Rattle.serde_json.specs.View.{view}
use Rattle.as_json.proofs.Depths.{after_push}
use Rattle.as_json.proofs.object.signals.Goals as goal

pub loop-i-preserved-in-loop-i : goal.loop-i-preserved-in-loop-i
loop-i-preserved-in-loop-i c =
    let flat : depth (view c.from.result) ≤ 0 = rw c.from.ensures (omega arith) in
    rw c.in_ok-push.ensures.ok (after_push 0 c.loop-i.signals.items c.from.result c.loop-i.invariant flat)
