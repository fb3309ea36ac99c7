use Rattle.std.proofs.Common.{◌≤◌, arith}
use Rattle.serde_json.specs.Data.{depth}
use Rattle.serde_json.specs.View.{view}
use Rattle.as_json.proofs.Depths.{after_push}
use Rattle.as_json.proofs.worst.signals_of.Goals as goal

pub loop-pin-preserved : goal.loop-pin-preserved
loop-pin-preserved c =
    let flat : depth (view c.from-in-loop-pin.result) ≤ 0 = rw c.from-in-loop-pin.ensures (omega arith) in
    rw c.in_ok-push-2.ensures.ok (after_push 0 c.loop-pin.signals.items c.from-in-loop-pin.result c.loop-pin.invariant flat)
