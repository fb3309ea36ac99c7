use Rattle.std.proofs.Common.{◌≡◌, ◌<◌, ◌++◌, ◌∷◌, [], vec_items, rules, arith}
use Rattle.circuit.specs.Checked.{of, registers_of}
use Rattle.promise.specs.Machine.{machine_in}
use Rattle.findings.specs.Findings.{margin_claim}
use Rattle.findings.proofs.Listing.{one_more}
use Rattle.findings.proofs.put_margins.Goals as goal

pub loop-r-preserved : goal.loop-r-preserved
loop-r-preserved c =
    let m = of c.args.circuit machine_in in
    let inside : c.loop-r.r < registers_of c.args.circuit = omega arith in
    let in_room = c.in-Ok.ensures.1 in
    let setup = in_room.setup c.loop-r.r inside in
    let hold = in_room.hold c.loop-r.r inside in
    let pushed : vec_items c.push.new.self ≡ vec_items c.loop-r.claims ++ (margin_claim m c.loop-r.r ∷ []) = rw (← setup, ← hold) (search rules) in
    rw pushed (one_more (margin_claim m) c.loop-r.r (vec_items c.args.claims.now) (vec_items c.loop-r.claims) c.loop-r.invariant)
