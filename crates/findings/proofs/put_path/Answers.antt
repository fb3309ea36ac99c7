use Rattle.std.proofs.Common.{◌≡◌, ◌++◌, ◌∷◌, [], vec_items, rules}
use Rattle.findings.specs.Findings.{gate_claim}
use Rattle.findings.proofs.Listing.{gate_more}
use Rattle.findings.proofs.put_path.Goals as goal

pub loop-k-preserved : goal.loop-k-preserved
loop-k-preserved c =
    let pushed : vec_items c.push-in-loop-k.new.self ≡ vec_items c.loop-k.claims ++ (gate_claim c.args.room.now c.loop-k.k ∷ []) = search rules in
    rw pushed (gate_more c.args.room.now c.loop-k.k (vec_items c.args.claims.now) (vec_items c.loop-k.claims) c.loop-k.invariant)
