use Rattle.std.proofs.Common.{◌≡◌, ℕ, ◌+◌, ◌-◌, ◌*◌, ◌%◌, ◌^◌, ap, ◌∙◌, ap₂, arith}
use lib.Bits.{bit_and}
use Rattle.std.proofs.lemmas.Nat.{and_mask, shl_whole, one_shl}
use Rattle.history.specs.Kept.{place}
use Rattle.history.proofs.Ringing.{place_in}
use Rattle.history.proofs.history.History.place.Goals as goal

pub returns : goal.returns
returns c =
    let h = c.args.self.now in
    let e : (c.args.row * 2 ^ h.log) % 2 ^ 64 + bit_and c.args.at ((1 * 2 ^ h.log) % 2 ^ 64 - 1) ≡ place h.log c.args.row c.args.at =
    ap₂ ◌+◌ (shl_whole c.args.row 31 h.log 64 (omega arith) (omega arith)) (ap (λ (n : ℕ). bit_and c.args.at (n - 1)) (one_shl h.log 64 (omega arith)) ∙ and_mask c.args.at h.log) in
    record { spot = e; within = rw e (place_in h.log h.rows c.args.row c.args.at _ c.requires (omega arith)) }
