use Rattle.std.proofs.Common.{◌+◌, ◌*◌, ◌^◌, ◌<◌, refl, arith}
use Rattle.std.proofs.lemmas.Nat.{shl_whole}
use Rattle.history.proofs.Ringing.{fresh_of}
use Rattle.history.proofs.history.History.new.Goals as goal
use Rattle.history.proofs.history.History.new.Goals.{then-rows-le-MOST+then-back-lt-MOST, else-rows-le-MOST}

pub returns : goal.returns
returns c =
    let b = c.bits_of-log.ensures in
    let v = c.in_ok-words.ensures in
    let log = c.bits_of-log.result in
    let small : 64 * c.if-rows-le-MOST.count < c.args.rows * 2 ^ log + 64 = elim c.if-rows-le-MOST.branch [
      | then-rows-le-MOST+then-back-lt-MOST w ↦ omega (arith, w.div_ceil-count.ensures, shl_whole c.args.rows 32 log 64 (omega arith) (omega (arith, b.low (omega arith))))
      | else-rows-le-MOST w ↦ absurd (grind arith)
    ] in
    fresh_of _ c.args.rows c.args.back c.if-rows-le-MOST.count refl b.above b.least (v.items_if_clones_equal (λ y e. e)) v.len small
