use Rattle.std.proofs.Common.{◌<◌, length, ◌∙◌, sym, arith}
use Rattle.cone.proofs.TimeLaws.{known_more, known_same, source_is}
use Rattle.cone.proofs.times.fill_registers.Goals as goal
use Rattle.cone.proofs.times.fill_registers.Goals.{then-marks-r, else-marks-r}

pub loop-r-preserved : goal.loop-r-preserved
loop-r-preserved c =
    let room : c.loop-r.r < length c.loop-r.times = omega arith in
    elim c.if-marks-r.branch [
      | then-marks-r w ↦ rw w.times-is (known_more c.args.edge c.args.circuit c.args.marks.now c.loop-r.r c.loop-r.times c.loop-r.invariant w.launch.result room
          (w.launch.ensures ∙ sym (source_is c.args.edge c.args.circuit c.loop-r.r (omega arith))))
      | else-marks-r w ↦ rw w.times-is (known_same c.args.edge c.args.circuit c.args.marks.now c.loop-r.r c.loop-r.times c.loop-r.invariant w.if-marks-r.false)
    ]
