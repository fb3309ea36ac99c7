use Rattle.std.proofs.Common.{◌≡◌, arith}
use Rattle.circuit.specs.Checked.{registers_of}
use Rattle.telling.proofs.Following.{none_followed, same_followed, next_followed}
use Rattle.telling.proofs.clocks_told.follow.Goals as goal
use Rattle.telling.proofs.clocks_told.follow.Goals.{then-clocks-r, else-clocks-r}

pub loop-r-init : goal.loop-r-init
loop-r-init c = none_followed _ _ _ _ _ _

pub loop-r-preserved : goal.loop-r-preserved
loop-r-preserved c =
    let k = c.args.bench.circuit in
    let cycles = c.args.cycles.now in
    elim c.if-clocks-r.branch [
      | then-clocks-r w ↦ rw w.clocks-is
          (next_followed c.args.bench.script.now k.gates.now k.registers.now k.times.now cycles c.loop-r.invariant (omega arith) w.if-clocks-r.true w.go_on.ensures)
      | else-clocks-r w ↦ rw w.clocks-is (same_followed c.args.bench.script.now k.gates.now k.registers.now k.times.now cycles c.loop-r.invariant w.if-clocks-r.false)
    ]

pub returns : goal.returns
returns c =
    let all : c.loop-r.r ≡ registers_of c.args.bench.circuit = omega (arith, c.loop-r-test.false, c.loop-r.auto.r-end, c.register_count-r-end.ensures) in
    rw all at c.loop-r.invariant
