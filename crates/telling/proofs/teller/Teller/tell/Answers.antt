use Rattle.std.proofs.Common.{arith}
use Rattle.std.proofs.lemmas.List.{with_items_is}
use Rattle.telling.proofs.Whole.{told_whole}
use Rattle.telling.proofs.teller.Teller.tell.Goals as goal

pub returns : goal.returns
returns c =
    let b = c.args.bench in
    let k = b.circuit in
    let y = c.args.self.now in
    let clocks = with_items_is y.clocks c.follow.new.clocks (omega arith) in (
      c.in_ok-suits.ensures,
      told_whole b.script.now k.gates.now k.registers.now k.times.now c.args.t c.args.cycles.now y _ c.tell_delays.ensures.on c.tell_delays.ensures.told c.tell_shows.ensures.on c.tell_shows.ensures.told
          (rw clocks (rw c.deref_mut.ensures.value at c.follow.ensures)),
    )
