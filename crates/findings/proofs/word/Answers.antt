use Rattle.circuit.proofs.Known.{whole_of}
use Rattle.findings.proofs.Small.{small_word}
use Rattle.findings.proofs.word.Goals as goal

pub returns : goal.returns
returns c =
    let m = c.args.circuit in
    let says = c.verdict_on.ensures in
    record { says = says; small = small_word m.gates.now m.registers.now m.times.now (whole_of m) c.args.room.now c.verdict_on.new.room c.verdict_on.result says }
