use Rattle.std.proofs.Common.{◌≡◌, ◌+◌, ◌*◌, length, refl, ap, inr, arith}
use Rattle.circuit.proofs.Known.{sound_of}
use Rattle.circuit.specs.Lent.{register_count, drawn}
use Rattle.circuit.specs.declared.refusal.Refusal.TheVariants.{NoRoom}
use Rattle.arrival.specs.Lent.{source}
use Rattle.path.specs.Path.{told, written}
use Rattle.path.proofs.Telling.{told_lent_first, told_lent_fits}
use Rattle.path.proofs.Writing.{written_length}
use Rattle.path.proofs.path.Goals as goal

pub returns-then-out-len : goal.returns-then-out-len
returns-then-out-len c =
    let m = c.args.a.circuit in
    let w = told c.args.edge (drawn m.gates.now m.registers.now) (source c.args.edge m.registers.now m.times.now) c.args.signal in
    let first = told_lent_first c.args.edge m.gates.now m.registers.now m.times.now (sound_of m) c.args.signal (omega arith) in
    let l = written_length (register_count m.registers.now) w.1 in
    let e : 1 + 2 * c.gates_on-count.result ≡ length (written (register_count m.registers.now) w) = omega (arith, c.gates_on-count.ensures.steps) in
    let fits = told_lent_fits c.args.edge m.gates.now m.registers.now m.times.now (sound_of m) c.args.signal (omega arith) in
    (inr (omega arith, (w.0, w.1, first, omega arith, omega arith, ap NoRoom e)), refl)

pub returns : goal.returns
returns c =
    let m = c.args.a.circuit in
    let w = told c.args.edge (drawn m.gates.now m.registers.now) (source c.args.edge m.registers.now m.times.now) c.args.signal in
    let first = told_lent_first c.args.edge m.gates.now m.registers.now m.times.now (sound_of m) c.args.signal (omega arith) in
    let l = written_length (register_count m.registers.now) w.1 in
    let e : 1 + 2 * c.gates_on-count.result ≡ length (written (register_count m.registers.now) w) = omega (arith, c.gates_on-count.ensures.steps) in
    (omega arith, (w.0, w.1, first, e, omega arith, c.put.ensures))
