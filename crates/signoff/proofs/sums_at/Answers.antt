use Rattle.std.proofs.Common.{◌≡◌, ◌+◌, ◌^◌, ◌<◌, get_or, ap, ◌∙◌, arith, rules}
use Rattle.circuit.specs.Lent.{takes}
use Rattle.circuit.proofs.Known.{sound_of, taken_of, times_small}
use Rattle.arrival.specs.declared.edge.Edge.TheVariants.{Late}
use Rattle.arrival.proofs.Turns.{time_small}
use Rattle.signoff.proofs.sums_at.Goals as goal

pub overflow_add-arrival : goal.overflow_add-arrival
overflow_add-arrival c =
    let m = c.args.a.circuit in
    let signal = takes m.registers.now c.args.r in
    let is : c.from-register.result.signal ≡ signal = ap (λ x. x.signal) (c.from-register.ensures ∙ c.registers.ensures.each _ c.requires) in
    let inside = taken_of m c.args.r c.requires in
    let small = time_small Late m.gates.now m.registers.now m.times.now m.few m.small (sound_of m) signal inside in
    let known = c.args.a.late signal inside in
    let setup = times_small m 3 in
    let fits : get_or c.args.a.latest.now c.from-register.result.signal 0 + c.from.result < 2 ^ 64 = rw is (omega arith) in
    search rules
