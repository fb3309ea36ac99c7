use Rattle.std.proofs.Common.{ℕ, arith, rules}
use Rattle.circuit.specs.Whole.{Small}
use Rattle.circuit.proofs.Joined.{in_gates, in_registers, in_times, registers_small, times_small, all_small, first_large}
use Rattle.circuit.proofs.checks.look_at_sizes.Goals as goal

pub returns-in-Some : goal.returns-in-Some
returns-in-Some c =
    let g = c.args.numbers.gates.now in
    let r = c.args.numbers.registers.now in
    let t = c.args.numbers.times.now in
    let w = c.in-Some.ensures in
    first_large g r t _ c.requires (omega (arith, in_gates g r t c.in-Some.i w.0)) (λ q h. rw (in_gates g r t q (omega arith)) (w.2 q h))

pub returns-in-Some-first_large : goal.returns-in-Some-first_large
returns-in-Some-first_large c =
    let g = c.args.numbers.gates.now in
    let r = c.args.numbers.registers.now in
    let t = c.args.numbers.times.now in
    let w = c.in-Some-first_large.ensures in
    first_large g r t _ c.requires (omega (arith, in_registers g r t c.in-Some-first_large.i w.0))
    (registers_small g r t c.in_default.ensures c.in-Some-first_large.i (omega arith) w.2)

pub returns-in-Some-first_large-2 : goal.returns-in-Some-first_large-2
returns-in-Some-first_large-2 c =
    let g = c.args.numbers.gates.now in
    let r = c.args.numbers.registers.now in
    let t = c.args.numbers.times.now in
    let w = c.in-Some-first_large-2.ensures in
    first_large g r t _ c.requires (omega (arith, in_times g r t c.in-Some-first_large-2.i))
    (times_small g r t c.in_default.ensures c.in-Some-first_large-2.i c.in_default-first_large.ensures w.2)

pub returns : goal.returns
returns c =
    let s : (p : ℕ) → Small c.args.numbers.gates.now c.args.numbers.registers.now c.args.numbers.times.now p =
    all_small _ _ _ c.in_default.ensures c.in_default-first_large.ensures c.in_default-first_large-2.ensures in
    search rules
