use Rattle.std.proofs.Common.{◌+◌, ◌*◌, ◌∙◌, ap, arith}
use Rattle.circuit.proofs.Known.{registers_small}
use Rattle.worst_paths.proofs.rows.shift.Goals as goal

pub overflow_sub-register : goal.overflow_sub-register
overflow_sub-register c =
    let is = ap (λ x. x.early) (c.from-register.ensures ∙ c.registers.ensures.each _ c.requires) in
    omega (arith, is, registers_small c.args.circuit (3 * c.args.r + 1))

pub overflow_sub-register-in-Early : goal.overflow_sub-register-in-Early
overflow_sub-register-in-Early c =
    let is = ap (λ x. x.late) (c.from-register.ensures ∙ c.registers.ensures.each _ c.requires) in
    omega (arith, is, registers_small c.args.circuit (3 * c.args.r + 2))

pub returns-in-Late : goal.returns-in-Late
returns-in-Late c =
    let is = ap (λ x. x.early) (c.from-register.ensures ∙ c.registers.ensures.each _ c.requires) in
    rw c.in-Late.is (omega (arith, is, registers_small c.args.circuit (3 * c.args.r + 1)))

pub returns-in-Early : goal.returns-in-Early
returns-in-Early c =
    let is = ap (λ x. x.late) (c.from-register.ensures ∙ c.registers.ensures.each _ c.requires) in
    rw c.in-Early.is (omega (arith, is, registers_small c.args.circuit (3 * c.args.r + 2)))
