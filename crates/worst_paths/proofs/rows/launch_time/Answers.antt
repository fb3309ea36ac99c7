use Rattle.std.proofs.Common.{◌+◌, ◌*◌, ◌∙◌, ap, arith}
use Rattle.circuit.proofs.Known.{registers_small, times_small}
use Rattle.worst_paths.proofs.rows.launch_time.Goals as goal

pub overflow_add-register : goal.overflow_add-register
overflow_add-register c =
    let is = ap (λ x. x.late) (c.from-register.ensures ∙ c.registers.ensures.each _ c.requires) in
    omega (arith, is, registers_small c.args.circuit (3 * c.args.r + 2), times_small c.args.circuit 2)

pub overflow_add-register-in-Early : goal.overflow_add-register-in-Early
overflow_add-register-in-Early c =
    let is = ap (λ x. x.early) (c.from-register.ensures ∙ c.registers.ensures.each _ c.requires) in
    omega (arith, is, registers_small c.args.circuit (3 * c.args.r + 1), times_small c.args.circuit 1)

pub returns-in-Late : goal.returns-in-Late
returns-in-Late c =
    let is = ap (λ x. x.late) (c.from-register.ensures ∙ c.registers.ensures.each _ c.requires) in
    record {
      time = rw c.in-Late.is (omega (arith, is));
      small = omega (arith, is, registers_small c.args.circuit (3 * c.args.r + 2), times_small c.args.circuit 2);
    }

pub returns-in-Early : goal.returns-in-Early
returns-in-Early c =
    let is = ap (λ x. x.early) (c.from-register.ensures ∙ c.registers.ensures.each _ c.requires) in
    record {
      time = rw c.in-Early.is (omega (arith, is));
      small = omega (arith, is, registers_small c.args.circuit (3 * c.args.r + 1), times_small c.args.circuit 1);
    }
