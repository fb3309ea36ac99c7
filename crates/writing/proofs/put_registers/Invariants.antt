use Rattle.std.proofs.Common.{◌≡◌, ◌++◌}
use Rattle.std.specs.String.{string_bytes}
use Rattle.circuit.specs.Lent.{register_in}
use Rattle.writing.specs.Written.{rows, register_line}
use Rattle.writing.proofs.put_registers.Given as goal

abbrev pub invariant-loop-row : goal.invariant-loop-row
invariant-loop-row l = string_bytes l.text ≡ string_bytes l.initial.text ++ rows (λ r. register_line (register_in l.circuit.registers.now r)) l.row-index
