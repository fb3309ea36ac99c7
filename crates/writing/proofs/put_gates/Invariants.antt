use Rattle.std.proofs.Common.{◌≡◌, ◌++◌}
use Rattle.std.specs.String.{string_bytes}
use Rattle.circuit.specs.Lent.{gate_in}
use Rattle.writing.specs.Written.{rows, gate_line}
use Rattle.writing.proofs.put_gates.Given as goal

abbrev pub invariant-loop-row : goal.invariant-loop-row
invariant-loop-row l = string_bytes l.text ≡ string_bytes l.initial.text ++ rows (λ k. gate_line (gate_in l.circuit.gates.now k)) l.row-index
