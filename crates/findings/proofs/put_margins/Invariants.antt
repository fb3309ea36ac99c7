use Rattle.std.proofs.Common.{◌≡◌, ◌++◌, map, vec_items}
use Rattle.std.specs.List.{range_with_len}
use Rattle.circuit.specs.Checked.{of}
use Rattle.promise.specs.Machine.{machine_in}
use Rattle.findings.specs.Findings.{margin_claim}
use Rattle.findings.proofs.put_margins.Given as goal

abbrev pub invariant-loop-r : goal.invariant-loop-r
invariant-loop-r l = vec_items l.claims ≡ vec_items l.initial.claims ++ map (margin_claim (of l.circuit machine_in)) (range_with_len 0 l.r)
