use Rattle.std.proofs.Common.{◌≡◌, ◌++◌, vec_items}
use Rattle.findings.specs.Findings.{path_claims}
use Rattle.findings.proofs.put_path.Given as goal

abbrev pub invariant-loop-k : goal.invariant-loop-k
invariant-loop-k l = vec_items l.claims ≡ vec_items l.fn.claims ++ path_claims l.k l.room
