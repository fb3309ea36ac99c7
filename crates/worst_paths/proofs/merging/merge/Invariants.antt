use Rattle.std.proofs.Common.{◌≡◌, ◌+◌, ◌≤◌, length, vec_items}
use Rattle.worst_paths.specs.Offers.{offers}
use Rattle.worst_paths.proofs.MergingLaws.{Sofar}
use Rattle.worst_paths.proofs.merging.merge.Given as goal

abbrev pub invariant-loop-n : goal.invariant-loop-n
invariant-loop-n l = record {
  count : l.i + l.j ≡ l.n;
  one : l.i ≤ length l.one.row.now;
  two : l.j ≤ length l.two.row.now;
  sofar : Sofar l.edge l.k (offers l.one) (offers l.two) (vec_items l.row) l.n l.i l.j;
}
