use Rattle.std.proofs.Common.{◌≡◌, sym, ap, arith, vec_items, ◌∙◌, Some, true, false, drop}
use Rattle.worst_paths.specs.Merge.{next_of}
use Rattle.worst_paths.specs.Offers.{offers}
use Rattle.worst_paths.proofs.MergingLaws.{named_length, none_yet, at_none, at_end, in_one, in_two, from_one, from_two}
use Rattle.worst_paths.proofs.merging.merge.Goals.{then-second+in_ok-push, else-second+in_ok-push-2}
use Rattle.worst_paths.proofs.merging.merge.Goals as goal

pub loop-n-init : goal.loop-n-init
loop-n-init c = record {
  count = omega arith;
  one = omega arith;
  two = omega arith;
  sofar = rw c.in_ok-row.ensures.items (none_yet c.args.edge c.args.k (offers c.args.one) (offers c.args.two));
}

pub returns-in_default : goal.returns-in_default
returns-in_default c = at_none _ _ (offers c.args.one) (offers c.args.two) _ c.loop-n.n c.loop-n.i c.loop-n.j (sym c.next.ensures ∙ c.in_default.is) c.loop-n.invariant.sofar

pub at-requires : goal.at-requires
at-requires c =
    let m = named_length c.args.two.by c.args.two.delay c.args.two.row.now in
    let inside = in_two c.args.edge (drop c.loop-n.i (offers c.args.one)) (offers c.args.two) c.loop-n.j (sym c.next.ensures ∙ c.in-Some.is ∙ ap Some c.if-second.true) in
    omega arith

pub at-requires-else-second : goal.at-requires-else-second
at-requires-else-second c =
    let n = named_length c.args.one.by c.args.one.delay c.args.one.row.now in
    let inside = in_one c.args.edge (offers c.args.one) (drop c.loop-n.j (offers c.args.two)) c.loop-n.i (sym c.next.ensures ∙ c.in-Some.is ∙ ap Some c.if-second.false) in
    omega arith

pub loop-n-preserved : goal.loop-n-preserved
loop-n-preserved c =
    let n = named_length c.args.one.by c.args.one.delay c.args.one.row.now in
    let m = named_length c.args.two.by c.args.two.delay c.args.two.row.now in
    let count = c.loop-n.invariant.count in
    elim c.if-second.branch [
      | then-second+in_ok-push w ↦
          let next : next_of c.args.edge (drop c.loop-n.i (offers c.args.one)) (drop c.loop-n.j (offers c.args.two)) ≡ Some true = sym c.next.ensures ∙ c.in-Some.is ∙ ap Some w.if-second.true in
          let inside = in_two c.args.edge (drop c.loop-n.i (offers c.args.one)) (offers c.args.two) c.loop-n.j next in
          let items : vec_items c.if-second.row ≡ _ = ap vec_items w.row-is ∙ w.in_ok-push.ensures.items in
          let i_is = w.i-is in
          let j_is = w.j-is in
          record {
            count = omega arith;
            one = omega arith;
            two = omega arith;
            sofar = rw (items, w.i-is, w.j-is) (from_two c.args.edge c.args.k (offers c.args.one) (offers c.args.two) (vec_items c.loop-n.row) c.loop-n.n c.loop-n.i c.loop-n.j _ (omega arith) next (sym w.at.ensures) c.loop-n.invariant.sofar);
          }
      | else-second+in_ok-push-2 w ↦
          let next : next_of c.args.edge (drop c.loop-n.i (offers c.args.one)) (drop c.loop-n.j (offers c.args.two)) ≡ Some false = sym c.next.ensures ∙ c.in-Some.is ∙ ap Some w.if-second.false in
          let inside = in_one c.args.edge (offers c.args.one) (drop c.loop-n.j (offers c.args.two)) c.loop-n.i next in
          let items : vec_items c.if-second.row ≡ _ = ap vec_items w.row-is ∙ w.in_ok-push-2.ensures.items in
          let i_is = w.i-is in
          let j_is = w.j-is in
          record {
            count = omega arith;
            one = omega arith;
            two = omega arith;
            sofar = rw (items, w.i-is, w.j-is) (from_one c.args.edge c.args.k (offers c.args.one) (offers c.args.two) (vec_items c.loop-n.row) c.loop-n.n c.loop-n.i c.loop-n.j _ (omega arith) next (sym w.at-else-second.ensures) c.loop-n.invariant.sofar);
          }
    ]

pub returns : goal.returns
returns c = at_end _ _ (offers c.args.one) (offers c.args.two) _ c.loop-n.n c.loop-n.i c.loop-n.j (omega arith) c.loop-n.invariant.sofar
