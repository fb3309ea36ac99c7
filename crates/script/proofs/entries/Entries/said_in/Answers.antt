use Rattle.std.proofs.Common.{ltb, leb, take, drop, length, ◌-◌, ltb-true, ltb-false, leb-true, leb-false, ◌∙◌, arith, rules}
use Rattle.std.proofs.lemmas.List.Sorted.{IsPartitionPoint-from_clause, IsPartitionedBy-ltb, IsPartitionedBy-leb, IsNonDecreasingBy-take}
use Rattle.std.proofs.lemmas.List.{length-take, length-drop, take_all}
use Rattle.script.specs.Entries.{no_entry}
use Rattle.script.proofs.Last.{found_in_part}
use Rattle.script.proofs.entries.Entries.said_in.Goals as goal

pub returns : goal.returns
returns c =
    let n = c.args.n in
    let es = c.self.inside.list.items in
    let past = c.partition_point-past.result in
    let sorted = c.self.invariant in
    let upto = IsPartitionPoint-from_clause (λ e. leb e.when n) _ _ c.partition_point-past.ensures.partitioned (rw c.deref.ensures.value (IsPartitionedBy-leb (λ e. e.when) _ n sorted)) (λ a r q k. search rules) in
    let first = IsPartitionPoint-from_clause (λ e. ltb e.when n) _ _ c.partition_point-first.ensures.partitioned (rw c.deref-2.ensures.value (IsPartitionedBy-ltb (λ e. e.when) _ n (IsNonDecreasingBy-take (λ e. e.when) past es sorted))) (λ a r q k. search rules) in
    let u = rw c.deref.ensures.value at upto in
    let f = rw c.deref-2.ensures.value at first in
    let whole = found_in_part es n c.args.who c.partition_point-first.result past (rw (← c.deref.ensures.value) c.partition_point-past.ensures.bound) (omega (arith, c.partition_point-first.ensures.bound, c.deref-2.ensures.len, length-take past c.deref-2.result.now))
    (λ i h. leb-true _ _ (u.0 i no_entry (omega arith) h)) (λ i h l. leb-false _ _ (u.1 i no_entry h l))
    (λ i h. ltb-true _ _ (f.0 i no_entry (omega arith) h)) (λ i h l. ltb-false _ _ (f.1 i no_entry h (omega (arith, length-take past es)))) in
    rw (← c.self.view_is) (c.last_about.ensures ∙ rw (c.deref-2.ensures.value, take_all (length (take past es) - c.partition_point-first.result) (drop c.partition_point-first.result (take past es)) (omega (arith, c.deref-2.ensures.len, length-take past es, length-drop c.partition_point-first.result (take past es)))) whole)
