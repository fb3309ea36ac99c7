-- How deep what is built nests.
use Rattle.std.proofs.Common.{◌≡◌, ℕ, ◌≤◌, List, [], ◌∷◌, ◌++◌, Ordering, Less, Equal, Greater, Ok, Err, Result, OnOk, OnErr, arith}
use Rattle.std.specs.Ordering.{match_ordering}
use Rattle.serde_json.specs.Data.{Data, Members, no_members, member, put, depth, members_depth, items_depth}
use Rattle.serde_json.specs.View.{view, items_view, members_view}
use Rattle.serde_json.proofs.Views.{Entry}
use Rattle.serde_json.specs.declared.value.Value.{Value}

by_order : (o : Ordering) (a b c : Members) (n : ℕ) → members_depth a ≤ n → members_depth b ≤ n → members_depth c ≤ n → members_depth (match_ordering o a b c) ≤ n
by_order Less a b c n p q r = p
by_order Equal a b c n p q r = q
by_order Greater a b c n p q r = r

-- a member more
pub after_put : (k : List ℕ) (d : Data) (ms : Members) (n : ℕ) → depth d ≤ n → members_depth ms ≤ n → members_depth (put k d ms) ≤ n
after_put k d no_members n p q = omega arith
after_put k d (member l e ms) n p q =
    by_order _ (member k d (member l e ms)) (member l d ms) (member l e (put k d ms)) n (omega arith) (omega arith) (omega (arith, after_put k d ms n p (omega arith)))

-- an object after a member was put into it, or could not be
pub still : {A E : Type 0} (r : Result A E) (k : List ℕ) (d : Data) (before after : List Entry) (n : ℕ) →
    OnOk r (members_view after ≡ put k d (members_view before)) → OnErr r (after ≡ before) → depth d ≤ n → members_depth (members_view before) ≤ n →
    members_depth (members_view after) ≤ n
still (Ok u) k d before after n ok err p q = rw ok (after_put k d _ n p q)
still (Err e) k d before after n ok err p q = rw err q

-- an item more
pub after_push : (n : ℕ) (vs : List Value) (v : Value) → items_depth (items_view vs) ≤ n → depth (view v) ≤ n → items_depth (items_view (vs ++ v ∷ [])) ≤ n
after_push n [] v p q = omega arith
after_push n (w ∷ vs) v p q = omega (arith, after_push n vs v (omega arith) q)
