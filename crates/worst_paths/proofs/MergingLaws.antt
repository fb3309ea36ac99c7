-- Two lists merged, step by step.
use Rattle.std.proofs.Common.{◌≡◌, ℕ, zero, suc, ◌+◌, ◌-◌, ◌<◌, ◌≤◌, true, false, List, [], ◌∷◌, ◌++◌, length, get_or, drop, sym, refl, ap, ◌∙◌, inl, inr, arith, Option, Some, None}
use Rattle.std.proofs.lemmas.Bool.{cases_lt}
use Rattle.std.proofs.lemmas.List.{drop_more, append_assoc, append-nil}
use Rattle.arrival.specs.declared.edge.Edge.{Edge}
use Rattle.worst_paths.specs.declared.entry.Entry.{Entry}
use Rattle.worst_paths.specs.Merge.{merge, second_of, next_of, offered}
use Rattle.worst_paths.specs.Offers.{no_entry, named}

pub drop_past : {X : Type 0} (xs : List X) (i : ℕ) → length xs ≤ i → drop i xs ≡ []
drop_past [] zero h = refl
drop_past [] (suc i) h = refl
drop_past (x ∷ xs) zero h = absurd (omega arith)
drop_past (x ∷ xs) (suc i) h = drop_past xs i (omega arith)

next_two : (e : Edge) (xs : List Entry) → next_of e xs [] ≡ Some true → ⊥
unfolding next_of
next_two e [] h = cc
next_two e (x ∷ xs) h = cc

next_one : (e : Edge) (ys : List Entry) → next_of e [] ys ≡ Some false → ⊥
unfolding next_of
next_one e [] h = cc
next_one e (y ∷ ys) h = cc

pub in_two : (e : Edge) (xs ys : List Entry) (j : ℕ) → next_of e xs (drop j ys) ≡ Some true → j < length ys
in_two e xs ys j h = elim (cases_lt j (length ys)) [ inl l ↦ l | inr g ↦ let p = drop_past ys j g in absurd (next_two e xs (rw p at h)) ]

pub in_one : (e : Edge) (xs ys : List Entry) (i : ℕ) → next_of e (drop i xs) ys ≡ Some false → i < length xs
in_one e xs ys i h = elim (cases_lt i (length xs)) [ inl l ↦ l | inr g ↦ let p = drop_past xs i g in absurd (next_one e ys (rw p at h)) ]

two_next : (e : Edge) (m : ℕ) (xs : List Entry) (y : Entry) (ys : List Entry) → next_of e xs (y ∷ ys) ≡ Some true →
    merge (second_of e) (suc m) xs (y ∷ ys) ≡ y ∷ merge (second_of e) m xs ys
unfolding next_of merge
two_next e m [] y ys h = refl
two_next e m (x ∷ xs) y ys h = let t : second_of e x y ≡ true = cc in rw t

one_next : (e : Edge) (m : ℕ) (x : Entry) (xs ys : List Entry) → next_of e (x ∷ xs) ys ≡ Some false →
    merge (second_of e) (suc m) (x ∷ xs) ys ≡ x ∷ merge (second_of e) m xs ys
unfolding next_of merge
one_next e m x xs [] h = refl
one_next e m x xs (y ∷ ys) h = let t : second_of e x y ≡ false = cc in rw t

none_next : (e : Edge) (m : ℕ) (xs ys : List Entry) → next_of e xs ys ≡ None → merge (second_of e) m xs ys ≡ []
unfolding next_of merge
none_next e zero xs ys h = refl
none_next e (suc m) [] [] h = refl
none_next e (suc m) [] (y ∷ ys) h = absurd cc
none_next e (suc m) (x ∷ xs) [] h = absurd cc
none_next e (suc m) (x ∷ xs) (y ∷ ys) h = absurd cc

-- what is out, and what is to come, are the whole
abbrev pub Sofar : Edge → ℕ → (xs ys out : List Entry) → (n i j : ℕ) → Type 0
Sofar e k xs ys out n i j = out ++ merge (second_of e) (k - n) (drop i xs) (drop j ys) ≡ merge (second_of e) k xs ys

pub from_two : (e : Edge) (k : ℕ) (xs ys out : List Entry) (n i j : ℕ) (y : Entry) → n < k → next_of e (drop i xs) (drop j ys) ≡ Some true →
    get_or ys j no_entry ≡ y → Sofar e k xs ys out n i j → Sofar e k xs ys (out ++ (y ∷ [])) (n + 1) i (j + 1)
from_two e k xs ys out n i j y h next is sofar =
    let more = drop_more ys j no_entry (in_two e (drop i xs) ys j next) in
    let one : k - n ≡ suc (k - (n + 1)) = omega arith in
    let step = two_next e (k - (n + 1)) (drop i xs) (get_or ys j no_entry) (drop (j + 1) ys) (rw more at next) in
    append_assoc out (y ∷ []) _ ∙ rw (more, one, step, is) at sofar

pub from_one : (e : Edge) (k : ℕ) (xs ys out : List Entry) (n i j : ℕ) (x : Entry) → n < k → next_of e (drop i xs) (drop j ys) ≡ Some false →
    get_or xs i no_entry ≡ x → Sofar e k xs ys out n i j → Sofar e k xs ys (out ++ (x ∷ [])) (n + 1) (i + 1) j
from_one e k xs ys out n i j x h next is sofar =
    let more = drop_more xs i no_entry (in_one e xs (drop j ys) i next) in
    let one : k - n ≡ suc (k - (n + 1)) = omega arith in
    let step = one_next e (k - (n + 1)) (get_or xs i no_entry) (drop (i + 1) xs) (drop j ys) (rw more at next) in
    append_assoc out (x ∷ []) _ ∙ rw (more, one, step, is) at sofar

pub at_none : (e : Edge) (k : ℕ) (xs ys out : List Entry) (n i j : ℕ) → next_of e (drop i xs) (drop j ys) ≡ None → Sofar e k xs ys out n i j → out ≡ merge (second_of e) k xs ys
at_none e k xs ys out n i j next sofar = sym (append-nil out) ∙ rw (none_next e (k - n) (drop i xs) (drop j ys) next) at sofar

pub at_end : (e : Edge) (k : ℕ) (xs ys out : List Entry) (n i j : ℕ) → k ≤ n → Sofar e k xs ys out n i j → out ≡ merge (second_of e) k xs ys
unfolding merge
at_end e k xs ys out n i j h sofar = let z : k - n ≡ 0 = omega arith in sym (append-nil out) ∙ rw z at sofar

pub none_yet : (e : Edge) (k : ℕ) (xs ys : List Entry) → Sofar e k xs ys [] 0 0 0
none_yet e k xs ys = let z : k - 0 ≡ k = omega arith in rw z

-- what a list offers, element by element
pub offered_length : (by d i : ℕ) (xs : List Entry) → length (offered by d i xs) ≡ length xs
unfolding offered
offered_length by d i [] = refl
offered_length by d i (x ∷ xs) = ap suc (offered_length by d (suc i) xs)

offered_at : (by d i n : ℕ) (xs : List Entry) → n < length xs →
    get_or (offered by d i xs) n no_entry ≡ record { time = (get_or xs n no_entry).time + d; by = by; rank = i + n }
unfolding offered
offered_at by d i n [] h = absurd (omega arith)
offered_at by d i zero (x ∷ xs) h = let z : i + 0 ≡ i = omega arith in rw z refl
offered_at by d i (suc n) (x ∷ xs) h = let b : i + suc n ≡ suc i + n = omega arith in rw b (offered_at by d (suc i) n xs (omega arith))

pub named_length : (by : Option ℕ) (d : ℕ) (xs : List Entry) → length (named by d xs) ≡ length xs
named_length None d xs = refl
named_length (Some by) d xs = offered_length by d 0 xs

-- the entry of a rank, later and named
pub named_at : (by : Option ℕ) (b d n : ℕ) (xs : List Entry) → by ≡ Some b → n < length xs →
    record { time = (get_or xs n no_entry).time + d; by = b; rank = n } ≡ get_or (named by d xs) n no_entry
named_at by b d n xs is h = let z : 0 + n ≡ n = omega arith in rw is (sym (rw z at (offered_at b d 0 n xs h)))
