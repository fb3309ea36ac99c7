-- Laws of `fields`.
use Rattle.std.proofs.Common.{◌≡◌, ℕ, suc, ◌+◌, ◌-◌, ◌<◌, ◌≤◌, Bool, false, List, [], ◌∷◌, ◌++◌, length, take, set, Some, None, Ok, Err, Option, Result, sym, refl, ap, ◌∙◌, arith}
use Rattle.std.proofs.lemmas.List.{take_more_set, take_all, length-set}
use Rattle.lines.specs.declared.Unread.{Unread}
use Rattle.lines.specs.declared.Unread.TheVariants.{NoDigit, TooLarge}
use Rattle.lines.specs.Numbers.{number}
use Rattle.fields.specs.declared.fault.Expected.{Expected}
use Rattle.fields.specs.Fields.{field, wanted, also, may_be_table, fields}

-- where no table may stand
pub number_field : (w : List ℕ) (x : ℕ) → number w ≡ Ok x → field false false w ≡ Ok x
unfolding field
number_field w x e = rw e

-- a number is a field in any column
pub any_number : (capped table : Bool) (w : List ℕ) (x : ℕ) → number w ≡ Ok x → field capped table w ≡ Ok x
unfolding field
any_number capped table w x e = rw e

pub no_number : (w : List ℕ) (u : Unread) → number w ≡ Err u → field false false w ≡ Err (wanted u)
unfolding field
no_number w NoDigit e = rw e
no_number w TooLarge e = rw e

-- values before others
abbrev alsos : List ℕ → Result (Option (List ℕ)) Expected → Result (Option (List ℕ)) Expected
alsos [] r = r
alsos (x ∷ xs) r = also (Ok x) (alsos xs r)

alsos_err : (xs : List ℕ) (e : Expected) → alsos xs (Err e) ≡ Err e
alsos_err [] e = refl
alsos_err (x ∷ xs) e = rw (alsos_err xs e)

alsos_none : (xs : List ℕ) → alsos xs (Ok None) ≡ Ok None
alsos_none [] = refl
alsos_none (x ∷ xs) = rw (alsos_none xs)

alsos_ok : (xs : List ℕ) → alsos xs (Ok (Some [])) ≡ Ok (Some xs)
alsos_ok [] = refl
alsos_ok (x ∷ xs) = rw (alsos_ok xs)

alsos_push : (xs : List ℕ) (x : ℕ) (r : Result (Option (List ℕ)) Expected) → alsos xs (also (Ok x) r) ≡ alsos (xs ++ x ∷ []) r
alsos_push [] x r = refl
alsos_push (y ∷ xs) x r = rw (alsos_push xs x r)

-- the first i of n fields of the words ws are in out, and rest has the words after them
pub record Filled (capped : Bool) (ws : List (List ℕ)) (c : Option ℕ) (n i : ℕ) (out : List ℕ) (rest : List (List ℕ)) : Type 0 where
  pub within : i ≤ n
  pub long : length out ≡ n
  pub same : fields capped c 0 n ws ≡ alsos (take i out) (fields capped c i (n - i) rest)

pub none_yet : (capped : Bool) (ws : List (List ℕ)) (c : Option ℕ) (n : ℕ) (out : List ℕ) → length out ≡ n → Filled capped ws c n 0 out ws
none_yet capped ws c n out l = let e : n - 0 ≡ n = omega arith in record { within = omega arith; long = l; same = sym (ap (λ k. fields capped c 0 k ws) e) }

module _ {ws rest : List (List ℕ)} {out : List ℕ} {capped : Bool} {c : Option ℕ} {n i : ℕ} (f : Filled capped ws c n i out rest) where
  pub too_few : i < n → rest ≡ [] → fields capped c 0 n ws ≡ Ok None
  unfolding fields
  too_few lt none =
      let e : n - i ≡ suc (n - (i + 1)) = omega (arith, lt) in
      f.same ∙ rw (e, none) (alsos_none (take i out))

  pub all_there : i ≡ n → rest ≡ [] → fields capped c 0 n ws ≡ Ok (Some out)
  unfolding fields
  all_there eq none =
      let e : n - i ≡ 0 = omega (arith, eq) in
      let l : length out ≤ i = omega (arith, eq, f.long) in
      f.same ∙ rw (e, none) (alsos_ok (take i out) ∙ ap (λ xs. Ok (Some xs)) (take_all i out l))

  module _ {after : List (List ℕ)} {w : List ℕ} (some : rest ≡ w ∷ after) where
    pub too_many : i ≡ n → fields capped c 0 n ws ≡ Ok None
    unfolding fields
    too_many eq =
        let e : n - i ≡ 0 = omega (arith, eq) in
        f.same ∙ rw (e, some) (alsos_none (take i out))

    pub bad : (k : Expected) → i < n → field capped (may_be_table c i) w ≡ Err k → fields capped c 0 n ws ≡ Err k
    unfolding fields
    bad k lt q =
        let e : n - i ≡ suc (n - (i + 1)) = omega (arith, lt) in
        f.same ∙ rw (e, some, q) (alsos_err (take i out) k)

    pub next : (x : ℕ) → i < n → field capped (may_be_table c i) w ≡ Ok x → Filled capped ws c n (i + 1) (set out i x) after
    unfolding fields
    next x lt q =
        let e : n - i ≡ suc (n - (i + 1)) = omega (arith, lt) in
        let l : i < length out = omega (arith, lt, f.long) in
        record {
          within = omega (arith, lt);
          long = length-set out i x ∙ f.long;
          same = f.same ∙ rw (e, some, q) (alsos_push (take i out) x (fields capped c (i + 1) (n - (i + 1)) after) ∙ ap (λ t. alsos t (fields capped c (i + 1) (n - (i + 1)) after)) (sym (take_more_set out i x l)));
        }
