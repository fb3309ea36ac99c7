-- Laws of `integers`.
use Rattle.std.proofs.Common.{◌≡◌, ℕ, suc, ◌+◌, ◌-◌, ◌<◌, ◌≤◌, List, [], ◌∷◌, ◌++◌, length, take, set, ℤ, Ok, Err, Result, sym, refl, ap, ◌∙◌, arith}
use Rattle.std.proofs.lemmas.List.{take_more_set, take_all, length-set}
use Rattle.fields.specs.declared.fault.Expected.{Expected}
use Rattle.fields.specs.declared.fault.Expected.TheVariants.{Numbers}
use Rattle.claim.specs.Numbers.{integer, also, last_of, integers}

-- numbers before others
abbrev alsos : List ℤ → Result (List ℤ) Expected → Result (List ℤ) Expected
alsos [] r = r
alsos (z ∷ zs) r = also (Ok z) (alsos zs r)

alsos_err : (zs : List ℤ) (e : Expected) → alsos zs (Err e) ≡ Err e
alsos_err [] e = refl
alsos_err (z ∷ zs) e = rw (alsos_err zs e)

alsos_ok : (zs : List ℤ) → alsos zs (Ok []) ≡ Ok zs
alsos_ok [] = refl
alsos_ok (z ∷ zs) = rw (alsos_ok zs)

alsos_push : (zs : List ℤ) (z : ℤ) (r : Result (List ℤ) Expected) → alsos zs (also (Ok z) r) ≡ alsos (zs ++ z ∷ []) r
alsos_push [] z r = refl
alsos_push (y ∷ zs) z r = rw (alsos_push zs z r)

-- the first i of n numbers of the words ws are in out, and rest has the words after them
pub record Filled (ws : List (List ℕ)) (n i : ℕ) (out : List ℤ) (rest : List (List ℕ)) : Type 0 where
  pub within : i ≤ n
  pub long : length out ≡ n
  pub same : integers n ws ≡ alsos (take i out) (last_of n (n - i) rest)

pub none_yet : (ws : List (List ℕ)) (n : ℕ) (out : List ℤ) → length out ≡ n → Filled ws n 0 out ws
none_yet ws n out l = let e : n - 0 ≡ n = omega arith in record { within = omega arith; long = l; same = sym (ap (λ k. last_of n k ws) e) }

module _ {ws rest : List (List ℕ)} {out : List ℤ} {n i : ℕ} (f : Filled ws n i out rest) where
  pub too_few : i < n → rest ≡ [] → integers n ws ≡ Err (Numbers n)
  unfolding last_of
  too_few lt none =
      let e : n - i ≡ suc (n - (i + 1)) = omega (arith, lt) in
      f.same ∙ rw (e, none) (alsos_err (take i out) (Numbers n))

  pub all_there : i ≡ n → rest ≡ [] → integers n ws ≡ Ok out
  unfolding last_of
  all_there eq none =
      let e : n - i ≡ 0 = omega (arith, eq) in
      let l : length out ≤ i = omega (arith, eq, f.long) in
      f.same ∙ rw (e, none) (alsos_ok (take i out) ∙ ap Ok (take_all i out l))

  module _ {after : List (List ℕ)} {w : List ℕ} (some : rest ≡ w ∷ after) where
    pub too_many : i ≡ n → integers n ws ≡ Err (Numbers n)
    unfolding last_of
    too_many eq =
        let e : n - i ≡ 0 = omega (arith, eq) in
        f.same ∙ rw (e, some) (alsos_err (take i out) (Numbers n))

    pub bad : (k : Expected) → i < n → integer w ≡ Err k → integers n ws ≡ Err k
    unfolding last_of
    bad k lt q =
        let e : n - i ≡ suc (n - (i + 1)) = omega (arith, lt) in
        f.same ∙ rw (e, some, q) (alsos_err (take i out) k)

    pub next : (z : ℤ) → i < n → integer w ≡ Ok z → Filled ws n (i + 1) (set out i z) after
    unfolding last_of
    next z lt q =
        let e : n - i ≡ suc (n - (i + 1)) = omega (arith, lt) in
        let l : i < length out = omega (arith, lt, f.long) in
        record {
          within = omega (arith, lt);
          long = length-set out i z ∙ f.long;
          same = f.same ∙ rw (e, some, q) (alsos_push (take i out) z (last_of n (n - (i + 1)) after) ∙ ap (λ t. alsos t (last_of n (n - (i + 1)) after)) (sym (take_more_set out i z l)));
        }
