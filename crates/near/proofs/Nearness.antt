-- A fraction rounded to a binary64 number is the nearest of all.
use Rattle.std.proofs.Common.{◌≡◌, ℕ, zero, suc, ◌+◌, ◌-◌, ◌*◌, ◌/◌, ◌%◌, ◌^◌, ◌<◌, ◌≤◌, Bool, true, false, cond, sym, ap, subst, ◌∙◌, refl, inl, inr, arith, pos, negsuc, ℤ}
use native.Mathlib.Nat.{mul-pos, le_trans, le_of_eq, lt_of_le_of_lt, mul-one, mul_assoc, mul_comm, mul_left_comm, mul-le-mul_right, mul-div_cancel, not-le_of_lt, lt_irrefl, zero-mul, one-mul, pow-succ', zero-lt-suc, div-div-eq-div-mul, div-le_self}
use mathlib.Core.Bool.{false≢true, true≢false, ◌&&◌}
use Rattle.std.proofs.lemmas.Bool.{cases_lt}
use Rattle.std.specs.Float.{float_is_finite, is_sign_negative}
use Rattle.near.specs.Ratio.{apart, units, IsNumber}
use Rattle.near.proofs.Closest.{none_nearer, even_if_tied}
use Prim.Native.Nat.{compare}
use lib.Dec.{T, ltb, leb, eqb, eqb→eq, ltb→lt, lt→ltb, leb→le}
use lib.Pow.{pow-add, pow_pos, pow-lt, shl_lt}
use lib.Ieee.{Float, nan, inf, fin, binary64, up, down, emax, low, size, round, fits, to_bits, hid, top, lt}
use lib.Ieee.Digits.{size-le, back}
use lib.Ieee.Exact.{HasValue, units_val}
use lib.Ieee.Fits.{and_l, and_r, down_pos, round_is, round-fits, nearest-le, kept-lt}
use lib.Ieee.Order.{drop, kept}

-- how far a size is from n / d
abbrev pub off : (n d : ℕ) → Float → ℕ
off n d x = apart (units x * d) (n * 2 ^ 1074)

-- without signs x is the nearest to n / d, and of two that are as near the one whose bits end in 0
pub record Nearest (n d : ℕ) (x : Float) : Type 0 where
  pub number : IsNumber x
  pub near : (y : Float) → IsNumber y → off n d x ≤ off n d y
  pub even : (y : Float) → IsNumber y → off n d x ≡ off n d y → (units y ≡ units x → ⊥) → to_bits binary64 x % 2 ≡ 0

-- a number's units are few binary digits and a power of two
few_digits : (m : ℕ) (a : ℕ) → 2 ^ suc a ≤ 2 ^ 1074 → m * 1 * 2 ^ 1074 / 2 ^ suc a ≡ m * 2 ^ (1074 - suc a)
few_digits m a h =
    let le : suc a ≤ 1074 = elim (cases_lt 1074 (suc a)) [ inl p ↦ absurd (not-le_of_lt (pow-lt p) h) | inr p ↦ p ] in
    let e : 2 ^ 1074 ≡ 2 ^ (1074 - suc a) * 2 ^ suc a = ap (λ x. 2 ^ x) (sym (back 1074 (suc a) le)) ∙ pow-add 2 (1074 - suc a) (suc a) in
    ap (λ x. x / 2 ^ suc a) (ap (λ x. m * 1 * x) e ∙ ap (λ x. x * (2 ^ (1074 - suc a) * 2 ^ suc a)) (mul-one m) ∙ sym (mul_assoc m (2 ^ (1074 - suc a)) (2 ^ suc a)))
    ∙ mul-div_cancel (m * 2 ^ (1074 - suc a)) (pow_pos (suc a))

few_of : (s : Bool) (m : ℕ) (e : ℤ) → T (fits binary64 (fin s (suc m) e)) → (suc m < 2 ^ 53) × (down e ≤ 2 ^ 1074)
unfolding fits
few_of s m e t =
    let odd = eqb (suc m % 2) 1 in
    let few = ltb (suc m) (2 ^ 53) in
    let fine = leb (down e) (2 ^ 1074) in
    let front = and_l (odd && few && fine) _ t in
    (ltb→lt (suc m) (2 ^ 53) (and_r odd few (and_l (odd && few) fine front)), leb→le (down e) (2 ^ 1074) (and_r (odd && few) fine front))

-- what is not 0 is a number of units that is not 0
suc_digits : (s : Bool) (m : ℕ) (e : ℤ) → T (fits binary64 (fin s (suc m) e)) → (j : ℕ) × (units (fin s (suc m) e) ≡ suc m * 2 ^ j)
unfolding units
suc_digits s m (pos a) f = (
  a + 1074,
  ap (λ x. x / 1) (sym (mul-one (suc m * 2 ^ a * 2 ^ 1074))) ∙ mul-div_cancel (suc m * 2 ^ a * 2 ^ 1074) (zero-lt-suc 0) ∙ mul_assoc (suc m) (2 ^ a) (2 ^ 1074) ∙ ap (λ x. suc m * x) (sym (pow-add 2 a 1074)),
)
suc_digits s m (negsuc a) f = (1074 - suc a, few_digits (suc m) a (few_of s m (negsuc a) f).1)

digits : (y : Float) → IsNumber y → (r : ℕ) × (j : ℕ) × (r < 2 ^ 53) × (units y ≡ r * 2 ^ j)
unfolding units float_is_finite
digits nan (f, t) = absurd (false≢true t)
digits (inf s) (f, t) = absurd (false≢true t)
digits (fin s zero e) (f, t) = (0, 0, pow_pos 53, ap (λ x. x / down e) (ap (λ x. x * 2 ^ 1074) (zero-mul (up e)) ∙ sym (zero-mul (down e))) ∙ mul-div_cancel 0 (down_pos e))
digits (fin s (suc m) e) (f, t) = let (j, is) = suc_digits s m e f in (suc m, j, (few_of s m e f).0, is)

-- 0 is written in one way
no_power : (k : ℕ) → 2 ^ suc k ≡ 1 → ⊥
no_power k is = let even : 2 ^ suc k ≡ 2 * 2 ^ k = pow-succ' 2 k in omega arith

zero_exponent : (e : ℤ) → up e * down e ≡ 1 → e ≡ pos 0
zero_exponent (pos zero) is = refl
zero_exponent (pos (suc k)) is = absurd (no_power k (sym (mul-one (2 ^ suc k)) ∙ is))
zero_exponent (negsuc k) is = absurd (no_power k (sym (one-mul (2 ^ suc k)) ∙ is))

zero_fits : (s : Bool) (e : ℤ) → T (fits binary64 (fin s zero e)) → e ≡ pos 0
unfolding fits
zero_fits s e t = zero_exponent e (eqb→eq (up e * down e) 1 t)

-- a number of no units that is not below 0 is 0
pub zero_is : (x : Float) → IsNumber x → units x ≡ 0 → is_sign_negative x ≡ false → x ≡ fin false 0 (pos 0)
unfolding float_is_finite is_sign_negative
zero_is nan (f, t) none h = absurd (false≢true t)
zero_is (inf s) (f, t) none h = absurd (false≢true t)
zero_is (fin s zero e) (f, t) none h = λ i. fin (h i) zero (zero_fits s e f i)
zero_is (fin s (suc m) e) (f, t) none h =
    let (j, is) = suc_digits s m e f in
    absurd (lt_irrefl 0 (subst (λ (v : ℕ). 0 < v) (sym is ∙ none) (mul-pos (zero-lt-suc m) (pow_pos j))))

-- a number by its value
valued : (x : Float) (s : Bool) (X : ℕ) → HasValue x s X (2 ^ 1074) → (units x ≡ X) × (is_sign_negative x ≡ s) × (float_is_finite x ≡ true)
unfolding units float_is_finite is_sign_negative
valued nan s X v = absurd v
valued (inf t) s X v = absurd v
valued (fin t m e) s X v = (ap (λ z. z / down e) v.1 ∙ mul-div_cancel X (down_pos e), v.0, refl)

-- ---- the last of the bits
even_part : (c t j : ℕ) → j < t → c * 2 ^ t / 2 ^ j % 2 ≡ 0
even_part c t j h =
    let i : ℕ = t - suc j in
    let e : 2 ^ t ≡ 2 ^ i * 2 ^ suc j = ap (λ x. 2 ^ x) (sym (back t (suc j) h)) ∙ pow-add 2 i (suc j) in
    let d : c * 2 ^ t ≡ c * 2 ^ i * 2 * 2 ^ j = ap (λ x. c * x) (e ∙ ap (λ x. 2 ^ i * x) (pow-succ' 2 j)) ∙ simp (mul_assoc, mul_comm, mul_left_comm) in
    ap (λ x. x / 2 ^ j % 2) d ∙ ap (λ x. x % 2) (mul-div_cancel (c * 2 ^ i * 2) (pow_pos j)) ∙ omega arith

even_shift : (n q k : ℕ) → n ≡ q * 2 ^ k → q ≤ 2 ^ 53 → q % 2 ≡ 0 → n / 2 ^ (size n - 53) % 2 ≡ 0
even_shift n q k is few even = elim (cases_lt q (2 ^ 53)) [
  | inl h ↦
      let small : n < 2 ^ (53 + k) = rw is (shl_lt 53 k h) in
      let drops : size n - 53 < suc k = omega (arith, size-le n (53 + k) small) in
      let half : q ≡ q / 2 * 2 = omega arith in
      let same : n ≡ q / 2 * 2 ^ suc k = is ∙ ap (λ x. x * 2 ^ k) half ∙ mul_assoc (q / 2) 2 (2 ^ k) ∙ ap (λ x. q / 2 * x) (sym (pow-succ' 2 k)) in
      ap (λ x. x / 2 ^ (size n - 53) % 2) same ∙ even_part (q / 2) (suc k) (size n - 53) drops
  | inr h ↦
      let top_one : q ≡ 2 ^ 53 = omega arith in
      let same : n ≡ 1 * 2 ^ (53 + k) = is ∙ ap (λ x. x * 2 ^ k) top_one ∙ sym (pow-add 2 53 k) ∙ sym (one-mul (2 ^ (53 + k))) in
      let small : n < 2 ^ (54 + k) = rw same (rw (one-mul (2 ^ (53 + k))) (pow-lt (omega arith))) in
      let drops : size n - 53 < 53 + k = omega (arith, size-le n (54 + k) small) in
      ap (λ x. x / 2 ^ (size n - 53) % 2) same ∙ even_part 1 (53 + k) (size n - 53) drops
]

last_bit : (s : Bool) (a b : ℕ) → b % 2 ≡ 0 → (cond s (top binary64) 0 + a * hid binary64 + b) % 2 ≡ 0
last_bit true a b h = omega arith
last_bit false a b h = omega arith

pub bits_even : (x : Float) (q k : ℕ) → float_is_finite x ≡ true → units x ≡ q * 2 ^ k → q ≤ 2 ^ 53 → q % 2 ≡ 0 → to_bits binary64 x % 2 ≡ 0
unfolding units float_is_finite to_bits
bits_even nan q k t is few even = absurd (false≢true t)
bits_even (inf s) q k t is few even = absurd (false≢true t)
bits_even (fin s m e) q k t is few even =
    let n = m * up e * 2 ^ 1074 / down e in
    last_bit s (size n - 53) (n / 2 ^ (size n - 53)) (even_shift n q k is few even)

-- ---- the theorem
module _ (s : Bool) (n d : ℕ) (small : n < 2 ^ 64) (D : 0 < d) where
  abbrev N : ℕ
  N = n * 2 ^ 1074

  abbrev k : ℕ
  k = drop 53 N d

  abbrev q : ℕ
  q = kept 53 N d

  abbrev x : Float
  x = round binary64 s n d

  q_few : q ≤ 2 ^ 53
  q_few = le_trans (nearest-le (N / (d * 2 ^ k)) (compare (N % (d * 2 ^ k) * 2) (d * 2 ^ k))) (subst (λ (z : ℕ). z < 2 ^ 53) (div-div-eq-div-mul N d (2 ^ k)) (kept-lt 53 (N / d)))

  k_few : k ≤ 1085
  k_few = omega (arith, size-le (N / d) (64 + 1074) (lt_of_le_of_lt (div-le_self N d) (shl_lt 64 1074 small)))

  within : 53 + k < low binary64 + suc (emax binary64)
  within = omega (arith, k_few)

  inside : q * 2 ^ k < 2 ^ (low binary64 + suc (emax binary64))
  inside = lt_of_le_of_lt (le_trans (mul-le-mul_right (2 ^ k) q_few) (le_of_eq (sym (pow-add 2 53 k)))) (pow-lt within)

  value : (units x ≡ q * 2 ^ k) × (is_sign_negative x ≡ s) × (float_is_finite x ≡ true)
  value = valued x s (q * 2 ^ k) (subst (λ (z : Float). HasValue z s (q * 2 ^ k) (2 ^ 1074)) (sym (round_is binary64 s n d)) (units_val binary64 s q k inside))

  pub nearest_one : Nearest n d x
  nearest_one = record {
    number = (round-fits binary64 s n d, value.2);
    near = λ y number. let y' = digits y number in rw (value.0, y'.3) (none_nearer 53 N d (zero-lt-suc 52) D y'.0 y'.1 y'.2);
    even = λ y number same other.
        let y' = digits y number in
        bits_even x q k value.2 value.0 q_few (even_if_tied 53 N d (zero-lt-suc 52) D y'.0 y'.1 y'.2 (rw (value.0, y'.3) at same) (λ e. other (y'.3 ∙ e ∙ sym value.0)));
  }

  pub sign_is : is_sign_negative x ≡ s
  sign_is = value.1

  -- what is not 0 is not rounded to 0: 2 ^ -32 would be nearer
  pub nonzero : 0 < n → d < 2 ^ 32 → 0 < units x
  nonzero some few =
      let y : Float = fin false 1 (negsuc 31) in
      let count : units y ≡ 2 ^ 1042 = unfold units in refl in
      let near = nearest_one.near y (unfold fits in tt, unfold float_is_finite in refl) in
      let near' : apart (units x * d) N ≤ apart (2 ^ 1042 * d) N = rw count at near in
      elim (cases_lt 0 (units x)) [
        | inl h ↦ h
        | inr h ↦
            let zero_is : units x ≡ 0 = omega arith in
            let near'' : apart (0 * d) N ≤ apart (2 ^ 1042 * d) N = rw zero_is at near' in
            absurd (omega (arith, near''))
      ]

-- a number is below 0 if it has the sign and is not 0
pub below_zero : (x : Float) → float_is_finite x ≡ true → 0 < units x → is_sign_negative x ≡ true → T (lt x (fin false 0 (pos 0)))
unfolding units float_is_finite is_sign_negative lt
below_zero nan t h s = absurd (false≢true t)
below_zero (inf a) t h s = absurd (false≢true t)
below_zero (fin false m e) t h s = absurd (false≢true s)
below_zero (fin true m e) t h s = elim (cases_lt 0 (m * up e)) [
  | inl p ↦ lt→ltb 0 (m * up e * 1 + 0 * down e) (omega (arith, p))
  | inr p ↦
      let z : m * up e ≡ 0 = omega arith in
      let none : m * up e * 2 ^ 1074 / down e ≡ 0 = ap (λ v. v * 2 ^ 1074 / down e) z ∙ ap (λ v. v / down e) (zero-mul (2 ^ 1074) ∙ sym (zero-mul (down e))) ∙ mul-div_cancel 0 (down_pos e) in
      absurd (lt_irrefl 0 (subst (λ v. 0 < v) none h))
]

pub not_below : (x : Float) → float_is_finite x ≡ true → is_sign_negative x ≡ false → T (lt x (fin false 0 (pos 0))) → ⊥
unfolding float_is_finite is_sign_negative lt
not_below nan t s h = absurd (false≢true t)
not_below (inf a) t s h = absurd (false≢true t)
not_below (fin true m e) t s h = absurd (true≢false s)
not_below (fin false m e) t s h =
    let p : m * up e * 1 < 0 * down e = ltb→lt (m * up e * 1) (0 * down e) h in
    omega (arith, p)
