-- The rounded quotient of a margin and a period is its ratio, with its sign.
use Rattle.std.proofs.Common.{◌≡◌, ℕ, zero, suc, ◌+◌, ◌*◌, ◌%◌, ◌^◌, ◌<◌, ◌≤◌, ℤ, pos, negsuc, Bool, true, false, sym, ap, subst, ◌∙◌, refl, inl, inr, arith, FitsSigned, w64, to_z, of_z}
use Rattle.std.proofs.lemmas.Bool.{cases_eq}
use Rattle.std.proofs.lemmas.Int.{ints, to_z-of_z}
use mathlib.Core.Bool.{false≢true}
use native.Mathlib.Nat.{mul-pos}
use lib.Ieee.{Float, binary64, fits, to_bits, div, of_int}
use Rattle.std.specs.Float.{float_is_finite, float_zero, is_sign_negative}
use Rattle.near.specs.Ratio.{IsNumber, units, IsValue, size_of, apart, apart_signed, IsRatio}
use Rattle.near.proofs.Nearness.{Nearest, nearest_one, sign_is, nonzero, zero_is, below_zero, not_below, bits_even}
use Rattle.near.proofs.Rounding.{rounded, div_is}

-- two numbers of one sign are as far apart as their sizes, and of other signs farther
same_sign : (s t : Bool) (a b : ℕ) → t ≡ s → apart_signed t a s b ≡ apart a b
same_sign false false a b e = refl
same_sign true true a b e = refl
same_sign false true a b e = absurd (false≢true (sym e))
same_sign true false a b e = absurd (false≢true e)

not_nearer : (s t : Bool) (a b : ℕ) → apart a b ≤ apart_signed t a s b
not_nearer false false a b = omega arith
not_nearer true true a b = omega arith
not_nearer false true a b = omega arith
not_nearer true false a b = omega arith

other_sign : (s t : Bool) (a b : ℕ) → (t ≡ s → ⊥) → apart_signed t a s b ≡ a + b
other_sign false false a b e = absurd (e refl)
other_sign true true a b e = absurd (e refl)
other_sign false true a b e = refl
other_sign true false a b e = refl

-- the number 0
zero_number : IsNumber float_zero
unfolding fits float_is_finite
zero_number = (tt, refl)

zero_units : units float_zero ≡ 0
unfolding units
zero_units = refl

no_product : (a d : ℕ) → 0 < d → a * d ≡ 0 → a ≡ 0
no_product zero d h e = refl
no_product (suc a) d h e = let p : 0 < suc a * d = mul-pos (omega arith) h in absurd (omega arith)

module _ (s : Bool) (n d : ℕ) (x : Float) (D : 0 < d) (sign : is_sign_negative x ≡ s) (best : Nearest n d x) where
  abbrev N : ℕ
  N = n * 2 ^ 1074

  abbrev far : Float → ℕ
  far y = apart_signed (is_sign_negative y) (units y * d) s N

  here : far x ≡ apart (units x * d) N
  here = same_sign s (is_sign_negative x) (units x * d) N sign

  pub none_nearer : (y : Float) → IsNumber y → far x ≤ far y
  none_nearer y number = omega (arith, here, best.near y number, not_nearer s (is_sign_negative y) (units y * d) N)

  -- 0 is not nearer
  below_size : apart (units x * d) N ≤ N
  below_size = let h : apart (units x * d) N ≤ apart (0 * d) N = rw zero_units at (best.near float_zero zero_number) in omega arith

  pub even_of_tied : (y : Float) → IsNumber y → far x ≡ far y → (IsValue y x → ⊥) → to_bits binary64 x % 2 ≡ 0
  even_of_tied y number same other = elim (cases_eq (units y) (units x)) [
    | inr sizes ↦ best.even y number (omega (arith, same, here, best.near y number, not_nearer s (is_sign_negative y) (units y * d) N)) sizes
    | inl sizes ↦
        let apart_is : far y ≡ units y * d + N = other_sign s (is_sign_negative y) (units y * d) N (λ e. other (e ∙ sym sign, sizes)) in
        let there : far y ≡ units x * d + N = apart_is ∙ ap (λ v. v * d + N) sizes in
        let none : units x * d ≡ 0 = omega (arith, here, same, there, below_size) in
        bits_even x 0 0 best.number.1 (no_product (units x) d D none) (omega arith) refl
  ]

  pub zero_size : n ≡ 0 → units x ≡ 0
  zero_size e =
      let small : apart (units x * d) (n * 2 ^ 1074) ≤ n * 2 ^ 1074 = below_size in
      let none : units x * d ≡ 0 = omega (arith, small) in
      no_product (units x) d D none

pub ratio_is : (z : ℤ) (d : ℕ) → size_of z < 2 ^ 35 → 0 < d → d < 2 ^ 32 → IsRatio z d (rounded z d)
ratio_is (pos n) d small some few =
    let x = rounded (pos n) d in
    let best = nearest_one false n d (omega arith) some in
    let sign = sign_is false n d (omega arith) some in
    record {
      number = best.number;
      nearest = none_nearer false n d x some sign best;
      even = even_of_tied false n d x some sign best;
      below = ((λ h. absurd (not_below x best.number.1 sign h)), (λ h. absurd (omega (arith, ints))));
      zero = λ e. zero_is x best.number (zero_size false n d x some sign best (cc)) sign;
    }
ratio_is (negsuc n) d small some few =
    let x = rounded (negsuc n) d in
    let best = nearest_one true (suc n) d (omega arith) some in
    let sign = sign_is true (suc n) d (omega arith) some in
    record {
      number = best.number;
      nearest = none_nearer true (suc n) d x some sign best;
      even = even_of_tied true (suc n) d x some sign best;
      below = ((λ h. omega (arith, ints)), (λ h. below_zero x best.number.1 (nonzero true (suc n) d (omega arith) some (omega arith) few) sign));
      zero = λ e. absurd (cc);
    }

-- the quotient of the number of a margin and that of a period
pub ratio_of : (z : ℤ) (d : ℕ) (x : Float) → size_of z < 2 ^ 35 → 0 < d → d < 2 ^ 32 → FitsSigned w64 z → x ≡ of_int binary64 (to_z w64 (of_z w64 z)) →
    IsRatio z d (div binary64 x (of_int binary64 (pos d)))
ratio_of z d x small some few fits is =
    let number : x ≡ of_int binary64 z = is ∙ ap (λ (v : ℤ). of_int binary64 v) (to_z-of_z w64 z fits) in
    let rounds : div binary64 x (of_int binary64 (pos d)) ≡ rounded z d = ap (λ (v : Float). div binary64 v (of_int binary64 (pos d))) number ∙ div_is z d (omega arith) some (omega arith) in
    subst (λ (v : Float). IsRatio z d v) (sym rounds) (ratio_is z d small some few)
