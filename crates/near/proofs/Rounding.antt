-- Two whole numbers that binary64 holds are divided with one rounding.
use Rattle.std.proofs.Common.{◌≡◌, ℕ, ◌*◌, ◌^◌, ◌<◌, ℤ, pos, negsuc, suc, true, false, Bool, sym, ap, ◌∙◌, arith, refl, subst}
use native.Mathlib.Nat.{mul_assoc, mul_comm, mul_left_comm, mul-pos, lt_irrefl, zero-lt-suc}
use lib.Dec.{T, eqb, eqb→eq}
use lib.Ieee.{Float, Format, nan, inf, fin, binary64, round, of_int, div, up, down, unlike}
use lib.Ieee.Exact.{HasValue}
use lib.Ieee.Back.{round_whole}
use lib.Ieee.Fits.{up_pos, down_pos}
use lib.Ieee.Scale.{round_same}
use Rattle.near.specs.Ratio.{size_of}

-- z / period, rounded once
abbrev pub rounded : ℤ → ℕ → Float
rounded (pos n) period = round binary64 false n period
rounded (negsuc n) period = round binary64 true (suc n) period

signs : (f : Format) (s t u : Bool) (a b : ℕ) → t ≡ s → u ≡ false → round f (unlike t u) a b ≡ round f s a b
signs f s t u a b p q = ap (λ x. round f (unlike x u) a b) p ∙ ap (λ x. round f (unlike s x) a b) q ∙ same s
  where
    same : (s : Bool) → round f (unlike s false) a b ≡ round f s a b
    same true = refl
    same false = refl

-- equal fractions
cross : (n d m' de k' dg : ℕ) → m' * 1 ≡ n * de → k' * 1 ≡ d * dg → m' * dg * d ≡ n * (k' * de)
cross n d m' de k' dg v w =
    let a : m' ≡ n * de = omega (arith, v) in
    let b : k' ≡ d * dg = omega (arith, w) in
    rw (a, b) (simp (mul_assoc, mul_comm, mul_left_comm))

-- which case of `div` a divisor of m is: by whether it is 0
nonzero : (m : ℕ) → 0 < m → eqb m 0 ≡ false
nonzero m h = go (eqb m 0) (eqb→eq m 0)
  where
    go : (b : Bool) → (T b → m ≡ 0) → b ≡ false
    go false z = refl
    go true z = absurd (lt_irrefl 0 (subst (λ x. 0 < x) (z tt) h))

some : (k a b d : ℕ) → k * a * 1 ≡ d * b → 0 < d → 0 < b → 0 < k
some ℕ.zero a b d e p q = absurd (lt_irrefl 0 (subst (λ x. 0 < x) (sym e ∙ omega arith) (mul-pos p q)))
some (suc k) a b d e p q = zero-lt-suc k

pub quotient : (f : Format) (s : Bool) (n d : ℕ) (x y : Float) → 0 < d → HasValue x s n 1 → HasValue y false d 1 → div f x y ≡ round f s n d
unfolding div
quotient f s n d (fin t m e) (fin u k g) h v w =
    let p : 0 < k = some k (up g) (down g) d w.1 h (down_pos g) in
    rw (nonzero k p)
    (signs f s t u _ _ v.0 w.0
    ∙ round_same f s (m * up e * down g) (k * up g * down e) n d (mul-pos (mul-pos p (up_pos g)) (down_pos e)) h
    (cross n d (m * up e) (down e) (k * up g) (down g) v.1 w.1))
quotient f s n d nan y h v w = absurd v
quotient f s n d (inf t) y h v w = absurd v
quotient f s n d (fin t m e) nan h v w = absurd w
quotient f s n d (fin t m e) (inf u) h v w = absurd w

-- the quotient of the numbers of z and d
pub div_is : (z : ℤ) (d : ℕ) → size_of z < 2 ^ 53 → 0 < d → d < 2 ^ 53 → div binary64 (of_int binary64 z) (of_int binary64 (pos d)) ≡ rounded z d
unfolding of_int
div_is (pos n) d a h b = quotient binary64 false n d _ _ h (round_whole binary64 false n (omega arith)) (round_whole binary64 false d (omega arith))
div_is (negsuc n) d a h b = quotient binary64 true (suc n) d _ _ h (round_whole binary64 true (suc n) (omega arith)) (round_whole binary64 false d (omega arith))
