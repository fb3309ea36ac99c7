-- Bits packed into numbers: one is turned, and no other.
use Rattle.std.proofs.Common.{◌≡◌, ℕ, zero, suc, ◌+◌, ◌-◌, ◌*◌, ◌/◌, ◌%◌, ◌^◌, ◌<◌, Bool, true, false, not, eqb, List, length, get_or, set, sym, refl, ap, ◌∙◌, inl, inr, mul_assoc, arith, get_or-set_other, get_or-set_same}
use mathlib.Core.Bool.{beq}
use native.Mathlib.Nat.{mul-mod_left, div-eq_of_lt}
use lib.Bits.{bit_xor, xor_shr, xor_mod, xor_zero_r}
use mir.Val.{bool_byte}
use Rattle.std.proofs.lemmas.Nat.{pow-add, pow_below, shl-shr, shl_whole, mul-le}
use Rattle.std.proofs.lemmas.Bool.{cases_eq, cases_order}
use Rattle.circuit.specs.Gate.{bit}
use Rattle.history.specs.Kept.{bit_in}

-- bit j of a number in which c times bit k is turned
turned : (w c k j : ℕ) → bit_xor w (c * 2 ^ k) / 2 ^ j % 2 ≡ bit_xor (w / 2 ^ j % 2) (c * 2 ^ k / 2 ^ j % 2)
turned w c k j = ap (λ (n : ℕ). n % 2) (xor_shr w (c * 2 ^ k) j) ∙ xor_mod (w / 2 ^ j) (c * 2 ^ k / 2 ^ j) 1

regrouped : (c a b : ℕ) → c * (a * 2 * b) ≡ c * a * 2 * b
regrouped c a b = sym (mul_assoc c (a * 2) b) ∙ ap (λ (n : ℕ). n * b) (sym (mul_assoc c a 2))

elsewhere : (c k j : ℕ) → c < 2 → (j ≡ k → ⊥) → c * 2 ^ k / 2 ^ j % 2 ≡ 0
elsewhere c k j h ne = elim (cases_order j k) [
  | inl e ↦ absurd (ne e)
  | inr (inl l) ↦
      let e : k ≡ (k - j - 1) + 1 + j = omega arith in
      let s : c * 2 ^ k ≡ (c * 2 ^ (k - j - 1) * 2) * 2 ^ j = ap (λ (n : ℕ). c * 2 ^ n) e ∙ ap (λ (n : ℕ). c * n) (pow-add 2 (k - j - 1 + 1) j ∙ ap (λ (n : ℕ). n * 2 ^ j) (pow-add 2 (k - j - 1) 1)) ∙ regrouped c (2 ^ (k - j - 1)) (2 ^ j) in
      rw s (ap (λ (n : ℕ). n % 2) (shl-shr (c * 2 ^ (k - j - 1) * 2) j) ∙ mul-mod_left (c * 2 ^ (k - j - 1)) 2)
  | inr (inr g) ↦ ap (λ (n : ℕ). n % 2) (div-eq_of_lt {n = c * 2 ^ k} {m = 2 ^ j} (omega (arith, pow_below k j g, mul-le c (2 ^ k) 1 (2 ^ k) (omega arith) (omega arith))))
]

other_bit : (w c k j : ℕ) → c < 2 → (j ≡ k → ⊥) → bit j (bit_xor w (c * 2 ^ k)) ≡ bit j w
other_bit w c k j h ne = ap (λ (n : ℕ). eqb n 1) (turned w c k j ∙ ap (bit_xor (w / 2 ^ j % 2)) (elsewhere c k j h ne) ∙ xor_zero_r _)

flip : (x : ℕ) (b : Bool) → x < 2 → eqb (bit_xor x (bool_byte (not (beq (eqb x 1) b)))) 1 ≡ b
flip zero true h = refl
flip zero false h = refl
flip (suc zero) true h = refl
flip (suc zero) false h = refl
flip (suc (suc x)) b h = absurd (omega arith)

byte_small : (b : Bool) → bool_byte b < 2
byte_small true = omega arith
byte_small false = omega arith

new_bit : (w k : ℕ) (b : Bool) → bit k (bit_xor w (bool_byte (not (beq (bit k w) b)) * 2 ^ k)) ≡ b
new_bit w k b =
    let n : ℕ = bool_byte (not (beq (bit k w) b)) in
    let e : n * 2 ^ k / 2 ^ k % 2 ≡ n = ap (λ (m : ℕ). m % 2) (shl-shr n k) ∙ small n (byte_small (not (beq (bit k w) b))) in
    ap (λ (m : ℕ). eqb m 1) (turned w n k k ∙ ap (bit_xor (w / 2 ^ k % 2)) e) ∙ flip (w / 2 ^ k % 2) b (omega arith)
  where
    small : (n : ℕ) → n < 2 → n % 2 ≡ n
    small n h = omega arith

module _ (ws : List ℕ) (i : ℕ) (b old : Bool) (h : i / 64 < length ws) (was : old ≡ bit_in ws i) where
  abbrev c : ℕ
  c = bool_byte (not (beq old b))

  abbrev after : List ℕ
  after = set ws (i / 64) (bit_xor (get_or ws (i / 64) 0) ((c * 2 ^ (i % 64)) % 2 ^ 64))

  whole : (c * 2 ^ (i % 64)) % 2 ^ 64 ≡ c * 2 ^ (i % 64)
  whole = shl_whole c 1 (i % 64) 64 (byte_small (not (beq old b))) (omega arith)

  pub put_here : bit_in after i ≡ b
  unfolding bit_in
  put_here = rw (whole, get_or-set_same ws (i / 64) (bit_xor (get_or ws (i / 64) 0) (c * 2 ^ (i % 64))) 0 h, was) (new_bit (get_or ws (i / 64) 0) (i % 64) b)

  pub put_other : (j : ℕ) → (j ≡ i → ⊥) → bit_in after j ≡ bit_in ws j
  unfolding bit_in
  put_other j ne = elim (cases_eq (j / 64) (i / 64)) [
    | inl e ↦ rw (whole, e, get_or-set_same ws (i / 64) (bit_xor (get_or ws (i / 64) 0) (c * 2 ^ (i % 64))) 0 h)
        (other_bit (get_or ws (i / 64) 0) c (i % 64) (j % 64) (byte_small (not (beq old b))) (λ m. ne (omega arith)))
    | inr o ↦ rw (get_or-set_other ws (i / 64) (j / 64) (bit_xor (get_or ws (i / 64) 0) ((c * 2 ^ (i % 64)) % 2 ^ 64)) 0 o)
  ]
