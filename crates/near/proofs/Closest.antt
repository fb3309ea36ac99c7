-- A fraction rounded to a number of few binary digits: none is nearer.
use Rattle.std.proofs.Common.{◌≡◌, ℕ, suc, ◌+◌, ◌-◌, ◌*◌, ◌/◌, ◌%◌, ◌^◌, ◌<◌, ◌≤◌, not, sym, ap, subst, ◌∙◌, inl, inr, ◌⊎◌, arith}
use Prim.Native.Nat.{compare, Ordering}
use native.Mathlib.Nat.{le_trans, le_of_eq, lt_of_lt_of_le, mul_assoc, mul_comm, mul_left_comm, add-mul, mul-le-mul_right, mul-lt-mul_of_pos_right, mul-pos, div-add-mod', mod-lt, le-div_iff_mul-le}
use Rattle.std.proofs.lemmas.Bool.{cases_lt}
use Rattle.near.specs.Ratio.{apart}
use lib.Dec.{T, is_le, compare_is_eq, eqb, leb→le, nleb→lt, eqb→eq, eqb_refl}
use lib.Arith.{lt_of_le-ne}
use lib.Pow.{pow-add, pow_pos, pow_mono, shl_lt}
use lib.Ieee.{nearest}
use lib.Ieee.Digits.{size_reaches, back}
use lib.Ieee.Nearest.{closest}
use lib.Ieee.Order.{drop, kept}

abbrev Cmp : Ordering → ℕ → ℕ → Type 0
Cmp Ordering.lt a b = a < b
Cmp Ordering.eq a b = a ≡ b
Cmp Ordering.gt a b = b < a

cmp : (a b : ℕ) → Cmp (compare a b) a b
cmp a b = go (compare a b) (leb→le a b) (nleb→lt a b) (eqb→eq a b) (λ (e : a ≡ b). subst (λ (x : ℕ). T (eqb a x)) e (eqb_refl a))
  where
    go : (o : Ordering) → (T (is_le o) → a ≤ b) → (T (not (is_le o)) → b < a) → (T (compare_is_eq o) → a ≡ b) → (a ≡ b → T (compare_is_eq o)) → Cmp o a b
    go Ordering.lt h k e n = lt_of_le-ne (h tt) n
    go Ordering.eq h k e n = e tt
    go Ordering.gt h k e n = k tt

up_one : (w u : ℕ) → suc w * u ≡ w * u + u
up_one w u = omega (arith, add-mul w 1 u)

-- the multiples of u that are not w * u are at least u away from it
one_less : (w u c : ℕ) → suc c ≤ w → c * u + u ≤ w * u
one_less w u c h = let a : suc c * u ≤ w * u = mul-le-mul_right u h in omega (arith, a, up_one c u)

parity : (w : ℕ) → (w % 2 ≡ 0) ⊎ (w % 2 ≡ 1)
parity w = elim (cases_lt (w % 2) 1) [ inl h ↦ inl (omega arith) | inr h ↦ inr (omega arith) ]

at_tie : (w u : ℕ) → ((w + w % 2) * u ≡ w * u) ⊎ ((w + w % 2) * u ≡ w * u + u)
at_tie w u = elim (parity w) [
  | inl e ↦ let z : w + w % 2 ≡ w = omega arith in inl (ap (λ x. x * u) z)
  | inr e ↦ let z : w + w % 2 ≡ suc w = omega arith in inr (ap (λ x. x * u) z ∙ up_one w u)
]

best_by : (o : Ordering) (w u r n c : ℕ) → w * u + r ≡ n → r < u → Cmp o (r * 2) u → apart (nearest w o * u) n ≤ apart (c * u) n
best_by Ordering.lt w u r n c e l h = elim (cases_lt w c) [
  | inl p ↦ let q = one_less c u w p in omega arith
  | inr p ↦ let q : c * u ≤ w * u = mul-le-mul_right u p in omega arith
]
best_by Ordering.eq w u r n c e l h = elim (cases_lt w c) [
  | inl p ↦ let q = one_less c u w p in elim (at_tie w u) [ inl z ↦ omega arith | inr z ↦ omega arith ]
  | inr p ↦ let q : c * u ≤ w * u = mul-le-mul_right u p in elim (at_tie w u) [ inl z ↦ omega arith | inr z ↦ omega arith ]
]
best_by Ordering.gt w u r n c e l h = elim (cases_lt w c) [
  | inl p ↦ let q = one_less c u w p in let z = up_one w u in omega arith
  | inr p ↦ let q : c * u ≤ w * u = mul-le-mul_right u p in let z = up_one w u in omega arith
]

pub best : (n u c : ℕ) → 0 < u → apart (closest n u * u) n ≤ apart (c * u) n
best n u c h = best_by (compare (n % u * 2) u) (n / u) u (n % u) n c (div-add-mod' n u) (mod-lt n h) (cmp (n % u * 2) u)

tied_by : (o : Ordering) (w u r n c : ℕ) → w * u + r ≡ n → r < u → Cmp o (r * 2) u → (c ≡ nearest w o → ⊥) → apart (nearest w o * u) n ≡ apart (c * u) n → nearest w o % 2 ≡ 0
tied_by Ordering.lt w u r n c e l h ne same = absurd (elim (cases_lt w c) [
  | inl p ↦ let q = one_less c u w p in omega arith
  | inr p ↦ elim (cases_lt c w) [
    | inl s ↦ let q = one_less w u c s in omega arith
    | inr s ↦ ne (omega arith)
  ]
])
tied_by Ordering.eq w u r n c e l h ne same = omega arith
tied_by Ordering.gt w u r n c e l h ne same = absurd (elim (cases_lt w c) [
  | inl p ↦ elim (cases_lt (suc w) c) [
    | inl s ↦ let q = one_less c u (suc w) s in let z = up_one w u in omega arith
    | inr s ↦ ne (omega arith)
  ]
  | inr p ↦ let q : c * u ≤ w * u = mul-le-mul_right u p in let z = up_one w u in omega arith
])

pub tied : (n u c : ℕ) → 0 < u → (c ≡ closest n u → ⊥) → apart (closest n u * u) n ≡ apart (c * u) n → closest n u % 2 ≡ 0
tied n u c h = tied_by (compare (n % u * 2) u) (n / u) u (n % u) n c (div-add-mod' n u) (mod-lt n h) (cmp (n % u * 2) u)

-- ---- n / d rounded to p digits, and r * 2 ^ j with at most p digits beside it
module _ (p n d : ℕ) (P : 0 < p) (D : 0 < d) where
  abbrev k : ℕ
  k = drop p n d

  abbrev u : ℕ
  u = d * 2 ^ k

  some : 0 < u
  some = mul-pos D (pow_pos k)

  pub result : kept p n d * 2 ^ k * d ≡ kept p n d * u
  result = simp (mul_assoc, mul_comm, mul_left_comm)

  module _ (r j : ℕ) (few : r < 2 ^ p) where
    -- on the grid of the result
    on : k ≤ j → r * 2 ^ j * d ≡ r * 2 ^ (j - k) * u
    on h =
        let e : 2 ^ j ≡ 2 ^ (j - k) * 2 ^ k = ap (λ x. 2 ^ x) (sym (back j k h)) ∙ pow-add 2 (j - k) k in
        ap (λ x. r * x * d) e ∙ simp (mul_assoc, mul_comm, mul_left_comm)

    -- finer than it: below its coarsest part, which is not above n / d
    off : j < k → (r * 2 ^ j * d < 2 ^ (p - 1) * u) × (2 ^ (p - 1) * u ≤ n)
    off h =
        let a : r * 2 ^ j < 2 ^ (p - 1 + k) = lt_of_lt_of_le (shl_lt p j few) (pow_mono (omega arith)) in
        let c : 2 ^ (p - 1) * u ≡ 2 ^ (p - 1 + k) * d = simp (mul_assoc, mul_comm) (ap (λ x. d * x) (sym (pow-add 2 (p - 1) k))) in
        let b : 2 ^ (p - 1 + k) * d ≤ n = (le-div_iff_mul-le D).0 (size_reaches (n / d) (p - 1 + k) (omega arith)) in
        (lt_of_lt_of_le (mul-lt-mul_of_pos_right a D) (le_of_eq (sym c)), le_trans (le_of_eq c) b)

    pub none_nearer : apart (kept p n d * 2 ^ k * d) n ≤ apart (r * 2 ^ j * d) n
    none_nearer = elim (cases_lt j k) [
      | inl h ↦ let o = off h in let q = best n u (2 ^ (p - 1)) some in let z = result in omega arith
      | inr h ↦ let q = best n u (r * 2 ^ (j - k)) some in let z = result in let y = on h in omega arith
    ]

    pub even_if_tied : apart (kept p n d * 2 ^ k * d) n ≡ apart (r * 2 ^ j * d) n → (r * 2 ^ j ≡ kept p n d * 2 ^ k → ⊥) → kept p n d % 2 ≡ 0
    even_if_tied same ne = elim (cases_lt j k) [
      | inl h ↦ let o = off h in let q = best n u (2 ^ (p - 1)) some in let z = result in absurd (omega arith)
      | inr h ↦
          let z = result in let y = on h in
          let e : 2 ^ j ≡ 2 ^ (j - k) * 2 ^ k = ap (λ x. 2 ^ x) (sym (back j k h)) ∙ pow-add 2 (j - k) k in
          let other : r * 2 ^ (j - k) ≡ kept p n d → ⊥ = λ f. ne (ap (λ x. r * x) e ∙ sym (mul_assoc r (2 ^ (j - k)) (2 ^ k)) ∙ ap (λ x. x * 2 ^ k) f) in
          let equal : apart (kept p n d * u) n ≡ apart (r * 2 ^ (j - k) * u) n = omega arith in
          tied n u (r * 2 ^ (j - k)) some other equal
    ]
