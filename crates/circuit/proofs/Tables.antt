-- Laws of the sixteen tables, each by one test that is computed over all of them.
use Rattle.std.proofs.Common.{◌≡◌, ℕ, zero, suc, ◌+◌, ◌*◌, ◌/◌, ◌%◌, ◌^◌, ◌<◌, Bool, true, false, cond, not, ◌&&◌, eqb, sym, refl, ◌∙◌, inl, inr, arith}
use lib.Bits.{bit_and}
use lib.Count.{ones}
use mir.Val.{bool_byte}
use Rattle.std.proofs.lemmas.Nat.{and_mask}
use Rattle.std.proofs.lemmas.Bool.{cases_eq, and_parts, eqb-true}
use Rattle.circuit.specs.Gate.{output, says, ones_of, place, TablesSay}

abbrev same : Bool → Bool → Bool
same a b = cond a b (not b)

same_eq : (a b : Bool) → same a b ≡ true → a ≡ b
same_eq true b e = sym e
same_eq false true e = e
same_eq false false e = refl

-- a test passes at every number below n
abbrev pub every : (ℕ → Bool) → ℕ → Bool
every f zero = true
every f (suc n) = f n && every f n

pub at : (f : ℕ → Bool) (n : ℕ) → every f n ≡ true → (t : ℕ) → t < n → f t ≡ true
at f zero e t h = absurd (omega arith)
at f (suc n) e t h =
    elim (cases_eq t n) [
      | inl s ↦ rw s (and_parts (f n) (every f n) e).0
      | inr o ↦ at f n (and_parts (f n) (every f n) e).1 t (omega arith)
    ]

pub tables_say : TablesSay
unfolding output
tables_say t true true h = same_eq _ _ (at (λ t. same (output t true true) (says t true true)) 16 refl t h)
tables_say t true false h = same_eq _ _ (at (λ t. same (output t true false) (says t true false)) 16 refl t h)
tables_say t false true h = same_eq _ _ (at (λ t. same (output t false true) (says t false true)) 16 refl t h)
tables_say t false false h = same_eq _ _ (at (λ t. same (output t false false) (says t false false)) 16 refl t h)

-- only the four lowest bits count
output_low : (t : ℕ) (a b : Bool) → output (t % 16) a b ≡ output t a b
unfolding output
output_low t true true = let e : t % 16 / 8 % 2 ≡ t / 8 % 2 = omega arith in rw e
output_low t true false = let e : t % 16 / 2 % 2 ≡ t / 2 % 2 = omega arith in rw e
output_low t false true = let e : t % 16 / 4 % 2 ≡ t / 4 % 2 = omega arith in rw e
output_low t false false = let e : t % 16 / 1 % 2 ≡ t / 1 % 2 = omega arith in rw e

ones_low : (u : ℕ) → u < 16 → ones u ≡ ones_of u
unfolding output ones
ones_low u h = eqb-true _ _ (at (λ u. eqb (ones u) (ones_of u)) 16 refl u h)

pub ones_are : (t : ℕ) → ones (bit_and t 15) ≡ ones_of t
ones_are t =
    rw (and_mask t 4)
    (ones_low (t % 16) (omega arith)
    ∙ rw (output_low t false false, output_low t true false, output_low t false true, output_low t true true))

pub output_is : (t x y : ℕ) (a b : Bool) → x ≡ bool_byte a → y ≡ bool_byte b → eqb (bit_and (t / 2 ^ (x + 2 * y)) 1) 1 ≡ output t a b
unfolding output
output_is t x y a b ex ey =
    let e : x + 2 * y ≡ place a b = rw (ex, ey) (places a b) in
    rw (e, and_mask (t / 2 ^ place a b) 1)
  where
    places : (a b : Bool) → bool_byte a + 2 * bool_byte b ≡ place a b
    places true true = refl
    places true false = refl
    places false true = refl
    places false false = refl
