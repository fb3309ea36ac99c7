-- The numbers of a circuit in one row: gates, then registers, then times.
use Rattle.std.proofs.Common.{◌≡◌, ℕ, ◌+◌, ◌-◌, ◌<◌, ◌≤◌, List, ◌++◌, length, get_or, refl, ◌∙◌, inl, inr, arith, rules}
use Rattle.std.proofs.lemmas.List.{get_or_append_left, get_or-append_right, get_or_past}
use Rattle.std.proofs.lemmas.Bool.{cases_lt}
use Rattle.circuit.specs.Whole.{Small}
use Rattle.circuit.specs.Refused.{FirstRefusal, MetUpTo}
use Rattle.circuit.specs.declared.refusal.Refusal.TheVariants.{TooLarge}

-- the first n of a list are small
abbrev pub SmallTo : ℕ → List ℕ → Type 0
SmallTo n xs = (i : ℕ) → i < n → get_or xs i 0 ≤ 1000000

module _ (g r t : List ℕ) where
  abbrev row : ℕ → ℕ
  row p = get_or (g ++ (r ++ t)) p 0

  pub in_gates : (p : ℕ) → p < length g → row p ≡ get_or g p 0
  in_gates p h = get_or_append_left g (r ++ t) 0 p h

  pub past_gates : (p : ℕ) → length g ≤ p → row p ≡ get_or (r ++ t) (p - length g) 0
  past_gates p h = get_or-append_right g (r ++ t) (length g) p 0 refl h

  pub in_registers : (i : ℕ) → i < length r → row (length g + i) ≡ get_or r i 0
  in_registers i h =
      let e : length g + i - length g ≡ i = omega arith in
      past_gates (length g + i) (omega arith) ∙ rw e (get_or_append_left r t 0 i h)

  pub in_times : (i : ℕ) → row (length g + length r + i) ≡ get_or t i 0
  in_times i =
      let e : length g + length r + i - length g ≡ length r + i = omega arith in
      let d : length r + i - length r ≡ i = omega arith in
      past_gates (length g + length r + i) (omega arith) ∙ rw e (get_or-append_right r t (length r) (length r + i) 0 refl (omega arith) ∙ rw d)

  -- what is small part by part is so in the row
  module _ (gates : SmallTo (length g) g) where
    pub gates_small : (p : ℕ) → p < length g → Small g r t p
    gates_small p h = rw (in_gates p h) (gates p h)

    pub registers_small : (n : ℕ) → n ≤ length r → SmallTo n r → (p : ℕ) → p < length g + n → Small g r t p
    registers_small n le some p h =
        elim (cases_lt p (length g)) [
          | inl in_front ↦ gates_small p in_front
          | inr past ↦
              let e : length g + (p - length g) ≡ p = omega arith in
              let i : p - length g < length r = omega arith in
              rw (← e) (rw (in_registers (p - length g) i) (some (p - length g) (omega arith)))
        ]

    pub times_small : (n : ℕ) → SmallTo (length r) r → SmallTo n t → (p : ℕ) → p < length g + length r + n → Small g r t p
    times_small n registers some p h =
        elim (cases_lt p (length g + length r)) [
          | inl in_front ↦ registers_small (length r) (omega arith) registers p in_front
          | inr past ↦
              let e : length g + length r + (p - length g - length r) ≡ p = omega arith in
              rw (← e) (rw (in_times (p - length g - length r)) (some (p - length g - length r) (omega arith)))
        ]

    pub all_small : SmallTo (length r) r → SmallTo (length t) t → (p : ℕ) → Small g r t p
    all_small registers times p =
        elim (cases_lt p (length g + length r + length t)) [
          | inl inside ↦ times_small (length t) registers times p inside
          | inr past ↦
              let e : length g + length r + (p - length g - length r) ≡ p = omega arith in
              rw (← e) (rw (in_times (p - length g - length r), get_or_past t (p - length g - length r) 0 (omega arith)) (omega arith))
        ]

-- the first number of the row that is not small is the reason, where the counts are right
pub first_large : (g r t : List ℕ) (p : ℕ) → MetUpTo g r t 2 → 1000000 < get_or (g ++ (r ++ t)) p 0 → ((q : ℕ) → q < p → Small g r t q) → FirstRefusal g r t (TooLarge p)
first_large g r t p met large before = let w : Small g r t p → ⊥ = λ s. omega arith in search rules

-- what is small in the row is so in each part
module _ (g r t : List ℕ) (small : (p : ℕ) → Small g r t p) where
  pub small_gates : (i : ℕ) → get_or g i 0 ≤ 1000000
  small_gates i = elim (cases_lt i (length g)) [
    | inl h ↦ omega (arith, small i, in_gates g r t i h)
    | inr h ↦ omega (arith, get_or_past g i 0 h)
  ]

  pub small_registers : (i : ℕ) → get_or r i 0 ≤ 1000000
  small_registers i = elim (cases_lt i (length r)) [
    | inl h ↦ omega (arith, small (length g + i), in_registers g r t i h)
    | inr h ↦ omega (arith, get_or_past r i 0 h)
  ]

  pub small_times : (i : ℕ) → get_or t i 0 ≤ 1000000
  small_times i = omega (arith, small (length g + length r + i), in_times g r t i)
