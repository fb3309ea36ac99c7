-- What a refusal says of the conditions before it.
use Rattle.std.proofs.Common.{◌≡◌, ℕ, ◌≤◌, List, inl, inr, arith}
use Rattle.std.proofs.lemmas.Bool.{cases_eq}
use Rattle.circuit.specs.Whole.{Shaped}
use Rattle.circuit.specs.Refused.{number_of, Applies, FirstRefusal}
use Rattle.circuit.specs.declared.refusal.Refusal.{Refusal}
use Rattle.circuit.specs.declared.refusal.Refusal.TheVariants.{GateNumbers, RegisterNumbers, TimeNumbers}

stable : (a b : ℕ) → ((a ≡ b → ⊥) → ⊥) → a ≡ b
stable a b twice = elim (cases_eq a b) [ inl same ↦ same | inr other ↦ absurd (twice other) ]

-- whoever is refused by a later number has numbers of the right counts
pub shaped_before : (g r t : List ℕ) (e : Refusal) → FirstRefusal g r t e → 2 ≤ number_of e → Shaped g r t
shaped_before g r t e refused h = (
  stable _ _ (λ no_seven. later GateNumbers no_seven (omega arith)),
  stable _ _ (λ no_three. later RegisterNumbers no_three (omega arith)),
  stable _ _ (λ no_five. later TimeNumbers no_five (omega arith)),
)
  where
    later : (f : Refusal) → Applies g r t f → number_of f ≤ 1 → ⊥
    later f applies low = elim (refused.first f applies) [ inl below ↦ omega arith | inr same ↦ omega arith ]
