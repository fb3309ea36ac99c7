-- A list that is filled place by place.
use Rattle.std.proofs.Common.{◌≡◌, ℕ, ◌+◌, ◌<◌, ◌≢◌, List, length, set, refl, ◌∙◌, inl, inr, arith}
use Rattle.std.proofs.lemmas.List.{get_or-set_same, get_or-set_other}
use Rattle.std.proofs.lemmas.Bool.{cases_eq}
use Rattle.circuit.specs.Filled.{Filled}

pub filled_none : {A : Type 0} (d : A) (f : ℕ → A) (xs : List A) → Filled d 0 f xs xs
filled_none d f xs = record { filled = λ k h. absurd (omega arith); rest = λ k h. refl }

pub filled_more : {A : Type 0} {d : A} {n : ℕ} {f : ℕ → A} {before after : List A} → Filled d n f before after → (v : A) → n < length after → v ≡ f n → Filled d (n + 1) f before (set after n v)
filled_more {d} {n} {f} {before} {after} sofar v room is = record {
  filled = λ k h. elim (cases_eq k n) [
    | inl same ↦ rw same (get_or-set_same after n v d room ∙ is)
    | inr other ↦ let ne : k ≢ n = other in get_or-set_other after n k v d ne ∙ sofar.filled k (omega arith)
  ];
  rest = λ k h. let ne : k ≢ n = omega arith in get_or-set_other after n k v d ne ∙ sofar.rest k (omega arith);
}
