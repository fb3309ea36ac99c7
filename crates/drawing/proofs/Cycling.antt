-- Cycles of the drawing, one after the other.
use Rattle.std.proofs.Common.{◌≡◌, ℕ, ◌+◌, ◌-◌, ◌<◌, ◌≤◌, Bool, false, List, refl, ap, ◌∙◌, inl, inr, add-one, arith}
use Rattle.std.proofs.lemmas.Bool.{cases_lt}
use Rattle.circuit.specs.Circuit.{Sound}
use Rattle.circuit.specs.Lent.{register_count, signal_count, drawn, takes}
use Rattle.circuit.proofs.LentLaws.{gates_in_length}
use Rattle.drawing.specs.Drawing.{ideal, held}
use Rattle.circuit.specs.Filled.{Filled}
use Rattle.drawing.specs.Lent.{bit_at, Cycled}
use Rattle.drawing.proofs.IdealLaws.{ideal_agrees}

module _ (g rs : List ℕ) (sound : Sound (drawn g rs)) (taken : (r : ℕ) → r < register_count rs → takes rs r < signal_count g rs) where
  abbrev settled : List Bool → ℕ → Bool
  settled b = ideal (drawn g rs) (bit_at b)

  -- registers that show the same bits give the same signals
  agree : (a b : ℕ → Bool) → ((r : ℕ) → r < register_count rs → a r ≡ b r) → (k : ℕ) → k < signal_count g rs → ideal (drawn g rs) a k ≡ ideal (drawn g rs) b k
  agree a b same k h = ideal_agrees (drawn g rs) sound a b same k (omega (arith, gates_in_length g))

  -- the bits shown, the gates settled, the signals taken
  module _ (b s₀ s₁ s₂ b' : List Bool) (shown : Filled false (register_count rs) (bit_at b) s₀ s₁) (drawn_on : Filled false (signal_count g rs) (settled s₁) s₁ s₂)
      (at_once : Filled false (register_count rs) (λ r. bit_at s₂ (takes rs r)) b b') where
    pub cycle_settled : Filled false (signal_count g rs) (settled b) s₀ s₂
    cycle_settled = record {
      filled = λ k h. drawn_on.filled k h ∙ agree (bit_at s₁) (bit_at b) shown.filled k h;
      rest = λ k h. drawn_on.rest k h ∙ shown.rest k (omega arith);
    }

    pub cycle_taken : Filled false (register_count rs) (λ r. settled b (takes rs r)) b b'
    cycle_taken = record {
      filled = λ r h. at_once.filled r h ∙ cycle_settled.filled (takes rs r) (taken r h);
      rest = at_once.rest;
    }

  pub no_cycle : (b s : List Bool) → Cycled g rs 0 b b s s
  unfolding held
  no_cycle b s = record { bits_held = record { filled = λ k h. refl; rest = λ k h. refl }; none = λ e. refl; some = λ h. absurd (omega arith) }

  pub one_more_cycle : (n : ℕ) (b b₁ b₂ s s₁ s₂ : List Bool) → Cycled g rs n b b₁ s s₁ → Filled false (signal_count g rs) (settled b₁) s₁ s₂ →
      Filled false (register_count rs) (λ r. settled b₁ (takes rs r)) b₁ b₂ → Cycled g rs (n + 1) b b₂ s s₂
  unfolding held
  one_more_cycle n b b₁ b₂ s s₁ s₂ sofar signals bits =
      let now : ℕ → Bool = held (drawn g rs) (takes rs) (bit_at b) n in
      let same : (k : ℕ) → k < signal_count g rs → settled b₁ k ≡ ideal (drawn g rs) now k = agree (bit_at b₁) now sofar.bits_held.filled in
      let e : n + 1 - 1 ≡ n = omega arith in
      let kept : (k : ℕ) → signal_count g rs ≤ k → bit_at s₁ k ≡ bit_at s k = λ k q.
      elim (cases_lt 0 n) [ inl some ↦ (sofar.some some).rest k q | inr none ↦ ap (λ xs. bit_at xs k) (sofar.none (omega arith)) ] in
      record {
        bits_held = record {
          filled = λ r h. bits.filled r h ∙ same (takes rs r) (taken r h) ∙ rw add-one;
          rest = λ k h. bits.rest k h ∙ sofar.bits_held.rest k h;
        };
        none = λ z. absurd (omega arith);
        some = λ h. rw e (record {
          filled = λ k q. signals.filled k q ∙ same k q;
          rest = λ k q. signals.rest k q ∙ kept k q;
        });
      }
