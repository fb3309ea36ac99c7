-- What `along` makes of a circuit, by two equations, and the induction over a circuit's signals. Nothing else opens `along`.
use Rattle.std.proofs.Common.{◌≡◌, ℕ, zero, suc, ◌+◌, ◌-◌, ◌<◌, cond, eqb, List, [], ◌∷◌, length, get_or, refl, ◌∙◌, inl, inr, add-zero, arith}
use Rattle.std.proofs.lemmas.Bool.{ne_eqb, eq-eqb, cases_lt}
use Rattle.circuit.specs.Gate.{no_gate}
use Rattle.circuit.specs.declared.gate.Gate.{Gate}
use Rattle.circuit.specs.Circuit.{Circuit, gate, signals, Sound, along}

module _ {A : Type 0} (f : ℕ → Gate → A → A → A) where
  -- one more gate's value in front of the rest
  abbrev one_more : ℕ → Gate → (ℕ → A) → ℕ → A
  one_more n g s k = cond (eqb k n) (f n g (s g.one) (s g.two)) (s k)

  one_more_other : (n : ℕ) (g : Gate) (s : ℕ → A) (k : ℕ) → k < n → one_more n g s k ≡ s k
  one_more_other n g s k h = rw (ne_eqb k n (λ e. omega arith))

  one_more_here : (n : ℕ) (g : Gate) (s : ℕ → A) → one_more n g s n ≡ f n g (s g.one) (s g.two)
  one_more_here n g s = rw (eq-eqb n n refl)

  -- signals before n are as given
  along_below : (n : ℕ) (gs : List Gate) (s : ℕ → A) (k : ℕ) → k < n → along f n gs s k ≡ s k
  unfolding along
  along_below n [] s k h = refl
  along_below n (g ∷ gs) s k h = along_below (suc n) gs (one_more n g s) k (omega arith) ∙ one_more_other n g s k h

  -- each gate's signal is what the rule makes of the signals of its inputs
  along_at : (n : ℕ) (gs : List Gate) (s : ℕ → A) (k : ℕ) → k < length gs →
      (get_or gs k no_gate).one < n + k → (get_or gs k no_gate).two < n + k →
      along f n gs s (n + k) ≡ f (n + k) (get_or gs k no_gate) (along f n gs s (get_or gs k no_gate).one) (along f n gs s (get_or gs k no_gate).two)
  unfolding along
  along_at n [] s k h a b = absurd (omega arith)
  along_at n (g ∷ gs) s zero h a b =
      let low : (j : ℕ) → j < n → along f (suc n) gs (one_more n g s) j ≡ s j = λ j q. along_below (suc n) gs (one_more n g s) j (omega arith) ∙ one_more_other n g s j q in
      rw (add-zero, low g.one (omega arith), low g.two (omega arith))
      (along_below (suc n) gs (one_more n g s) n (omega arith) ∙ one_more_here n g s)
  along_at n (g ∷ gs) s (suc k) h a b =
      let e : n + suc k ≡ suc n + k = omega arith in
      rw e (along_at (suc n) gs (one_more n g s) k (omega arith) (omega arith) (omega arith))

  -- the two equations for a circuit that is sound
  module _ (c : Circuit) (sound : Sound c) (s : ℕ → A) where
    abbrev all : ℕ → A
    all = along f c.inputs c.gates s

    pub all_in : (i : ℕ) → i < c.inputs → all i ≡ s i
    all_in i h = along_below c.inputs c.gates s i h

    pub all_at : (k : ℕ) → k < length c.gates → all (c.inputs + k) ≡ f (c.inputs + k) (gate c k) (all (gate c k).one) (all (gate c k).two)
    all_at k h = along_at c.inputs c.gates s k h (sound.before k h).0 (sound.before k h).1

-- what holds of each source, and of each gate's signal if it does of those of its inputs, holds of every signal
pub each_signal : (c : Circuit) → Sound c → (P : ℕ → Type 0) → ((i : ℕ) → i < c.inputs → P i) →
    ((k : ℕ) → k < length c.gates → P (gate c k).one → P (gate c k).two → P (c.inputs + k)) →
    (k : ℕ) → k < signals c → P k
each_signal c sound P base step k h = go (suc k) k (omega arith) h
  where
    go : (n k : ℕ) → k < n → k < signals c → P k
    go zero k a h = absurd (omega arith)
    go (suc n) k a h = elim (cases_lt k c.inputs) [
      | inl q ↦ base k q
      | inr q ↦
          let j : ℕ = k - c.inputs in
          let r : j < length c.gates = omega arith in
          let e : c.inputs + j ≡ k = omega arith in
          rw e at (step j r (go n _ (omega (arith, sound.before j r)) (omega (arith, sound.before j r))) (go n _ (omega (arith, sound.before j r)) (omega (arith, sound.before j r))))
    ]
