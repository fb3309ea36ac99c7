-- Laws of `ideal`: its two equations, that it is the only settled assignment, and that it depends on the sources' bits alone.
use Rattle.std.proofs.Common.{◌≡◌, ℕ, ◌+◌, ◌<◌, Bool, List, length, sym, ◌∙◌, arith}
use Rattle.circuit.specs.Gate.{output}
use Rattle.circuit.specs.Circuit.{Circuit, gate, signals, Sound}
use Rattle.circuit.specs.Lent.{gate_count, gate_in, circuit_in}
use Rattle.circuit.proofs.Signals.{all_in, all_at, each_signal}
use Rattle.circuit.proofs.LentLaws.{gates_in_length, gates_in_at}
use Rattle.drawing.specs.Drawing.{ideal, Settled, IdealIsSettled}

module _ (c : Circuit) (sound : Sound c) (b : ℕ → Bool) where
  pub ideal_in : (i : ℕ) → i < c.inputs → ideal c b i ≡ b i
  unfolding ideal
  ideal_in i h = all_in (λ _ g. output g.table) c sound b i h

  pub ideal_at : (k : ℕ) → k < length c.gates → ideal c b (c.inputs + k) ≡ output (gate c k).table (ideal c b (gate c k).one) (ideal c b (gate c k).two)
  unfolding ideal
  ideal_at k h = all_at (λ _ g. output g.table) c sound b k h

  pub only_ideal : (s : ℕ → Bool) → Settled c b s → (k : ℕ) → k < signals c → s k ≡ ideal c b k
  only_ideal s settled = each_signal c sound (λ k. s k ≡ ideal c b k)
      (λ i h. settled.sources i h ∙ sym (ideal_in i h))
      (λ k h p q. settled.follows k h ∙ rw (p, q) (sym (ideal_at k h)))

pub ideal_is_settled : IdealIsSettled
ideal_is_settled c b sound = (record { sources = ideal_in c sound b; follows = ideal_at c sound b }, only_ideal c sound b)

-- sources with the same bits give the same signals
pub ideal_agrees : (c : Circuit) → Sound c → (a b : ℕ → Bool) → ((i : ℕ) → i < c.inputs → a i ≡ b i) → (k : ℕ) → k < signals c → ideal c a k ≡ ideal c b k
ideal_agrees c sound a b same = only_ideal c sound b (ideal c a) (record { sources = λ i h. ideal_in c sound a i h ∙ same i h; follows = ideal_at c sound a })

-- the equation of a gate, over the numbers that are lent
pub ideal_lent : (n : ℕ) (gates : List ℕ) → Sound (circuit_in n gates) → (b : ℕ → Bool) (k : ℕ) → k < gate_count gates →
    ideal (circuit_in n gates) b (n + k) ≡ output (gate_in gates k).table (ideal (circuit_in n gates) b (gate_in gates k).one) (ideal (circuit_in n gates) b (gate_in gates k).two)
ideal_lent n gates sound b k h = rw (gates_in_at gates k h) at (ideal_at (circuit_in n gates) sound b k (omega (arith, gates_in_length gates)))
