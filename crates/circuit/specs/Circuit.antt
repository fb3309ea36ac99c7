-- Gates over sources, and values of all signals by one rule.
use Rattle.std.specs.Prelude.{ℕ, suc, ◌+◌, ◌<◌, ◌≤◌, cond, List, [], ◌∷◌, length, ◌==◌, slice_index_or}
use Rattle.circuit.specs.Gate.{no_gate}
use Rattle.circuit.specs.declared.gate.Gate.{Gate}

-- signals are numbered: the sources (inputs) first, then the gates in order
pub record Circuit : Type 0 where
  pub inputs : ℕ
  pub gates : List Gate

-- gate k of a circuit
abbrev pub gate : Circuit → ℕ → Gate
gate c k = slice_index_or c.gates k no_gate

abbrev pub signals : Circuit → ℕ
signals c = c.inputs + length c.gates

-- every gate's inputs are signals before it, and no least delay is above its greatest
pub record Sound (c : Circuit) : Type 0 where
  pub before : (k : ℕ) → k < length c.gates → ((gate c k).one < c.inputs + k) × ((gate c k).two < c.inputs + k)
  pub ranges : (k : ℕ) → k < length c.gates → ((gate c k).least_one ≤ (gate c k).greatest_one) × ((gate c k).least_two ≤ (gate c k).greatest_two)

-- a value for every signal by one rule f, which says what the gate with a signal's number makes of the values of its two inputs:
-- signals below n as given by s, and from n on those of the gates
unfoldable pub along : {A : Type 0} → (ℕ → Gate → A → A → A) → ℕ → List Gate → (ℕ → A) → (ℕ → A)
along f n [] s = s
along f n (g ∷ gs) s = along f (suc n) gs (λ k. cond (k == n) (f n g (s g.one) (s g.two)) (s k))
