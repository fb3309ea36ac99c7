-- The drawing: what every signal is, and what the registers hold, when nothing takes time.
use Rattle.std.specs.Prelude.{◌≡◌, ℕ, zero, suc, ◌+◌, ◌<◌, Bool, length}
use Rattle.circuit.specs.Gate.{output}
use Rattle.circuit.specs.Circuit.{Circuit, gate, signals, Sound, along}

-- what every signal is when nothing takes time and the sources have the bits b
unfoldable pub ideal : Circuit → (ℕ → Bool) → (ℕ → Bool)
ideal c b = along (λ _ g. output g.table) c.inputs c.gates b

-- an assignment agrees with the sources' bits, and every gate's signal is what its table makes of its two inputs' signals
pub record Settled (c : Circuit) (b s : ℕ → Bool) : Type 0 where
  pub sources : (i : ℕ) → i < c.inputs → s i ≡ b i
  pub follows : (k : ℕ) → k < length c.gates → s (c.inputs + k) ≡ output (gate c k).table (s (gate c k).one) (s (gate c k).two)

-- the ideal signals are such an assignment, and the only one
abbrev pub IdealIsSettled : Type 0
IdealIsSettled =
    (c : Circuit) (b : ℕ → Bool) → Sound c →
    Settled c b (ideal c b) × ((s : ℕ → Bool) → Settled c b s → (k : ℕ) → k < signals c → s k ≡ ideal c b k)

-- what the registers hold in cycle n when nothing takes time, from the bits b: each cycle all of them at once take what their signals are
unfoldable pub held : Circuit → (takes : ℕ → ℕ) → (b : ℕ → Bool) → ℕ → (ℕ → Bool)
held c takes b zero = b
held c takes b (suc n) = λ r. ideal c (held c takes b n) (takes r)
