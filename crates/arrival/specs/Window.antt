-- Waves, gates whose delays change from moment to moment, and the window in which a signal is sure.
use Rattle.std.specs.Prelude.{◌≡◌, ℕ, ◌+◌, ◌-◌, ◌<◌, ◌≤◌, Bool, length}
use Rattle.circuit.specs.Gate.{output}
use Rattle.circuit.specs.declared.gate.Gate.{Gate}
use Rattle.circuit.specs.Circuit.{Circuit, gate, signals, Sound}
use Rattle.drawing.specs.Drawing.{ideal}
use Rattle.arrival.specs.Arrival.{latest, earliest}

-- what a signal shows at each moment, from moment 0 on
abbrev pub Wave : Type 0
Wave = ℕ → Bool

-- at moment t a gate's output is what its table makes of its first input some time ago and of its second some other time ago,
-- each time between that input's least and greatest delay
pub record Follows (g : Gate) (one two out : Wave) (t : ℕ) : Type 0 where
  pub delay_one : ℕ
  pub delay_two : ℕ
  pub one_least : g.least_one ≤ delay_one
  pub one_greatest : delay_one ≤ g.greatest_one
  pub two_least : g.least_two ≤ delay_two
  pub two_greatest : delay_two ≤ g.greatest_two
  pub is : out t ≡ output g.table (one (t - delay_one)) (two (t - delay_two))

-- the waves that a circuit can have: every gate follows its inputs at every moment, with delays that may be others at each;
-- at moments before its greatest delays have passed nothing is said of a gate
abbrev pub Moves : Circuit → (ℕ → Wave) → Type 0
Moves c w =
    (k t : ℕ) → k < length c.gates → (gate c k).greatest_one ≤ t → (gate c k).greatest_two ≤ t →
    Follows (gate c k) (w (gate c k).one) (w (gate c k).two) (w (c.inputs + k)) t

-- THE WINDOW LEMMA. If each source i shows the bit b i at all moments from L i until before E i, then every signal shows what it
-- is when nothing takes time, from its latest time over L until before its earliest time over E, whatever the delays do
abbrev pub Window : Type 0
Window =
    (c : Circuit) (w : ℕ → Wave) (b : ℕ → Bool) (L E : ℕ → ℕ) → Sound c → Moves c w →
    ((i t : ℕ) → i < c.inputs → L i ≤ t → t < E i → w i t ≡ b i) →
    (k t : ℕ) → k < signals c → latest c L k ≤ t → t < earliest c E k → w k t ≡ ideal c b k
