-- Gates whose delays differ for an input that rises and one that falls, and how they move.
use Rattle.std.specs.Prelude.{◌≡◌, ℕ, suc, ◌+◌, ◌-◌, ◌<◌, ◌≤◌, ◌⊎◌, Bool, not, cond, length, nat_lt}
use Rattle.circuit.specs.Gate.{output}
use Rattle.circuit.specs.declared.gate.Gate.{Gate}
use Rattle.circuit.specs.Circuit.{Circuit, gate}
use Rattle.arrival.specs.Window.{Wave}

-- The four bounds of an input's delay, in moments: the least and the greatest when it has risen (at `true`), and when
-- it has fallen (at `false`)
pub record Bounds : Type 0 where
  pub least : Bool → ℕ
  pub greatest : Bool → ℕ

-- a gate's bounds at its two inputs
pub record GateBounds : Type 0 where
  pub one : Bounds
  pub two : Bounds

-- A signal's bits counted back from moment t: at 0 that of the moment itself, at d that of d moments before it. `past`
-- has those from before moment 0, counted back from there
unfoldable pub ago : (past x : Wave) (t : ℕ) → ℕ → Bool
ago past x t d = cond (nat_lt t d) (past (d - suc t)) (x (t - d))

-- The last transition before now was to the bit b: for some time up to just before now the signal has been b, and
-- before that it was not. What it is now says nothing: a change at the moment itself is not before it
abbrev pub LastTo : (ℕ → Bool) → Bool → Type 0
LastTo x b = (d : ℕ) × (1 ≤ d) × ((i : ℕ) → 1 ≤ i → i ≤ d → x i ≡ b) × (x (suc d) ≡ not b)

-- there was no transition before now
abbrev pub NeverChanged : (ℕ → Bool) → Type 0
NeverChanged x = (i : ℕ) → 1 ≤ i → x i ≡ x 1

-- What a gate may see of an input: its bit some time ago, by a delay within the bounds of its last transition before
-- now, or within those of either transition where there was none. `transition` is the bit that it was to: `true` for
-- rising
pub record Sees (b : Bounds) (x : ℕ → Bool) (p : Bool) : Type 0 where
  pub delay : ℕ
  pub transition : Bool
  pub changed : LastTo x transition ⊎ NeverChanged x
  pub no_less : b.least transition ≤ delay
  pub no_more : delay ≤ b.greatest transition
  pub is : p ≡ x delay

-- a gate's output is what its table makes of what it sees of its inputs
pub record RiseFallFollows (g : Gate) (d : GateBounds) (one two : ℕ → Bool) (out : Bool) : Type 0 where
  pub bit_one : Bool
  pub bit_two : Bool
  pub sees_one : Sees d.one one bit_one
  pub sees_two : Sees d.two two bit_two
  pub is : out ≡ output g.table bit_one bit_two

-- The waves that a circuit can have whose gates have the bounds d, in place of the two of each input in their records:
-- from moment 0 on every gate follows its inputs at every moment, with delays of that moment. What signals were before
-- moment 0 is free, whatever gates were there: one past for each signal. With two bounds nothing is said of a gate
-- before its greatest delays have passed, and none of its times lies there. Here one may, where a transition's own
-- greatest delay is the smaller one, so something has to be said
abbrev pub RiseFallMoves : Circuit → (ℕ → GateBounds) → (ℕ → Wave) → Type 0
RiseFallMoves c d w =
    (past : ℕ → Wave)
    × ((k t : ℕ) → k < length c.gates →
    RiseFallFollows (gate c k) (d k) (ago (past (gate c k).one) (w (gate c k).one) t)
    (ago (past (gate c k).two) (w (gate c k).two) t) (w (c.inputs + k) t))

-- What a gate may see of an input where a change at the moment itself does count: its bit some time ago, by a delay
-- within the bounds of its last transition up to now
pub record SeesUpTo (b : Bounds) (x : ℕ → Bool) (p : Bool) : Type 0 where
  pub delay : ℕ
  pub transition : Bool
  pub changed : ((d : ℕ) × ((i : ℕ) → i ≤ d → x i ≡ transition) × (x (suc d) ≡ not transition)) ⊎ ((i : ℕ) → x i ≡ x 0)
  pub no_less : b.least transition ≤ delay
  pub no_more : delay ≤ b.greatest transition
  pub is : p ≡ x delay

-- the waves that a circuit can have then
abbrev pub MovesUpTo : Circuit → (ℕ → GateBounds) → (ℕ → Wave) → Type 0
MovesUpTo c d w =
    (past : ℕ → Wave)
    × ((k t : ℕ) → k < length c.gates → (p : Bool) × (q : Bool)
    × SeesUpTo (d k).one (ago (past (gate c k).one) (w (gate c k).one) t) p
    × SeesUpTo (d k).two (ago (past (gate c k).two) (w (gate c k).two) t) q
    × (w (c.inputs + k) t ≡ output (gate c k).table p q))

-- delays for each gate, moment and transition, within the bounds
pub record RiseFallDelays (c : Circuit) (d : ℕ → GateBounds) (one two : (k t : ℕ) → Bool → ℕ) : Type 0 where
  pub one_within : (k t : ℕ) (b : Bool) → k < length c.gates →
      ((d k).one.least b ≤ one k t b) × (one k t b ≤ (d k).one.greatest b)
  pub two_within : (k t : ℕ) (b : Bool) → k < length c.gates →
      ((d k).two.least b ≤ two k t b) × (two k t b ≤ (d k).two.greatest b)

-- Each gate follows its inputs by just these delays, those for the bit that its input had just before: this is the
-- bit to which the last transition before the moment was, if there was one
abbrev pub RiseFallMovesBy : Circuit → (one two : (k t : ℕ) → Bool → ℕ) → (ℕ → Wave) → Type 0
RiseFallMovesBy c one two w =
    (k t : ℕ) → k < length c.gates →
    let a = w (gate c k).one in
    let b = w (gate c k).two in
    w (c.inputs + k) t ≡ output (gate c k).table (a (t - one k t (a (t - 1)))) (b (t - two k t (b (t - 1))))
