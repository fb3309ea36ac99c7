-- A passed board can go.
use Rattle.std.proofs.Common.{◌≡◌, ℕ, suc, ◌+◌, ◌-◌, ◌<◌, ◌≤◌, Bool, true, false, min, max, length, inl, inr, arith}
use Rattle.std.proofs.Common.{◌*◌, ap, nat_le}
use Rattle.std.proofs.lemmas.Bool.{cond_both, cases_eq}
use Rattle.circuit.proofs.Signals.{all_in, all_at, each_signal}
use Rattle.circuit.specs.Circuit.{Circuit, gate, signals, along}
use Rattle.circuit.specs.Gate.{output}
use Rattle.circuit.specs.declared.gate.Gate.{Gate}
use Rattle.drawing.specs.Drawing.{ideal}
use Rattle.arrival.specs.Window.{Wave}
use Rattle.board.proofs.Going.{no_period, sources, behave}
use Rattle.board.specs.Board.{Board, reference, Formed}
use Rattle.rise_fall.specs.Gate.{Bounds, GateBounds, RiseFallMoves, RiseFallMovesBy}
use Rattle.rise_fall.specs.Paths.{side}
use Rattle.rise_fall.specs.Promise.{sources_in, stable_in, RiseFallPassed, RiseFallCanGo}
use Rattle.rise_fall.specs.Times.{shortest, longest, Stable, delay_late, from_by, until_by, has_arc, gate_stable}
use Rattle.rise_fall.proofs.Keeping.{stable_source, stable_gate, window}
use Rattle.rise_fall.proofs.Seeing.{in_larger, in_smaller, sees_by}
use Rattle.rise_fall.proofs.Times.{late_below, early_above, late_some}

-- with no period no signal is stable until after it was stable from
ordered : (m : Board) (d : ℕ → GateBounds) → Formed m →
    ((k : ℕ) (b : Bool) → k < length m.circuit.gates → ((d k).one.least b ≤ (d k).one.greatest b)
    × ((d k).two.least b ≤ (d k).two.greatest b)) →
    m.period ≡ 0 → (n k : ℕ) → k < signals m.circuit → (v : Bool) →
    (stable_in m d n k).until v ≤ (stable_in m d n k).from v
ordered m d formed ranges none n =
    each_signal m.circuit formed.sound (λ k. (v : Bool) → (stable_in m d n k).until v ≤ (stable_in m d n k).from v)
    (λ i h v. rw (stable_source m.circuit d formed.sound
    (sources_in m n) i h) (no_period m formed none n i h))
    (λ k h p q v. rw (stable_gate m.circuit d formed.sound
    (sources_in m n) k h)
    (gate_ordered (gate m.circuit k) (d k) _ _ v (λ b. ranges k b h) p q))
  where
    through_ordered : (b : Bounds) (X : Stable) → ((v : Bool) → b.least v ≤ b.greatest v) →
        ((v : Bool) → X.until v ≤ X.from v) → (a : Bool) → until_by b X a ≤ from_by b X a
    through_ordered b X range order a = unfold until_by from_by delay_late in
        cond_both (nat_le (X.from a + longest b) (X.until a)) (min (longest b) (max 1 (b.greatest a))) (longest b)
        (λ z. X.until a + shortest b ≤ X.from a + z)
        (λ _. omega (arith, order a, range true, range false, in_larger b.greatest a, in_smaller b.least a, range a))
        (λ _. omega (arith, order a, range true, range false))

    gate_ordered : (g : Gate) (d : GateBounds) (X Y : Stable) (v : Bool) →
        ((b : Bool) → (d.one.least b ≤ d.one.greatest b) × (d.two.least b ≤ d.two.greatest b)) →
        ((v : Bool) → X.until v ≤ X.from v) → ((v : Bool) → Y.until v ≤ Y.from v) →
        (gate_stable d g X Y).until v ≤ (gate_stable d g X Y).from v
    gate_ordered g d X Y v ranges p q =
        by (late_some g d X Y v).0 (late_some g d X Y v).1 (late_some g d X Y v).2
      where
        by : (second a : Bool) → has_arc (side second g) a v ≡ true →
            (gate_stable d g X Y).until v ≤ (gate_stable d g X Y).from v
        by true a r = omega (
          arith,
          early_above g d X Y v true a r,
          late_below g d X Y v true a r,
          through_ordered d.two Y (λ b. (ranges b).1) q a,
        )
        by false a r = omega (
          arith,
          early_above g d X Y v false a r,
          late_below g d X Y v false a r,
          through_ordered d.one X (λ b. (ranges b).0) p a,
        )

positive : (m : Board) (d : ℕ → GateBounds) → RiseFallPassed m d →
    ((k : ℕ) (b : Bool) → k < length m.circuit.gates → ((d k).one.least b ≤ (d k).one.greatest b)
    × ((d k).two.least b ≤ (d k).two.greatest b)) →
    (r n : ℕ) → r < m.registers → m.takes_at r n ≡ true → 1 ≤ m.period
positive m d passed ranges r n h e = elim (cases_eq m.period 0) [
  | inr some ↦ omega arith
  | inl none ↦
      let a = ap (λ (p : ℕ). suc n * p) none in
      absurd (omega (
        arith,
        passed.setup_kept n r h e true,
        passed.hold_kept n r h e true,
        ordered m d passed.formed ranges none n (m.takes r) (passed.formed.taken r h) true,
        passed.formed.clocked r h,
      ))
]

-- waves by delays of the transition that an input had just before
by_transitions : Circuit → (one two : (k t : ℕ) → Bool → ℕ) → ℕ → Gate → Wave → Wave → Wave
by_transitions c one two n g a b t =
    output g.table (a (t - one (n - c.inputs) t (a (t - 1)))) (b (t - two (n - c.inputs) t (b (t - 1))))

pub can_go : RiseFallCanGo
unfolding by_transitions
can_go m d start outside clock one two passed within clocks order =
    let c = m.circuit in
    let f = passed.formed in
    let ranges = λ (k : ℕ) (b : Bool) (h : k < length m.circuit.gates). let o = within.one_within k 0 b h in
    let t = within.two_within k 0 b h in ranged (d k) b (one k 0 b) (two k 0 b) o t in
    let pos = positive m d passed ranges in
    let s = sources m start outside clock f pos clocks order in
    let w : ℕ → Wave = along (by_transitions c one two) c.inputs c.gates s in
    let by : RiseFallMovesBy c one two w = λ k t h.
    let n : c.inputs + k - c.inputs ≡ k = omega arith in
    rw n at (ap (λ (x : Wave). x t) (all_at (by_transitions c one two) c f.sound s k h)) in
    let moves : RiseFallMoves c d w = (
      λ x i. w x 0,
      λ k t h. record {
        bit_one = w (gate c k).one (t - one k t (w (gate c k).one (t - 1)));
        bit_two = w (gate c k).two (t - two k t (w (gate c k).two (t - 1)));
        sees_one = let o = within.one_within k t (w (gate c k).one (t - 1)) h in
            sees_by (d k).one (w (gate c k).one) t _ o.0 o.1;
        sees_two = let o = within.two_within k t (w (gate c k).two (t - 1)) h in
            sees_by (d k).two (w (gate c k).two) t _ o.0 o.1;
        is = by k t h;
      },
    ) in (
      reference m start outside,
      w,
      record {
        sources = behave m start outside clock f pos clocks order w
            (λ i t h. ap (λ (x : Wave). x t) (all_in (by_transitions c one two) c f.sound s i h)) (λ n r h e shown.
            let at_clock = clocks (suc n) r h in
            let v = ideal m.circuit (reference m start outside n) (m.takes r) in
            window c d w (reference m start outside n)
            (sources_in m n) f.sound moves shown
            (m.takes r) (clock (suc n) r) (f.taken r h)
            (omega (arith, passed.setup_kept n r h e v)) (omega (arith, passed.hold_kept n r h e v)));
        gates = moves;
      },
      by,
    )
  where
    ranged : (d : GateBounds) (b : Bool) (x y : ℕ) → (d.one.least b ≤ x) × (x ≤ d.one.greatest b) → (d.two.least b ≤ y)
        × (y ≤ d.two.greatest b) → (d.one.least b ≤ d.one.greatest b) × (d.two.least b ≤ d.two.greatest b)
    ranged d b x y o t = (omega (arith, o.0, o.1), omega (arith, t.0, t.1))
