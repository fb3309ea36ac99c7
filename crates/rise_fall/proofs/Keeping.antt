-- Windows with delays by transition.
use Rattle.std.proofs.Common.{◌≡◌, ℕ, suc, ◌+◌, ◌-◌, ◌<◌, ◌≤◌, Bool, true, false, not, ◌&&◌, cond, min, max, leb}
use Rattle.std.proofs.Common.{length, sym, refl, ap₂, ◌∙◌, inl, inr, arith}
use Rattle.std.proofs.lemmas.Bool.{cases_Bool, cond-true, cond_both, and_cases, or_parts, or_left, not-false}
use Rattle.std.proofs.lemmas.Bool.{both_ways}
use Rattle.circuit.proofs.Signals.{all_in, all_at, each_signal}
use Rattle.circuit.specs.Circuit.{Circuit, gate, signals, Sound}
use Rattle.circuit.specs.Gate.{output}
use Rattle.circuit.specs.declared.gate.Gate.{Gate}
use Rattle.drawing.proofs.IdealLaws.{ideal_in, ideal_at}
use Rattle.drawing.specs.Drawing.{ideal}
use Rattle.arrival.proofs.ArrivalLaws.{arrival_in, arrival_at}
use Rattle.arrival.specs.Arrival.{latest, earliest}
use Rattle.arrival.specs.Window.{Wave}
use Rattle.arrival.specs.declared.edge.Edge.TheVariants.{Late, Early}
use Rattle.board.proofs.Going.{sources}
use Rattle.board.proofs.Keeping.{Show, holds_reference, shows_reference}
use Rattle.board.specs.Board.{Board, reference, since, still_until}
use Rattle.board.specs.Run.{Trace, SourcesBehave}
use Rattle.rise_fall.specs.Gate.{Bounds, GateBounds}
use Rattle.rise_fall.specs.Promise.{sources_in, stable_in, RiseFallPassed, RiseFallPromise, EitherReading}
use Rattle.rise_fall.specs.Promise.{RiseFallInWindow}
use Rattle.rise_fall.specs.Times.{longest, Stable, delay_late, from_by, until_by, delayed, equal_bits, makes}
use Rattle.rise_fall.specs.Times.{is_constant, has_arc, swapped, soonest, longest_still, merged, gate_stable, stable}
use Rattle.rise_fall.specs.Times.{RiseFallWindow}
use Rattle.rise_fall.specs.Widest.{BoundsInGate, MovesWithin, NoWorseThanWidest, WidestPass}
use Rattle.rise_fall.proofs.Merging.{merged_between}
use Rattle.rise_fall.proofs.Seeing.{in_larger, in_smaller, either_bit, ago_is, RightAt, SeesRight, moves_right}
use Rattle.rise_fall.proofs.Seeing.{up_to_right}

equal_if : (x v : Bool) → x ≡ v → equal_bits x v ≡ true
equal_if true true e = refl
equal_if true false e = sym e
equal_if false true e = e
equal_if false false e = refl

equal_only_if : (x v : Bool) → equal_bits x v ≡ true → x ≡ v
equal_only_if true true e = refl
equal_only_if true false e = sym e
equal_only_if false true e = e
equal_only_if false false e = refl

-- where a is not what makes the output v, it is v with the other bit too
no_part : (x y v : Bool) → (equal_bits x v && not (equal_bits y v)) ≡ false → x ≡ v → y ≡ v
no_part x y v e is = elim (and_cases (equal_bits x v) (not (equal_bits y v)) e) [
  | inl q ↦ absurd (both_ways (equal_bits x v) q (equal_if x v is))
  | inr q ↦ equal_only_if y v (not-false (equal_bits y v) q)
]

does_not_make : (f : Bool → Bool → Bool) (a v y : Bool) → makes f a v ≡ false → f a y ≡ v → f (not a) y ≡ v
unfolding makes
does_not_make f a v true e is = no_part (f a true) (f (not a) true) v (or_parts _ _ e).0 is
does_not_make f a v false e is = no_part (f a false) (f (not a) false) v (or_parts _ _ e).1 is

-- a bit that is right wherever it has an arc gives the output that the right one gives
serves : (f : Bool → Bool → Bool) (a v p y : Bool) → (has_arc f a v ≡ true → p ≡ a) → f a y ≡ v → f p y ≡ v
unfolding has_arc
serves f a v p y seen is = elim (either_bit p a) [
  | inl q ↦ rw q is
  | inr q ↦ elim (cases_Bool (makes f a v)) [
    | inl e ↦ rw (seen (or_left (makes f a v) (is_constant f) e)) is
    | inr e ↦ rw q (does_not_make f a v y e is)
  ]
]

-- what stands where there is no arc, of a gate whose inputs are seen through their delays
abbrev pub soonest_at : GateBounds → Stable → Stable → ℕ
soonest_at d x y = soonest (delayed d.one x) (delayed d.two y)

abbrev pub longest_still_at : GateBounds → Stable → Stable → ℕ
longest_still_at d x y = longest_still (delayed d.one x) (delayed d.two y)

-- one gate: the output is what the table makes of the inputs' bits a and b
gate_right : (g : Gate) (d : GateBounds) (X Y : Stable) (x y : Wave) (a b : Bool) (t : ℕ) (p q : Bool) →
    ((u : ℕ) → X.from a ≤ u → u < X.until a → x u ≡ a) → ((u : ℕ) → Y.from b ≤ u → u < Y.until b → y u ≡ b) →
    RightAt d.one x t p → RightAt d.two y t q →
    (gate_stable d g X Y).from (output g.table a b) ≤ t → t < (gate_stable d g X Y).until (output g.table a b) →
    output g.table p q ≡ output g.table a b
unfolding merged
gate_right g d X Y x y a b t p q shown_x shown_y right_x right_y start stop =
    let f = output g.table in
    let v = f a b in
    let top = longest_still_at d X Y in
    let bot = soonest_at d X Y in
    let one : has_arc f a v ≡ true → p ≡ a = λ r.
    let l = in_larger (λ z. cond (has_arc f z v) (from_by d.one X z) bot) a in
    let m = in_smaller (λ z. cond (has_arc f z v) (until_by d.one X z) top) a in
    right_x a X shown_x
    (omega (arith, cond-true (has_arc f a v) (from_by d.one X a) bot r))
    (omega (arith, cond-true (has_arc f a v) (until_by d.one X a) top r)) in
    let two : has_arc (swapped f) b v ≡ true → q ≡ b = λ r.
    let l = in_larger (λ z. cond (has_arc (swapped f) z v) (from_by d.two Y z) bot) b in
    let m = in_smaller (λ z. cond (has_arc (swapped f) z v) (until_by d.two Y z) top) b in
    right_y b Y shown_y
    (omega (arith, cond-true (has_arc (swapped f) b v) (from_by d.two Y b) bot r))
    (omega (arith, cond-true (has_arc (swapped f) b v) (until_by d.two Y b) top r)) in
    serves (swapped f) b v q p two (serves f a v p b one refl)

-- the two equations
module _ (c : Circuit) (d : ℕ → GateBounds) (sound : Sound c) (s : ℕ → Stable) where
  pub stable_source : (i : ℕ) → i < c.inputs → stable c d s i ≡ s i
  unfolding stable
  stable_source i h = all_in (λ n. gate_stable (d (n - c.inputs))) c sound s i h

  pub stable_gate : (k : ℕ) → k < length c.gates →
      stable c d s (c.inputs + k) ≡ gate_stable (d k) (gate c k) (stable c d s (gate c k).one)
      (stable c d s (gate c k).two)
  unfolding stable
  stable_gate k h = let n : c.inputs + k - c.inputs ≡ k = omega arith in
      rw n at (all_at (λ n. gate_stable (d (n - c.inputs))) c sound s k h)

-- the window lemma, from what gates see
window_right : (c : Circuit) (d : ℕ → GateBounds) (w : ℕ → Wave) (b : ℕ → Bool) (s : ℕ → Stable) → Sound c →
    SeesRight c d w → ((i t : ℕ) → i < c.inputs → (s i).from (b i) ≤ t → t < (s i).until (b i) → w i t ≡ b i) →
    (k t : ℕ) → k < signals c →
    (stable c d s k).from (ideal c b k) ≤ t → t < (stable c d s k).until (ideal c b k) → w k t ≡ ideal c b k
window_right c d w b s sound right shown k t h a z = all_along k h t a z
  where
    all_along : (k : ℕ) → k < signals c → (t : ℕ) → (stable c d s k).from (ideal c b k) ≤ t →
        t < (stable c d s k).until (ideal c b k) → w k t ≡ ideal c b k
    all_along = each_signal c sound
        (λ k. (t : ℕ) → (stable c d s k).from (ideal c b k) ≤ t → t < (stable c d s k).until (ideal c b k) →
        w k t ≡ ideal c b k)
        (λ i h t a z.
        let is = ideal_in c sound b i h in
        rw is (shown i t h (rw (stable_source c d sound s i h, is) at a) (rw (stable_source c d sound s i h, is) at z)))
        (λ k h p q t a z.
        let is = ideal_at c sound b k h in
        let g = gate c k in
        let f = right k t h in
        f.4
        ∙ gate_right g (d k) (stable c d s g.one) (stable c d s g.two) (w g.one) (w g.two)
        (ideal c b g.one) (ideal c b g.two) t f.0 f.1 p q f.2 f.3
        (rw (stable_gate c d sound s k h, is) at a) (rw (stable_gate c d sound s k h, is) at z)
        ∙ sym is)

pub window : RiseFallWindow
window c d w b s sound moves = window_right c d w b s sound (moves_right c d w moves)

-- an input is seen no later, and for no less, than by two bounds that its four lie within
pub seen_from : (b : Bounds) (T : Stable) (a : Bool) (l m : ℕ) → ((v : Bool) → b.greatest v ≤ m) → T.from a ≤ l →
    from_by b T a ≤ l + m
unfolding from_by delay_late
seen_from b T a l m most ls = cond_both (leb (T.from a + longest b) (T.until a))
    (min (longest b) (max 1 (b.greatest a))) (longest b) (λ z. T.from a + z ≤ l + m)
    (λ _. omega (arith, most true, most false)) (λ _. omega (arith, most true, most false))

pub seen_until : (b : Bounds) (T : Stable) (a : Bool) (l m : ℕ) → ((v : Bool) → m ≤ b.least v) → l ≤ T.until a →
    l + m ≤ until_by b T a
unfolding until_by
seen_until b T a l m most ls = omega (arith, most true, most false)

gate_better : (g : Gate) (d : GateBounds) (X Y : Stable) (v : Bool) (l m p q : ℕ) → BoundsInGate d g →
    ((b : Bool) → (X.from b ≤ l) × (p ≤ X.until b)) → ((b : Bool) → (Y.from b ≤ m) × (q ≤ Y.until b)) →
    ((gate_stable d g X Y).from v ≤ max (l + g.greatest_one) (m + g.greatest_two))
    × (min (p + g.least_one) (q + g.least_two) ≤ (gate_stable d g X Y).until v)
gate_better g d X Y v l m p q within xs ys =
    let wide = max (l + g.greatest_one) (m + g.greatest_two) in
    let low = min (p + g.least_one) (q + g.least_two) in
    merged_between g (delayed d.one X) (delayed d.two Y) wide low
    (λ a. let i = within.one_within in (
      omega (arith, seen_from d.one X a l g.greatest_one (λ b. (i b).1) (xs a).0),
      omega (arith, seen_until d.one X a p g.least_one (λ b. (i b).0) (xs a).1),
    ))
    (λ a. let i = within.two_within in (
      omega (arith, seen_from d.two Y a m g.greatest_two (λ b. (i b).1) (ys a).0),
      omega (arith, seen_until d.two Y a q g.least_two (λ b. (i b).0) (ys a).1),
    )) v

pub no_worse_than_widest : NoWorseThanWidest
no_worse_than_widest c d sound within L E s sources = each_signal c sound
    (λ k. (b : Bool) → ((stable c d s k).from b ≤ latest c L k) × (earliest c E k ≤ (stable c d s k).until b))
    (λ i h b. rw (stable_source c d sound s i h, arrival_in Late c sound L i h, arrival_in Early c sound E i h)
    (sources i h b))
    (λ k h p q b. rw (stable_gate c d sound s k h, arrival_at Late c sound L k h, arrival_at Early c sound E k h)
    (gate_better (gate c k) (d k) _ _ b _ _ _ _ (within k h) p q))

-- what a gate sees is what its input was some time ago within its two bounds
pub moves_within : MovesWithin
moves_within c d w within moves k t h a z =
    let f = moves.1 k t h in
    let i = within k h in
    record {
      delay_one = f.sees_one.delay;
      delay_two = f.sees_two.delay;
      one_least = omega (arith, f.sees_one.no_less, (i.one_within f.sees_one.transition).0);
      one_greatest = omega (arith, f.sees_one.no_more, (i.one_within f.sees_one.transition).1);
      two_least = omega (arith, f.sees_two.no_less, (i.two_within f.sees_two.transition).0);
      two_greatest = omega (arith, f.sees_two.no_more, (i.two_within f.sees_two.transition).1);
      is = f.is ∙ ap₂ (output (gate c k).table)
          (f.sees_one.is ∙ ago_is _ _ t f.sees_one.delay
          (omega (arith, f.sees_one.no_more, (i.one_within f.sees_one.transition).1)))
          (f.sees_two.is ∙ ago_is _ _ t f.sees_two.delay
          (omega (arith, f.sees_two.no_more, (i.two_within f.sees_two.transition).1)));
    }

-- sources that show the bits b in their windows of cycle n make every signal show its ideal bit while it is stable
signal_shows : (m : Board) (d : ℕ → GateBounds) (w : ℕ → Wave) → Sound m.circuit → SeesRight m.circuit d w →
    (n : ℕ) (b : ℕ → Bool) → Show m w n b → (k t : ℕ) → k < signals m.circuit →
    (stable_in m d n k).from (ideal m.circuit b k) ≤ t → t < (stable_in m d n k).until (ideal m.circuit b k) →
    w k t ≡ ideal m.circuit b k
signal_shows m d w sound right n b show = window_right m.circuit d w b (sources_in m n) sound right show

module _ (m : Board) (d : ℕ → GateBounds) (x : Trace) (passed : RiseFallPassed m d) (sources : SourcesBehave m x)
    (sees : SeesRight m.circuit d x.waves) where
  right : (n r t : ℕ) → r < m.registers → m.takes_at r n ≡ true → Show m x.waves n (reference m x.start x.outside n) →
      x.clock (suc n) r ≤ t + m.setup → t ≤ x.clock (suc n) r + m.hold →
      x.waves (m.takes r) t ≡ ideal m.circuit (reference m x.start x.outside n) (m.takes r)
  right n r t h e show a z =
      let at_clock = sources.clocks (suc n) r h in
      let v = ideal m.circuit (reference m x.start x.outside n) (m.takes r) in
      signal_shows m d x.waves passed.formed.sound sees n (reference m x.start x.outside n) show
      (m.takes r) t (passed.formed.taken r h)
      (omega (arith, passed.setup_kept n r h e v)) (omega (arith, passed.hold_kept n r h e v))

  holds_right : (n r : ℕ) → r < m.registers → x.holds n r ≡ reference m x.start x.outside n r
  holds_right = holds_reference m x sources right

  signals_right : (n k t : ℕ) → k < signals m.circuit →
      (stable_in m d n k).from (ideal m.circuit (reference m x.start x.outside n) k) ≤ t →
      t < (stable_in m d n k).until (ideal m.circuit (reference m x.start x.outside n) k) →
      x.waves k t ≡ ideal m.circuit (reference m x.start x.outside n) k
  signals_right n = signal_shows m d x.waves passed.formed.sound sees n (reference m x.start x.outside n)
      (shows_reference m x sources right n)

pub promise_kept : RiseFallPromise
promise_kept m d passed x run =
    holds_right m d x passed run.sources (moves_right m.circuit d x.waves run.gates)

pub in_window : RiseFallInWindow
in_window m d passed x run =
    signals_right m d x passed run.sources (moves_right m.circuit d x.waves run.gates)

pub either_reading : EitherReading
either_reading m d passed x sources moves =
    holds_right m d x passed sources (up_to_right m.circuit d x.waves moves)

pub widest_pass : WidestPass
widest_pass m d within passed = record {
  formed = passed.formed;
  setup_kept =
      λ n r h t b. omega (arith, passed.setup_kept n r h t, (better n (m.takes r) (passed.formed.taken r h) b).0);
  hold_kept =
      λ n r h t b. omega (arith, passed.hold_kept n r h t, (better n (m.takes r) (passed.formed.taken r h) b).1);
}
  where
    better : (n k : ℕ) → k < signals m.circuit → (b : Bool) →
        ((stable_in m d n k).from b ≤ latest m.circuit (since m n) k)
        × (earliest m.circuit (still_until m n) k ≤ (stable_in m d n k).until b)
    better n k h b = no_worse_than_widest m.circuit d passed.formed.sound within (since m n) (still_until m n)
        (sources_in m n)
        (λ i q v. (omega arith, omega arith)) k h b
