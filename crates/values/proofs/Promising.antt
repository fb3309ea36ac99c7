-- What passing by values promises.
use Rattle.std.proofs.Common.{◌≡◌, ℕ, zero, suc, ◌+◌, ◌*◌, ◌<◌, ◌≤◌, Bool, true, false, sym, ◌∙◌, arith}
use Rattle.circuit.specs.Circuit.{Circuit, gate, signals, Sound}
use Rattle.circuit.proofs.Signals.{each_signal}
use Rattle.drawing.specs.Drawing.{ideal, held}
use Rattle.drawing.proofs.IdealLaws.{ideal_agrees}
use Rattle.arrival.specs.declared.edge.Edge.TheVariants.{Late, Early}
use Rattle.arrival.specs.Window.{Wave}
use Rattle.arrival.proofs.ArrivalLaws.{shifts}
use Rattle.promise.specs.Machine.{Machine, Formed, drawing, since, still_for, last_change, first_change, HoldKept}
use Rattle.promise.specs.Run.{Run}
use Rattle.values.specs.Settling.{is_controlling_one, is_controlling_two, settled_by, kept_by, settle_time, keep_time, SourcesShow}
use Rattle.values.specs.ByValues.{last_change_by, first_change_by, SetupByValues, PassedByValues, TakesItsSignal, PromiseByValues, InWindowByValues, PassesNoLess, SlowerByValues, PromiseAtBothEnds}
use Rattle.values.proofs.SettlingLaws.{settle_in, settle_at, keep_in, keep_at, settle_no_later, keep_no_earlier, settled_window, window_by_values}

-- a gate's inputs later by a, or by less: its output settled later by a at most
settled_shift : (one two : Bool) (a p q x y d e : ℕ) → x ≤ a + p → y ≤ a + q →
    settled_by one two (x + d) (y + e) d e ≤ a + settled_by one two (p + d) (q + e) d e
settled_shift false false a p q x y d e h l = omega arith
settled_shift true false a p q x y d e h l = omega arith
settled_shift false true a p q x y d e h l = omega arith
settled_shift true true a p q x y d e h l = omega arith

-- and later by just a: its output kept later by a
kept_shift : (one two : Bool) (a p q x y d e : ℕ) → x ≡ a + p → y ≡ a + q →
    kept_by one two (x + d) (y + e) ≡ a + kept_by one two (p + d) (q + e)
kept_shift false false a p q x y d e h l = omega arith
kept_shift true false a p q x y d e h l = omega arith
kept_shift false true a p q x y d e h l = omega arith
kept_shift true true a p q x y d e h l = omega arith

module _ (c : Circuit) (sound : Sound c) (b : ℕ → Bool) (s : ℕ → ℕ) (a : ℕ) where
  -- all sources later by a: every signal settled later by a at most
  shifts_settle : (k : ℕ) → k < signals c → settle_time c b (λ i. a + s i) k ≤ a + settle_time c b s k
  shifts_settle = each_signal c sound (λ k. settle_time c b (λ i. a + s i) k ≤ a + settle_time c b s k)
      (λ i h. omega (arith, settle_in c sound b (λ i. a + s i) i h, settle_in c sound b s i h))
      (λ k h p q.
      let g = gate c k in
      let one : Bool = is_controlling_one g (ideal c b g.one) in
      let two : Bool = is_controlling_two g (ideal c b g.two) in
      rw (settle_at c sound b (λ i. a + s i) k h, settle_at c sound b s k h)
      (settled_shift one two a _ _ _ _ g.greatest_one g.greatest_two p q))

  -- and kept later by a
  shifts_keep : (k : ℕ) → k < signals c → keep_time c b (λ i. a + s i) k ≡ a + keep_time c b s k
  shifts_keep = each_signal c sound (λ k. keep_time c b (λ i. a + s i) k ≡ a + keep_time c b s k)
      (λ i h. omega (arith, keep_in c sound b (λ i. a + s i) i h, keep_in c sound b s i h))
      (λ k h p q.
      let g = gate c k in
      let one : Bool = is_controlling_one g (ideal c b g.one) in
      let two : Bool = is_controlling_two g (ideal c b g.two) in
      rw (keep_at c sound b (λ i. a + s i) k h, keep_at c sound b s k h)
      (kept_shift one two a _ _ _ _ g.least_one g.least_two p q))

-- with the same bits every signal is settled at the same time
same_settle : (c : Circuit) → Sound c → (a b : ℕ → Bool) (s : ℕ → ℕ) → ((i : ℕ) → i < c.inputs → a i ≡ b i) →
    (k : ℕ) → k < signals c → settle_time c a s k ≡ settle_time c b s k
same_settle c sound a b s same = each_signal c sound (λ k. settle_time c a s k ≡ settle_time c b s k)
    (λ i h. settle_in c sound a s i h ∙ sym (settle_in c sound b s i h))
    (λ k h p q.
    let one = ideal_agrees c sound a b same (gate c k).one (omega (arith, sound.before k h)) in
    let two = ideal_agrees c sound a b same (gate c k).two (omega (arith, sound.before k h)) in
    rw (settle_at c sound a s k h, settle_at c sound b s k h, p, q, one, two))

module _ (m : Machine) (formed : Formed m) (start : ℕ → Bool) (clock : ℕ → ℕ → ℕ) (holds : ℕ → ℕ → Bool)
    (w : ℕ → Wave) (run : Run m start clock holds w) where
  -- in every cycle every register shows what it holds, from its latest time until before its earliest in the next cycle
  sources_show : (n : ℕ) →
      SourcesShow m.circuit w (holds n) (λ i. n * m.period + since m i) (λ i. suc n * m.period + still_for m i)
  sources_show n i t h a z =
      let r : i < m.registers = omega (arith, formed.sources) in
      run.shows n i t r (omega (arith, run.clocks n i r)) (omega (arith, run.clocks (suc n) i r))

  -- and every signal is, in its window by values, what it is with what the registers hold in that cycle
  carries : (n k t : ℕ) → k < signals m.circuit → n * m.period + last_change_by m (holds n) k ≤ t →
      t < suc n * m.period + first_change m k → w k t ≡ ideal m.circuit (holds n) k
  carries n k t h a z =
      let later = shifts_settle m.circuit formed.sound (holds n) (since m) (n * m.period) k h in
      let early = shifts Early m.circuit (still_for m) (suc n * m.period) formed.sound k h in
      settled_window m.circuit w (holds n) _ _ formed.sound run.gates (sources_show n) k t h (omega arith) (rw early z)

  -- at both its ends, where it is in order
  carries_on : (n k t : ℕ) → k < signals m.circuit → last_change m k ≤ m.period + first_change m k →
      n * m.period + last_change_by m (holds n) k ≤ t → t < suc n * m.period + first_change_by m (holds n) k →
      w k t ≡ ideal m.circuit (holds n) k
  carries_on n k t h in_order a z =
      let later = shifts_settle m.circuit formed.sound (holds n) (since m) (n * m.period) k h in
      let late = shifts Late m.circuit (since m) (n * m.period) formed.sound k h in
      let early = shifts Early m.circuit (still_for m) (suc n * m.period) formed.sound k h in
      let keep = shifts_keep m.circuit formed.sound (holds n) (still_for m) (suc n * m.period) k h in
      window_by_values m.circuit w (holds n) _ _ formed.sound run.gates (sources_show n) k t h
      (rw (late, early) (omega arith)) (omega arith) (rw keep z)

  pub takes : (r : ℕ) → r < m.registers → SetupByValues m r → HoldKept m r →
      (n : ℕ) → holds (suc n) r ≡ ideal m.circuit (holds n) (m.takes r)
  takes r h setup hold n =
      run.takes n r (ideal m.circuit (holds n) (m.takes r)) h (λ t a z.
      let at_clock = run.clocks (suc n) r h in
      carries n (m.takes r) t (formed.taken r h) (omega (arith, setup (holds n))) (omega (arith, hold)))

  -- if every register takes what its signal is, all hold the drawing's bits
  all_drawn : ((n r : ℕ) → r < m.registers → holds (suc n) r ≡ ideal m.circuit (holds n) (m.takes r)) →
      (n r : ℕ) → r < m.registers → holds n r ≡ drawing m start n r
  unfolding held
  all_drawn taken zero r h = run.starts r h
  all_drawn taken (suc n) r h =
      taken n r h
      ∙ ideal_agrees m.circuit formed.sound (holds n) (drawing m start n)
      (λ i q. all_drawn taken n i (omega (arith, formed.sources))) (m.takes r) (formed.taken r h)

  as_drawn : PassedByValues m → (n r : ℕ) → r < m.registers → holds n r ≡ drawing m start n r
  as_drawn passed = all_drawn (λ n r h. takes r h (passed.setup_kept r h) (passed.hold_kept r h) n)

pub takes_its_signal : TakesItsSignal
takes_its_signal m formed r h setup hold start clock holds w run n =
    takes m formed start clock holds w run r h setup hold n

pub promise_by_values : PromiseByValues
promise_by_values m passed start clock holds w run = as_drawn m passed.formed start clock holds w run passed

pub in_window_by_values : InWindowByValues
in_window_by_values m start clock holds w passed run n k t h a z =
    let f = passed.formed in
    let drawn = as_drawn m f start clock holds w run passed n in
    let same : (i : ℕ) → i < m.circuit.inputs → holds n i ≡ drawing m start n i = λ i q. drawn i (omega (arith, f.sources)) in
    let at_once = same_settle m.circuit f.sound (holds n) (drawing m start n) (since m) same k h in
    carries m f start clock holds w run n k t h (omega arith) z
    ∙ ideal_agrees m.circuit f.sound (holds n) (drawing m start n) same k h

pub promise_at_both_ends : PromiseAtBothEnds
promise_at_both_ends m passed start clock holds w run = all_drawn m f start clock holds w run (λ n r h.
    run.takes n r (ideal m.circuit (holds n) (m.takes r)) h (λ t a z.
    let at_clock = run.clocks (suc n) r h in
    carries_on m f start clock holds w run n (m.takes r) t (f.taken r h) (passed.in_order r h)
    (omega (arith, passed.setup_kept r h (holds n))) (omega (arith, passed.hold_kept r h (holds n)))))
  where
    f : Formed m
    f = passed.formed

pub passes_no_less : PassesNoLess
passes_no_less m passed = (
  record { formed = f; setup_kept = setup; hold_kept = passed.hold_kept },
  record {
    formed = f;
    setup_kept = setup;
    hold_kept = λ r h b.
        omega (arith, passed.hold_kept r h, keep_no_earlier m.circuit f.sound b (still_for m) (m.takes r) (f.taken r h));
    in_order = λ r h. omega (arith, passed.setup_kept r h, passed.hold_kept r h, f.clocked r h);
  },
)
  where
    f : Formed m
    f = passed.formed

    setup : (r : ℕ) → r < m.registers → SetupByValues m r
    setup r h b =
        omega (arith, passed.setup_kept r h, settle_no_later m.circuit f.sound b (since m) (m.takes r) (f.taken r h))

pub slower_by_values : SlowerByValues
slower_by_values m p longer passed =
    let f = passed.formed in
    record {
      formed = record {
        sources = f.sources;
        sound = f.sound;
        taken = f.taken;
        clocked = f.clocked;
        output_ordered = f.output_ordered;
      };
      setup_kept = λ r h b. let kept = passed.setup_kept r h b in omega arith;
      hold_kept = passed.hold_kept;
    }
