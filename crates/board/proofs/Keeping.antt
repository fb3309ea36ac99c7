-- The promise, from what every signal shows in its window.
use Rattle.std.proofs.Common.{◌≡◌, ℕ, zero, suc, ◌+◌, ◌*◌, ◌<◌, ◌≤◌, Bool, true, false, sym, ◌∙◌, inl, inr, arith}
use Rattle.std.proofs.lemmas.Bool.{cases_lt, cases_Bool, lt-ltb, le-ltb, cond-true, cond-false}
use Rattle.circuit.specs.Circuit.{signals, Sound}
use Rattle.drawing.specs.Drawing.{ideal}
use Rattle.arrival.specs.Window.{Wave, Moves}
use Rattle.arrival.proofs.WindowLemma.{window}
use Rattle.board.specs.Board.{Board, Passed, reference, launch_cycle, until_cycle, since, still_until, last_change}
use Rattle.board.specs.Board.{first_change}
use Rattle.board.specs.Run.{Clocks, SourcesBehave, Run, Trace}
use Rattle.board.specs.Promise.{Promise, InWindow}

-- what `since` and `still_until` are of a register and of an input
module _ (m : Board) (n i : ℕ) where
  pub since_register : i < m.registers → since m n i ≡ launch_cycle m i n * m.period + (m.late i + m.output_late)
  unfolding since
  since_register h = cond-true _ _ _ (lt-ltb i m.registers h)

  pub since_input : m.registers ≤ i → since m n i ≡ n * m.period + m.input_late i
  unfolding since
  since_input h = cond-false _ _ _ (le-ltb i m.registers h)

  pub until_register : i < m.registers → still_until m n i ≡ until_cycle m i n * m.period + (m.early i + m.output_early)
  unfolding still_until
  until_register h = cond-true _ _ _ (lt-ltb i m.registers h)

  pub until_input : m.registers ≤ i → still_until m n i ≡ suc n * m.period + m.input_early i
  unfolding still_until
  until_input h = cond-false _ _ _ (le-ltb i m.registers h)

-- when a register launches what it holds, and until when it holds it
module _ (m : Board) (r n : ℕ) where
  pub launch_anew : m.takes_at r n ≡ true → launch_cycle m r (suc n) ≡ suc n
  unfolding launch_cycle
  launch_anew e = cond-true _ _ _ e

  pub launch_before : m.takes_at r n ≡ false → launch_cycle m r (suc n) ≡ launch_cycle m r n
  unfolding launch_cycle
  launch_before e = cond-false _ _ _ e

  pub until_next : m.takes_at r n ≡ true → until_cycle m r n ≡ suc n
  until_next e = cond-true _ _ _ e

  pub until_after : m.takes_at r n ≡ false → until_cycle m r n ≡ suc (suc n)
  until_after e = cond-false _ _ _ e

-- the bits of the sources in the reference
module _ (m : Board) (start : ℕ → Bool) (outside : ℕ → ℕ → Bool) where
  pub reference_outside : (n i : ℕ) → m.registers ≤ i → reference m start outside n i ≡ outside n i
  unfolding reference
  reference_outside zero i h = cond-false _ _ _ (le-ltb i m.registers h)
  reference_outside (suc n) i h = cond-false _ _ _ (le-ltb i m.registers h)

  pub reference_starts : (i : ℕ) → i < m.registers → reference m start outside 0 i ≡ start i
  unfolding reference
  reference_starts i h = cond-true _ _ _ (lt-ltb i m.registers h)

  pub reference_takes : (n i : ℕ) → i < m.registers → m.takes_at i n ≡ true →
      reference m start outside (suc n) i ≡ ideal m.circuit (reference m start outside n) (m.takes i)
  unfolding reference
  reference_takes n i h e = cond-true _ _ _ (lt-ltb i m.registers h) ∙ cond-true _ _ _ e

  pub reference_keeps : (n i : ℕ) → i < m.registers → m.takes_at i n ≡ false →
      reference m start outside (suc n) i ≡ reference m start outside n i
  unfolding reference
  reference_keeps n i h e = cond-true _ _ _ (lt-ltb i m.registers h) ∙ cond-false _ _ _ e

-- the sources show the bits b in their windows of cycle n
abbrev pub Show : Board → (ℕ → Wave) → (n : ℕ) → (b : ℕ → Bool) → Type 0
Show m w n b = (i t : ℕ) → i < m.circuit.inputs → since m n i ≤ t → t < still_until m n i → w i t ≡ b i

-- then every signal shows its ideal bit in its window
pub signal_shows : (m : Board) (w : ℕ → Wave) → Sound m.circuit → Moves m.circuit w → (n : ℕ) (b : ℕ → Bool) →
    Show m w n b →
    (k t : ℕ) → k < signals m.circuit → last_change m n k ≤ t → t < first_change m n k → w k t ≡ ideal m.circuit b k
signal_shows m w sound moves n b = window m.circuit w b (since m n) (still_until m n) sound moves

-- what is said of the sources besides what registers take
pub record Shown (m : Board) (x : Trace) : Type 0 where
  pub clocks : Clocks m x.clock
  pub comes : (n i t : ℕ) → m.registers ≤ i → i < m.circuit.inputs →
      n * m.period + m.input_late i ≤ t → t < suc n * m.period + m.input_early i → x.waves i t ≡ x.outside n i
  pub shows : (n r t : ℕ) → r < m.registers →
      x.clock (launch_cycle m r n) r + m.output_late ≤ t → t < x.clock (suc n) r + m.output_early →
      x.waves r t ≡ x.holds n r
  pub keeps : (n r : ℕ) → r < m.registers → m.takes_at r n ≡ false → x.holds (suc n) r ≡ x.holds n r

shown_of : (m : Board) (x : Trace) → SourcesBehave m x → Shown m x
shown_of m x behave =
    record { clocks = behave.clocks; comes = behave.comes; shows = behave.shows; keeps = behave.keeps }

module _ (m : Board) (x : Trace) (shown : Shown m x) where
  -- a register shows what it holds in its window
  register_shows : (n r t : ℕ) → r < m.registers → since m n r ≤ t → t < still_until m n r → x.waves r t ≡ x.holds n r
  register_shows n r t h a z =
      let a' = rw (since_register m n r h) at a in
      let z' = rw (until_register m n r h) at z in
      let now = shown.clocks (launch_cycle m r n) r h in
      elim (cases_Bool (m.takes_at r n)) [
        | inl e ↦
            let z'' = rw (until_next m r n e) at z' in
            shown.shows n r t h (omega arith) (omega (arith, shown.clocks (suc n) r h))
        | inr e ↦
            let z'' = rw (until_after m r n e) at z' in
            shown.shows (suc n) r t h (rw (launch_before m r n e) (omega arith))
            (omega (arith, shown.clocks (suc (suc n)) r h))
            ∙ shown.keeps n r h e
      ]

  -- every source shows the reference's bit in its window, where the registers hold the reference's bits
  pub source_shows : (n : ℕ) → ((r : ℕ) → r < m.registers → x.holds n r ≡ reference m x.start x.outside n r) →
      Show m x.waves n (reference m x.start x.outside n)
  source_shows n same i t h a z = elim (cases_lt i m.registers) [
    | inl q ↦ register_shows n i t q a z ∙ same i q
    | inr q ↦
        shown.comes n i t q h (rw (since_input m n i q) at a) (rw (until_input m n i q) at z)
        ∙ sym (reference_outside m x.start x.outside n i q)
  ]

-- THE PROMISE, once for all kinds of gates: `right` says of the gates that the signal which a register takes shows its
-- ideal bit around its clock, where the sources show the reference's bits
module _ (m : Board) (x : Trace) (behave : SourcesBehave m x)
    (right : (n r t : ℕ) → r < m.registers → m.takes_at r n ≡ true →
    Show m x.waves n (reference m x.start x.outside n) →
    x.clock (suc n) r ≤ t + m.setup → t ≤ x.clock (suc n) r + m.hold →
    x.waves (m.takes r) t ≡ ideal m.circuit (reference m x.start x.outside n) (m.takes r)) where
  pub holds_reference : (n r : ℕ) → r < m.registers → x.holds n r ≡ reference m x.start x.outside n r
  holds_reference zero r h = behave.starts r h ∙ sym (reference_starts m x.start x.outside r h)
  holds_reference (suc n) r h = elim (cases_Bool (m.takes_at r n)) [
    | inl e ↦
        behave.takes n r (reference m x.start x.outside (suc n) r) h e (λ t a z.
        right n r t h e (source_shows m x (shown_of m x behave) n (holds_reference n)) a z
        ∙ sym (reference_takes m x.start x.outside n r h e))
    | inr e ↦ behave.keeps n r h e ∙ holds_reference n r h ∙ sym (reference_keeps m x.start x.outside n r h e)
  ]

  pub shows_reference : (n : ℕ) → Show m x.waves n (reference m x.start x.outside n)
  shows_reference n = source_shows m x (shown_of m x behave) n (holds_reference n)

module _ (m : Board) (x : Trace) (passed : Passed m) (run : Run m x) where
  right : (n r t : ℕ) → r < m.registers → m.takes_at r n ≡ true → Show m x.waves n (reference m x.start x.outside n) →
      x.clock (suc n) r ≤ t + m.setup → t ≤ x.clock (suc n) r + m.hold →
      x.waves (m.takes r) t ≡ ideal m.circuit (reference m x.start x.outside n) (m.takes r)
  right n r t h e show a z =
      let at_clock = run.sources.clocks (suc n) r h in
      signal_shows m x.waves passed.formed.sound run.gates n (reference m x.start x.outside n) show
      (m.takes r) t (passed.formed.taken r h)
      (omega (arith, passed.setup_kept n r h e)) (omega (arith, passed.hold_kept n r h e))

pub promise_kept : Promise
promise_kept m passed x run = holds_reference m x run.sources (right m x passed run)

pub in_window : InWindow
in_window m x passed run n =
    signal_shows m x.waves passed.formed.sound run.gates n (reference m x.start x.outside n)
    (shows_reference m x run.sources (right m x passed run) n)
