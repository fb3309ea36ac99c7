-- The promise, from what every signal shows in its window.
use Rattle.std.proofs.Common.{◌≡◌, ℕ, zero, suc, ◌+◌, ◌*◌, ◌<◌, ◌≤◌, Bool, ◌∙◌, arith}
use Rattle.circuit.specs.Circuit.{signals, Sound}
use Rattle.drawing.specs.Drawing.{ideal, held}
use Rattle.drawing.proofs.IdealLaws.{ideal_agrees}
use Rattle.arrival.specs.declared.edge.Edge.TheVariants.{Late, Early}
use Rattle.arrival.specs.Window.{Wave, Moves}
use Rattle.arrival.proofs.ArrivalLaws.{shifts}
use Rattle.arrival.proofs.WindowLemma.{window}
use Rattle.promise.specs.Machine.{Machine, Passed, drawing, since, still_for, last_change, first_change}
use Rattle.promise.specs.Run.{Run}
use Rattle.promise.specs.Promise.{Promise, InWindow}

-- in cycle n, sources that show the bits b in their windows make every signal show its ideal bit in its window
abbrev pub Carries : Machine → (ℕ → Wave) → Type 0
Carries m w =
    (n : ℕ) (b : ℕ → Bool) → ((i t : ℕ) → i < m.circuit.inputs → n * m.period + since m i ≤ t → t < suc n * m.period + still_for m i → w i t ≡ b i) →
    (k t : ℕ) → k < signals m.circuit → n * m.period + last_change m k ≤ t → t < suc n * m.period + first_change m k → w k t ≡ ideal m.circuit b k

-- by the window lemma, in the moments of cycle n
pub carries : (m : Machine) (w : ℕ → Wave) → Sound m.circuit → Moves m.circuit w → Carries m w
carries m w sound moves n b shown k t h a z =
    window m.circuit w b (λ i. n * m.period + since m i) (λ i. suc n * m.period + still_for m i) sound moves shown k t h
    (rw (shifts Late m.circuit (since m) (n * m.period) sound k h) a)
    (rw (shifts Early m.circuit (still_for m) (suc n * m.period) sound k h) z)

module _ (m : Machine) (start : ℕ → Bool) (clock : ℕ → ℕ → ℕ) (holds : ℕ → ℕ → Bool) (w : ℕ → Wave) (passed : Passed m) (run : Run m start clock holds w) where
  -- what the registers hold is shown in the sources' windows
  shown : (n i t : ℕ) → i < m.circuit.inputs → n * m.period + since m i ≤ t → t < suc n * m.period + still_for m i → w i t ≡ holds n i
  shown n i t h a z =
      let r : i < m.registers = omega (arith, passed.formed.sources) in
      run.shows n i t r (omega (arith, run.clocks n i r)) (omega (arith, run.clocks (suc n) i r))

  kept : (n r : ℕ) → r < m.registers → holds n r ≡ drawing m start n r
  unfolding held
  kept zero r h = run.starts r h
  kept (suc n) r h =
      run.takes n r (drawing m start (suc n) r) h (λ t a z.
      let at_clock = run.clocks (suc n) r h in
      carries m w passed.formed.sound run.gates n (holds n) (shown n) (m.takes r) t (passed.formed.taken r h) (omega (arith, passed.setup_kept r h)) (omega (arith, passed.hold_kept r h))
      ∙ ideal_agrees m.circuit passed.formed.sound (holds n) (drawing m start n) (λ i q. kept n i (omega (arith, passed.formed.sources))) (m.takes r) (passed.formed.taken r h))

  windowed : (n k t : ℕ) → k < signals m.circuit → n * m.period + last_change m k ≤ t → t < suc n * m.period + first_change m k → w k t ≡ ideal m.circuit (drawing m start n) k
  windowed n k t h a z =
      carries m w passed.formed.sound run.gates n (holds n) (shown n) k t h a z
      ∙ ideal_agrees m.circuit passed.formed.sound (holds n) (drawing m start n) (λ i q. kept n i (omega (arith, passed.formed.sources))) k h

pub promise_kept : Promise
promise_kept m passed start clock holds w run = kept m start clock holds w passed run

pub in_window : InWindow
in_window m start clock holds w passed run = windowed m start clock holds w passed run
