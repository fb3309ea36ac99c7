-- A register that takes at the end of cycle 0 and of every even cycle, and a run in which it goes wrong.
use Rattle.std.proofs.Common.{◌≡◌, ℕ, zero, suc, ◌+◌, ◌-◌, ◌*◌, ◌%◌, ◌<◌, ◌≤◌, Bool, true, false, ◌&&◌, ltb, refl, sym}
use Rattle.std.proofs.Common.{◌∙◌}
use Rattle.std.proofs.Common.{inl, inr, arith}
use Rattle.std.proofs.lemmas.Bool.{cases_Bool, true≢false, ne_eqb, eqb-true, lt-ltb, le-ltb}
use Rattle.circuit.specs.Gate.{output}
use Rattle.circuit.specs.Circuit.{along, gate}
use Rattle.drawing.specs.Drawing.{ideal}
use Rattle.arrival.specs.declared.edge.Edge.TheVariants.{Late, Early}
use Rattle.arrival.specs.Arrival.{latest, earliest}
use Rattle.arrival.proofs.ArrivalLaws.{arrival_in, arrival_at}
use Rattle.arrival.specs.Window.{Wave, Moves}
use Rattle.board.specs.declared.mark.Mark.TheVariants.{Even}
use Rattle.board.specs.Board.{Board, Formed, Passed, SetupKept, HoldKept, reference, launch_cycle, since, still_until}
use Rattle.board.specs.Run.{Run, Trace}
use Rattle.board.specs.Promise.{with_schedule}
use Rattle.board.specs.Marks.{takes_by, KeptIn}
use Rattle.board.specs.Capture.{late_source, early_source, SetupMet, HoldMet}
use Rattle.board.specs.FirstCycle.{GoesWrong, even_from_zero, FirstCycleMatters}
use Rattle.board.proofs.Keeping.{promise_kept, since_register, until_register, launch_anew, launch_before, until_next}
use Rattle.board.proofs.Comparing.{launch_by_now}
use Rattle.board.proofs.Capturing.{passed_by_capture}

formed : Formed even_from_zero
formed = record {
  sources = omega arith;
  sound = record { before = before; ranges = ranges };
  taken = λ r h. omega arith;
  clocked = λ r h. omega arith;
  inputs_ordered = λ i h q. omega arith;
  output_ordered = omega arith;
}
  where
    before : (k : ℕ) → k < 1 → ((gate even_from_zero.circuit k).one < 1 + k)
        × ((gate even_from_zero.circuit k).two < 1 + k)
    before zero h = (omega arith, omega arith)
    before (suc k) h = absurd (omega arith)

    ranges : (k : ℕ) → k < 1 →
        ((gate even_from_zero.circuit k).least_one ≤ (gate even_from_zero.circuit k).greatest_one)
        × ((gate even_from_zero.circuit k).least_two ≤ (gate even_from_zero.circuit k).greatest_two)
    ranges zero h = (omega arith, omega arith)
    ranges (suc k) h = absurd (omega arith)

-- the register's signal is the gate's, whose times are those of the register and its delay
last : (s : ℕ → ℕ) → latest even_from_zero.circuit s 1 ≡ s 0 + 3
last s = let a = arrival_at Late even_from_zero.circuit formed.sound s 0 (omega arith) in
    omega (arith, arrival_in Late even_from_zero.circuit formed.sound s 0 (omega arith))

first : (s : ℕ → ℕ) → earliest even_from_zero.circuit s 1 ≡ s 0 + 1
first s = let a = arrival_at Early even_from_zero.circuit formed.sound s 0 (omega arith) in
    omega (arith, arrival_in Early even_from_zero.circuit formed.sound s 0 (omega arith))

later_kept : (n : ℕ) → KeptIn even_from_zero (suc n)
later_kept n = record { setup_kept = setup; hold_kept = hold }
  where
    -- where it takes at the end of a cycle it did not at the beginning
    not_before : (n : ℕ) → even_from_zero.takes_at 0 (suc n) ≡ true → even_from_zero.takes_at 0 n ≡ false
    not_before n e = let even = eqb-true (suc n % 2) 0 e in ne_eqb (n % 2) 0 (λ z. omega arith)

    setup : (r : ℕ) → r < 1 → even_from_zero.takes_at r (suc n) ≡ true → SetupKept even_from_zero (suc n) r
    setup zero h e =
        let b = launch_before even_from_zero 0 n (not_before n e) in
        omega (
          arith,
          last (since even_from_zero (suc n)),
          since_register even_from_zero (suc n) 0 h,
          launch_by_now even_from_zero 0 n,
        )
    setup (suc r) h e = absurd (omega arith)

    hold : (r : ℕ) → r < 1 → even_from_zero.takes_at r (suc n) ≡ true → HoldKept even_from_zero (suc n) r
    hold zero h e =
        omega (
          arith,
          first (still_until even_from_zero (suc n)),
          until_register even_from_zero (suc n) 0 h,
          until_next even_from_zero 0 (suc n) e,
        )
    hold (suc r) h e = absurd (omega arith)

abbrev with_mark : Board
with_mark = with_schedule even_from_zero (λ r n. takes_by Even n)

passed_with_mark : Passed with_mark
passed_with_mark = (passed_by_capture with_mark (λ r. Even) (λ r n. refl)).1 (record {
  formed = record {
    sources = formed.sources;
    sound = formed.sound;
    taken = formed.taken;
    clocked = formed.clocked;
    inputs_ordered = formed.inputs_ordered;
    output_ordered = formed.output_ordered;
  };
  setup_met = λ r h. setup r h;
  hold_met = λ r h. hold r h;
})
  where
    setup : (r : ℕ) → r < 1 → SetupMet with_mark (λ r. Even) r
    setup zero h = omega (arith, last (late_source with_mark (λ r. Even) Even))
    setup (suc r) h = absurd (omega arith)

    hold : (r : ℕ) → r < 1 → HoldMet with_mark (λ r. Even) r
    hold zero h = omega (arith, first (early_source with_mark (λ r. Even) Even))
    hold (suc r) h = absurd (omega arith)

-- the register begins with 1, but shows it too late for the clock at the end of cycle 0, so that it takes 0
goes_wrong : GoesWrong even_from_zero
unfolding output ideal along reference launch_cycle
goes_wrong = (trace, run, (1, 0, omega arith, λ e. true≢false (sym e)))
  where
    holds : (n r : ℕ) → Bool
    holds zero r = true
    holds (suc n) r = false

    -- it shows 1 from moment 2 until before moment 5
    shown : ℕ → Bool
    shown t = ltb 1 t && ltb t 5

    waves : ℕ → Wave
    waves zero t = shown t
    waves (suc i) t = output 8 (shown (t - 3)) (shown (t - 3))

    trace : Trace
    trace = record { start = λ r. true; outside = λ n i. false; clock = λ n r. n * 4; holds = holds; waves = waves }

    took : (n : ℕ) → 1 ≤ launch_cycle even_from_zero 0 (suc n)
    took zero = omega arith
    took (suc n) = elim (cases_Bool (even_from_zero.takes_at 0 (suc n))) [
      | inl e ↦ omega (arith, launch_anew even_from_zero 0 (suc n) e)
      | inr e ↦ omega (arith, launch_before even_from_zero 0 (suc n) e, took n)
    ]

    past : (t : ℕ) → 5 ≤ t → shown t ≡ false
    past t h = rw (lt-ltb 1 t (omega arith), le-ltb t 5 h) refl

    shows : (n r t : ℕ) → r < 1 → launch_cycle even_from_zero r n * 4 + 2 ≤ t → t < suc n * 4 + 1 →
        waves r t ≡ holds n r
    shows zero zero t h a z = rw (lt-ltb 1 t (omega arith), lt-ltb t 5 (omega arith)) refl
    shows (suc n) zero t h a z = past t (omega (arith, took n))
    shows n (suc r) t h a z = absurd (omega arith)

    low : (n : ℕ) → waves 1 (suc n * 4) ≡ false
    low zero = refl
    low (suc n) = let p = past (suc (suc n) * 4 - 3) (omega arith) in rw p refl

    run : Run even_from_zero trace
    run = record {
      sources = record {
        clocks = λ n r h. (omega arith, omega arith);
        starts = λ r h. refl;
        comes = λ n i t h q a z. absurd (omega arith);
        shows = shows;
        takes = takes;
        keeps = keeps;
      };
      gates = gates;
    }
      where
        takes : (n r : ℕ) (b : Bool) → r < 1 → even_from_zero.takes_at r n ≡ true →
            ((t : ℕ) → suc n * 4 ≤ t + 0 → t ≤ suc n * 4 + 0 → waves 1 t ≡ b) → holds (suc n) r ≡ b
        takes n r b h e all = sym (low n) ∙ all (suc n * 4) (omega arith) (omega arith)

        keeps : (n r : ℕ) → r < 1 → even_from_zero.takes_at r n ≡ false → holds (suc n) r ≡ holds n r
        keeps zero r h e = absurd (true≢false e)
        keeps (suc n) r h e = refl

        gates : Moves even_from_zero.circuit waves
        gates zero t h a b = record {
          delay_one = 3;
          delay_two = 3;
          one_least = omega arith;
          one_greatest = omega arith;
          two_least = omega arith;
          two_greatest = omega arith;
          is = refl;
        }
        gates (suc k) t h a b = absurd (omega arith)

pub first_cycle_matters : FirstCycleMatters
first_cycle_matters = record {
  later_kept = later_kept;
  not_passed = λ passed. goes_wrong.2.3
      (promise_kept even_from_zero passed goes_wrong.0 goes_wrong.1 goes_wrong.2.0 goes_wrong.2.1 goes_wrong.2.2);
  goes_wrong = goes_wrong;
  passed_with_mark = passed_with_mark;
}
