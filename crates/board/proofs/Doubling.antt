-- Registers that all take every second cycle have two periods.
use Rattle.std.proofs.Common.{◌≡◌, ℕ, ◌+◌, ◌*◌, ◌<◌, sym, refl, ◌∙◌, arith}
use Rattle.std.proofs.lemmas.Bool.{true≢false}
use Rattle.circuit.specs.Circuit.{signals}
use Rattle.arrival.specs.declared.edge.Edge.TheVariants.{Late, Early}
use Rattle.arrival.proofs.ArrivalLaws.{shifts, agrees}
use Rattle.promise.specs.Machine as base
use Rattle.promise.specs.Promise.{with_period}
use Rattle.board.specs.declared.mark.Mark.TheVariants.{Odd}
use Rattle.board.specs.Board.{Board, Formed, launch_cycle, since, still_until, last_change, first_change}
use Rattle.board.specs.Marks.{KeptIn, every_second, TwoPeriods}
use Rattle.board.proofs.Keeping.{since_register, until_register, launch_anew, launch_before, until_next}
use Rattle.board.proofs.Capturing.{two_cycles}

module _ (m : base.Machine) (p : ℕ) (formed : base.Formed m) where
  abbrev b : Board
  b = every_second m p

  formed_board : Formed b
  formed_board = record {
    sources = omega (arith, formed.sources);
    sound = formed.sound;
    taken = formed.taken;
    clocked = formed.clocked;
    inputs_ordered = λ i h q. omega arith;
    output_ordered = formed.output_ordered;
  }

  launch_third : (r : ℕ) → launch_cycle b r 3 ≡ 2
  launch_third r = launch_before b r 2 refl ∙ launch_anew b r 1 refl

  last_third : (k : ℕ) → k < signals m.circuit → last_change b 3 k ≡ 2 * p + base.last_change m k
  last_third k h =
      agrees Late m.circuit (since b 3) (λ i. 2 * p + base.since m i) formed.sound
      (λ i q. let r : i < m.registers = omega (arith, formed.sources) in since_register b 3 i r
      ∙ rw (launch_third i)) k h
      ∙ shifts Late m.circuit (base.since m) (2 * p) formed.sound k h

  first_third : (k : ℕ) → k < signals m.circuit → first_change b 3 k ≡ 4 * p + base.first_change m k
  first_third k h =
      agrees Early m.circuit (still_until b 3) (λ i. 4 * p + base.still_for m i) formed.sound
      (λ i q. let r : i < m.registers = omega (arith, formed.sources) in until_register b 3 i r
      ∙ rw (until_next b i 3 refl)) k h
      ∙ shifts Early m.circuit (base.still_for m) (4 * p) formed.sound k h

  third : base.Passed (with_period m (p + p)) → KeptIn b 3
  third passed = record {
    setup_kept = λ r h e. omega (arith, passed.setup_kept r h, last_third (m.takes r) (formed.taken r h));
    hold_kept = λ r h e. omega (arith, passed.hold_kept r h, first_third (m.takes r) (formed.taken r h));
  }

  fourth : KeptIn b 4
  fourth =
      record { setup_kept = λ r h e. absurd (true≢false (sym e)); hold_kept = λ r h e. absurd (true≢false (sym e)) }

pub two_periods : TwoPeriods
two_periods m p formed = (
  λ passed. record {
    formed = record {
      sources = formed.sources;
      sound = formed.sound;
      taken = formed.taken;
      clocked = formed.clocked;
      output_ordered = formed.output_ordered;
    };
    setup_kept =
        λ r h. omega (arith, passed.setup_kept 3 r h refl, last_third m p formed (m.takes r) (formed.taken r h));
    hold_kept =
        λ r h. omega (arith, passed.hold_kept 3 r h refl, first_third m p formed (m.takes r) (formed.taken r h));
  },
  λ passed. two_cycles (every_second m p) (λ r. Odd) (λ r n. refl) (formed_board m p formed) (third m p formed passed)
      (fourth m p formed),
)
