-- A machine all of whose registers take in every cycle is the board that it is.
use Rattle.std.proofs.Common.{◌≡◌, ℕ, zero, suc, ◌+◌, ◌*◌, ◌<◌, Bool, false, refl, ◌∙◌, arith}
use Rattle.std.proofs.lemmas.Bool.{true≢false}
use Rattle.circuit.specs.Circuit.{signals}
use Rattle.drawing.specs.Drawing.{held}
use Rattle.drawing.proofs.IdealLaws.{ideal_agrees}
use Rattle.arrival.specs.declared.edge.Edge.TheVariants.{Late, Early}
use Rattle.arrival.proofs.ArrivalLaws.{shifts, agrees}
use Rattle.promise.specs.Machine as base
use Rattle.promise.specs.Promise as base_specs
use Rattle.promise.specs.Run as base_run
use Rattle.board.specs.Board.{Formed, Passed, reference, launch_cycle, last_change, first_change, since, still_until}
use Rattle.board.specs.Run.{Run, Trace}
use Rattle.board.specs.Promise.{board_of, BaseIsBoard}
use Rattle.board.proofs.Keeping.{since_register, until_register, reference_starts, reference_takes, promise_kept}

module _ (m : base.Machine) where
  launch_now : (r n : ℕ) → launch_cycle (board_of m) r n ≡ n
  unfolding launch_cycle
  launch_now r zero = refl
  launch_now r (suc n) = refl

  module _ (formed : base.Formed m) where
    formed_board : Formed (board_of m)
    formed_board = record {
      sources = omega (arith, formed.sources);
      sound = formed.sound;
      taken = formed.taken;
      clocked = formed.clocked;
      inputs_ordered = λ i h q. omega arith;
      output_ordered = formed.output_ordered;
    }

    last_is : (n k : ℕ) → k < signals m.circuit → last_change (board_of m) n k ≡ n * m.period + base.last_change m k
    last_is n k h =
        agrees Late m.circuit (since (board_of m) n) (λ i. n * m.period + base.since m i) formed.sound
        (λ i q. let r : i < m.registers = omega (arith, formed.sources) in since_register (board_of m) n i r
        ∙ rw (launch_now i n)) k h
        ∙ shifts Late m.circuit (base.since m) (n * m.period) formed.sound k h

    first_is : (n k : ℕ) → k < signals m.circuit →
        first_change (board_of m) n k ≡ suc n * m.period + base.first_change m k
    first_is n k h =
        agrees Early m.circuit (still_until (board_of m) n) (λ i. suc n * m.period + base.still_for m i) formed.sound
        (λ i q. let r : i < m.registers = omega (arith, formed.sources) in until_register (board_of m) n i r) k h
        ∙ shifts Early m.circuit (base.still_for m) (suc n * m.period) formed.sound k h

    passes : base.Passed m → Passed (board_of m)
    passes p = record {
      formed = formed_board;
      setup_kept = λ n r h e. omega (arith, p.setup_kept r h, last_is n (m.takes r) (formed.taken r h));
      hold_kept = λ n r h e. omega (arith, p.hold_kept r h, first_is n (m.takes r) (formed.taken r h));
    }

    passed : Passed (board_of m) → base.Passed m
    passed p = record {
      formed = formed;
      setup_kept = λ r h. omega (arith, p.setup_kept 0 r h refl, last_is 0 (m.takes r) (formed.taken r h));
      hold_kept = λ r h. omega (arith, p.hold_kept 0 r h refl, first_is 0 (m.takes r) (formed.taken r h));
    }

    reference_is : (start : ℕ → Bool) (outside : ℕ → ℕ → Bool) (n r : ℕ) → r < m.registers →
        reference (board_of m) start outside n r ≡ base.drawing m start n r
    unfolding held
    reference_is start outside zero r h = reference_starts (board_of m) start outside r h
    reference_is start outside (suc n) r h =
        reference_takes (board_of m) start outside n r h refl
        ∙ ideal_agrees m.circuit formed.sound (reference (board_of m) start outside n) (base.drawing m start n)
        (λ i q. reference_is start outside n i (omega (arith, formed.sources))) (m.takes r) (formed.taken r h)

    module _ (x : Trace) where
      goes : base_run.Run m x.start x.clock x.holds x.waves → Run (board_of m) x
      goes run = record {
        sources = record {
          clocks = run.clocks;
          starts = run.starts;
          comes = λ n i t h q. absurd (omega (arith, formed.sources));
          shows = λ n r t h a z. run.shows n r t h (rw (launch_now r n) at a) z;
          takes = λ n r b h e all. run.takes n r b h all;
          keeps = λ n r h e. absurd (true≢false e);
        };
        gates = run.gates;
      }

      went : Run (board_of m) x → base_run.Run m x.start x.clock x.holds x.waves
      went run = record {
        clocks = run.sources.clocks;
        gates = run.gates;
        starts = run.sources.starts;
        shows = λ n r t h a z. run.sources.shows n r t h (rw (launch_now r n) a) z;
        takes = λ n r b h all. run.sources.takes n r b h refl all;
      }

pub base_is_board : BaseIsBoard
base_is_board m = record {
  formed = formed_board m;
  passed = λ f. (passes m f, passed m f);
  runs = λ f x. (goes m f x, went m f x);
  reference_is = reference_is m;
  windows = λ f n k h. (last_is m f n k h, first_is m f n k h);
}

-- the promise of machines from that of boards
pub base_promise : base_specs.Promise
base_promise m passed start clock holds w run n r h =
    let f = passed.formed in
    let none : ℕ → ℕ → Bool = λ n i. false in
    let x : Trace = record { start = start; outside = none; clock = clock; holds = holds; waves = w } in
    promise_kept (board_of m) (passes m f passed) x (goes m f x run) n r h ∙ reference_is m f start none n r h
