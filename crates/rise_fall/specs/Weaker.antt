-- Rules for four bounds that look right and are not: each lets pass what goes wrong.
use Rattle.std.specs.Prelude.{◌≡◌, ◌≢◌, ◌==◌, ℕ, zero, suc, ◌+◌, ◌-◌, ◌<◌, ◌≤◌, true, false, not, cond, [], ◌∷◌}
use Rattle.circuit.specs.Circuit.{Circuit, along}
use Rattle.drawing.specs.Drawing.{ideal}
use Rattle.arrival.specs.Window.{Wave}
use Rattle.board.specs.Board.{Board, reference}
use Rattle.board.specs.Run.{Trace}
use Rattle.rise_fall.specs.Gate.{Bounds, GateBounds, RiseFallMoves, MovesUpTo}
use Rattle.rise_fall.specs.Times.{Stable, merged}
use Rattle.rise_fall.specs.Promise.{sources_in, SumsKept, RiseFallRun}

-- one set of bounds at both inputs of a gate
abbrev pub both : Bounds → GateBounds
both b = record { one = b; two = b }

-- When a gate sees an input, by each transition's own bounds alone. This looks right: an input that has risen is seen
-- once the greatest delay of a rising input has passed, and that ends when it has fallen, so not before the least
-- delay of a falling input has passed. It is not right: where the input rises late and falls early, its last
-- transition before a moment may be the fall already, and the delay of a falling input may reach back to before the
-- rise
abbrev pub delayed_by_own_bounds : Bounds → Stable → Stable
delayed_by_own_bounds b x = record { from = λ a. x.from a + b.greatest a; until = λ a. x.until a + b.least (not a) }

-- when every signal would be stable by this rule
unfoldable pub stable_by_own_bounds : Circuit → (ℕ → GateBounds) → (ℕ → Stable) → (ℕ → Stable)
stable_by_own_bounds c d s =
    along (λ n g x y.
    let b = d (n - c.inputs) in
    merged g (delayed_by_own_bounds b.one x) (delayed_by_own_bounds b.two y)) c.inputs c.gates s

-- a board is passed by this rule
abbrev pub PassedByOwnBounds : Board → (ℕ → GateBounds) → Type 0
PassedByOwnBounds m d = SumsKept m (λ n. stable_by_own_bounds m.circuit d (sources_in m n))

-- Two registers and three gates. Register 0 takes the inverse of its own bit, register 1 takes register 0's bit
-- through two buffers. The clock comes to register 0 at the beginning of a cycle and to register 1 after 3 moments,
-- each time exactly, and the period is 9
abbrev pub short_pulse : Board
short_pulse = record {
  registers = 2;
  circuit = record {
    inputs = 2;
    gates =
        record { one = 0; two = 0; table = 1; least_one = 1; greatest_one = 1; least_two = 1; greatest_two = 1 }
        ∷ record { one = 0; two = 0; table = 10; least_one = 2; greatest_one = 10; least_two = 2; greatest_two = 10 }
        ∷ record { one = 3; two = 3; table = 10; least_one = 2; greatest_one = 7; least_two = 2; greatest_two = 7 }
        ∷ [];
  };
  takes = λ r. cond (r == 0) 2 4;
  takes_at = λ r n. true;
  early = λ r. cond (r == 0) 0 3;
  late = λ r. cond (r == 0) 0 3;
  input_early = λ i. 0;
  input_late = λ i. 0;
  period = 9;
  output_early = 0;
  output_late = 0;
  setup = 0;
  hold = 0;
}

-- the inverter's delay is 1, the first buffer's 2 to 10 when its input has risen and 2 to 4 when it has fallen, and the
-- second's 2, and 2 to 7
abbrev pub pulse_bounds : ℕ → GateBounds
pulse_bounds zero = both (record { least = λ b. 1; greatest = λ b. 1 })
pulse_bounds (suc zero) = both (record { least = λ b. 2; greatest = λ b. cond b 10 4 })
pulse_bounds (suc (suc k)) = both (record { least = λ b. 2; greatest = λ b. cond b 2 7 })

-- in some run register r does not hold the reference's bit after some cycle; its gates move as they may whether or
-- not a change at the moment itself counts
abbrev pub GoesWrongAt : Board → (ℕ → GateBounds) → (r : ℕ) → Type 0
GoesWrongAt m d r =
    (x : Trace) × RiseFallRun m d x × MovesUpTo m.circuit d x.waves
    × ((n : ℕ) × (x.holds n r ≢ reference m x.start x.outside n r))

-- By each transition's own bounds alone the board is passed, and register 1 goes wrong. The least delays of each gate
-- are equal here, so it is latest times that fail. Register 0 rises at moment 9 and falls at 18. The first buffer
-- shows the rise from moment 18 on only, and the fall from 20 on. At 21, at its clock, register 1 takes what the
-- second buffer shows: its input has fallen last, so it may show what that was 7 moments ago, which was before the
-- rise
abbrev pub OwnBoundsFail : Type 0
OwnBoundsFail = PassedByOwnBounds short_pulse pulse_bounds × GoesWrongAt short_pulse pulse_bounds 1

-- a buffer alone
abbrev pub buffer : Circuit
buffer = record {
  inputs = 1;
  gates =
      record { one = 0; two = 0; table = 10; least_one = 2; greatest_one = 6; least_two = 2; greatest_two = 6 } ∷ [];
}

abbrev pub slow_fall : GateBounds
slow_fall = both (record { least = λ b. 2; greatest = λ b. cond b 2 6 })

-- an input that is stable from moment 3 until before 4
abbrev pub one_moment : Stable
one_moment = record { from = λ b. 3; until = λ b. 4 }

-- How long the input is stable matters, at one gate already. Here it is 1 at moment 3 only. By own bounds alone the
-- output would be 1 at moment 5: it may be 0
abbrev pub LengthMatters : Type 0
LengthMatters =
    (w : ℕ → Wave) × RiseFallMoves buffer (λ k. slow_fall) w × ((t : ℕ) → 3 ≤ t → t < 4 → w 0 t ≡ true)
    × ((delayed_by_own_bounds slow_fall.one one_moment).from true ≤ 5)
    × (5 < (delayed_by_own_bounds slow_fall.one one_moment).until true)
    × (ideal buffer (λ i. true) 1 ≡ true) × (w 1 5 ≡ false)

abbrev pub zero_rise : GateBounds
zero_rise = both (record { least = λ b. 0; greatest = λ b. cond b 0 5 })

-- A greatest delay of 0 counts as 1. Here the input rises at moment 3 for good. By a greatest delay of 0 the output
-- would be 1 from 3 + 0. At moment 3 it may be 0, as the rise is not before that moment
abbrev pub ZeroIsOne : Type 0
ZeroIsOne =
    (w : ℕ → Wave) × RiseFallMoves buffer (λ k. zero_rise) w × ((t : ℕ) → 3 ≤ t → w 0 t ≡ true)
    × (zero_rise.one.greatest true ≡ 0) × (ideal buffer (λ i. true) 1 ≡ true) × (w 1 3 ≡ false)
