-- The run that a machine makes, moment by moment, from what it is told.
use Rattle.std.specs.Prelude.{ℕ, zero, suc, ◌+◌, ◌-◌, ◌<◌, min, Bool, true, false, cond, not, ◌&&◌, ◌==◌, nat_le, nat_lt, Option, Some, None, unwrap_or, is_none}
use Rattle.circuit.specs.Gate.{output}
use Rattle.circuit.specs.Circuit.{Circuit, along}
use Rattle.arrival.specs.Window.{Wave}
use Rattle.promise.specs.Machine.{Machine, Formed}
use Rattle.promise.specs.Run.{Clocks}
use Rattle.promise.specs.Promise.{Delays}

-- what is told: the registers' bits at the start; when the clock comes (cycle, register); each gate's two delays (gate, moment); what a register
-- shows where it may show anything (register, moment), and takes where it may take anything (cycle, register)
pub record Told : Type 0 where
  pub start : ℕ → Bool
  pub clock : ℕ → ℕ → ℕ
  pub one : ℕ → ℕ → ℕ
  pub two : ℕ → ℕ → ℕ
  pub show : ℕ → ℕ → Bool
  pub take : ℕ → ℕ → Bool

-- the waves of a circuit whose delays are given, from those of its sources; moments before the first count as the first
unfoldable pub waves : Circuit → (one two : ℕ → ℕ → ℕ) → (ℕ → Wave) → (ℕ → Wave)
waves c one two s = along (λ n g a b t. output g.table (a (t - one (n - c.inputs) t)) (b (t - two (n - c.inputs) t))) c.inputs c.gates s

abbrev pub agrees : Bool → Bool → Bool
agrees true x = x
agrees false x = not x

-- whether a wave is the bit b at the n moments from a on
unfoldable pub steady : Wave → Bool → ℕ → ℕ → Bool
steady f b a zero = true
steady f b a (suc n) = steady f b a n && agrees b (f (a + n))

-- the bit that a wave is at all moments from a until before e, if it is one
unfoldable pub still : Wave → ℕ → ℕ → Option Bool
still f a e = cond (steady f (f a) a (e - a)) (Some (f a)) None

-- that bit, or else what is told
unfoldable pub settled : Wave → ℕ → ℕ → Bool → Bool
settled f a e told = unwrap_or (still f a e) told

-- a register with its clock at c decides when it must first show its bit, from the moments that have passed by then: from the setup time before the
-- clock up to the hold time after it, as far as they come before the latest output time
abbrev pub first_seen : Machine → ℕ → ℕ
first_seen m c = c - m.setup

abbrev pub end_seen : Machine → ℕ → ℕ
end_seen m c = c + min (suc m.hold) m.output_late

-- the bit of register r in cycle n, if the signals' waves are w
unfoldable pub bits : Machine → Told → (ℕ → Wave) → ℕ → ℕ → Bool
bits m x w zero r = x.start r
bits m x w (suc n) r = settled (w (m.takes r)) (first_seen m (x.clock (suc n) r)) (end_seen m (x.clock (suc n) r)) (x.take (suc n) r)

-- the last cycle whose bit register r must have begun to show before moment t
unfoldable pub cycle : Machine → Told → ℕ → ℕ → ℕ
cycle m x r zero = 0
cycle m x r (suc t) = cond (nat_le (x.clock (suc (cycle m x r t)) r + m.output_late) t) (suc (cycle m x r t)) (cycle m x r t)

-- whether a register must show its bit at moment t of a cycle with its clock at c and the next at d
abbrev pub must_show : Machine → (c d t : ℕ) → Bool
must_show m c d t = nat_le (c + m.output_late) t && nat_lt t (d + m.output_early)

-- what it shows: its bit, or what is told
abbrev pub shown_of : Machine → (c d t : ℕ) (bit told : Bool) → Bool
shown_of m c d t bit told = cond (must_show m c d t) bit told

-- what register r shows at moment t, if the signals' waves before are w
unfoldable pub shows_at : Machine → Told → (ℕ → Wave) → ℕ → ℕ → Bool
shows_at m x w r t =
    shown_of m (x.clock (cycle m x r (suc t)) r) (x.clock (suc (cycle m x r (suc t))) r) t (bits m x w (cycle m x r (suc t)) r) (x.show r t)

-- what registers show at the moments before t
unfoldable pub shown_before : Machine → Told → ℕ → (ℕ → Wave)
shown_before m x zero r u = false
shown_before m x (suc t) r u = cond (u == t) (shows_at m x (waves m.circuit x.one x.two (shown_before m x t)) r t) (shown_before m x t r u)

-- THE SIMULATED RUN: the waves of all signals, and the bits of all registers in each cycle
unfoldable pub run_waves : Machine → Told → (ℕ → Wave)
run_waves m x = waves m.circuit x.one x.two (λ r t. shown_before m x (suc t) r t)

abbrev pub run_bits : Machine → Told → ℕ → ℕ → Bool
run_bits m x = bits m x (run_waves m x)

-- whether register r may show anything at moment t
unfoldable pub shows_anything : Machine → Told → ℕ → ℕ → Bool
shows_anything m x r t = not (must_show m (x.clock (cycle m x r (suc t)) r) (x.clock (suc (cycle m x r (suc t))) r) t)

-- whether register r comes to a cycle at moment t in which it may hold anything: its signal did not keep still over the moments from which it decides
unfoldable pub takes_anything : Machine → Told → ℕ → ℕ → Bool
takes_anything m x r t =
    nat_lt (cycle m x r t) (cycle m x r (suc t))
    && is_none (still (run_waves m x (m.takes r)) (first_seen m (x.clock (cycle m x r (suc t)) r)) (end_seen m (x.clock (cycle m x r (suc t)) r)))

-- what may be told: delays and clocks within bounds, and clocks one after another
pub record MayTell (m : Machine) (x : Told) : Type 0 where
  pub delays : Delays m.circuit x.one x.two
  pub clocks : Clocks m x.clock
  pub in_turn : (n r : ℕ) → r < m.registers → x.clock n r < x.clock (suc n) r

-- a machine that can be simulated: well formed, and some moment passes before a register must show what it took
pub record Runnable (m : Machine) : Type 0 where
  pub formed : Formed m
  pub some_moment : 0 < m.setup + m.output_late
