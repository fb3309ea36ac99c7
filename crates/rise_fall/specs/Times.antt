-- Latest and earliest times by transition, and the window in which every signal shows its bit.
use Rattle.std.specs.Prelude.{◌≡◌, ℕ, ◌+◌, ◌-◌, ◌<◌, ◌≤◌, min, max, Bool, true, false, not, ◌&&◌, ◌||◌, cond}
use Rattle.std.specs.Prelude.{nat_le}
use Rattle.circuit.specs.Gate.{output}
use Rattle.circuit.specs.declared.gate.Gate.{Gate}
use Rattle.circuit.specs.Circuit.{Circuit, signals, Sound, along}
use Rattle.drawing.specs.Drawing.{ideal}
use Rattle.arrival.specs.Window.{Wave}
use Rattle.rise_fall.specs.Gate.{Bounds, GateBounds, RiseFallMoves}

-- the least and the greatest of an input's four bounds
abbrev pub shortest : Bounds → ℕ
shortest b = min (b.least true) (b.least false)

abbrev pub longest : Bounds → ℕ
longest b = max (b.greatest true) (b.greatest false)

-- When a signal is stable, for each bit: where it is b when nothing takes time, it shows b from moment `from b` until
-- before moment `until b`. Both are moments of a run, so that one can be compared with the other
pub record Stable : Type 0 where
  pub from : Bool → ℕ
  pub until : Bool → ℕ

-- The delay after which an input's bit a has come through. Once the longest of all delays has passed since a began,
-- every delay reaches back into a, whatever the last transition was. Before that the greatest delay of a transition
-- to a is enough, as long as the last transition was to a: so as long as the input was a just before. That is sure if
-- the input is stable for the longest of all delays. If it is not, it may have changed again meanwhile, and what was
-- before a may come through by a delay of the other transition: then the longest counts. A change at the moment
-- itself is not before it, so a greatest delay of 0 counts as 1 where the other is not 0
unfoldable pub delay_late : Bounds → Stable → Bool → ℕ
delay_late b x a = cond (nat_le (x.from a + longest b) (x.until a)) (min (longest b) (max 1 (b.greatest a))) (longest b)

-- from when on and until when a gate sees an input's bit a. At the end the least of all delays counts, as nothing is
-- said of how often the input changes then, and so of its last transition
unfoldable pub from_by : Bounds → Stable → Bool → ℕ
from_by b x a = x.from a + delay_late b x a

unfoldable pub until_by : Bounds → Stable → Bool → ℕ
until_by b x a = x.until a + shortest b

-- when a gate sees an input, through its delays
abbrev pub delayed : Bounds → Stable → Stable
delayed b x = record { from = from_by b x; until = until_by b x }

abbrev pub equal_bits : Bool → Bool → Bool
equal_bits true b = b
equal_bits false b = not b

-- a table's first input at a can be what makes the output v: for some bit of the second input the output is v, and
-- with the other bit at the first it is not
unfoldable pub makes : (Bool → Bool → Bool) → Bool → Bool → Bool
makes f a v =
    (equal_bits (f a true) v && not (equal_bits (f (not a) true) v))
    || (equal_bits (f a false) v && not (equal_bits (f (not a) false) v))

-- the output is one bit for all inputs
unfoldable pub is_constant : (Bool → Bool → Bool) → Bool
is_constant f =
    equal_bits (f true true) (f true false)
    && (equal_bits (f false true) (f false false) && equal_bits (f true true) (f false true))

-- There is an arc from the first input's bit a to the output's bit v: a can make v, or the output is constant, so
-- that every signal has a time
unfoldable pub has_arc : (Bool → Bool → Bool) → Bool → Bool → Bool
has_arc f a v = makes f a v || is_constant f

-- a table with its inputs exchanged
abbrev pub swapped : (Bool → Bool → Bool) → Bool → Bool → Bool
swapped f x y = f y x

abbrev pub smaller : (Bool → ℕ) → ℕ
smaller f = min (f true) (f false)

abbrev pub larger : (Bool → ℕ) → ℕ
larger f = max (f true) (f false)

-- The smallest and the largest of the four times at a gate's inputs. They stand where there is no arc: each bit of the
-- output has an arc from some bit of some input, and beside its time they change neither the largest nor the smallest
unfoldable pub soonest : Stable → Stable → ℕ
soonest x y = min (smaller x.from) (smaller y.from)

unfoldable pub longest_still : Stable → Stable → ℕ
longest_still x y = max (larger x.until) (larger y.until)

-- when a gate's output is stable, from when it sees its inputs: for each bit from the latest beginning until the
-- earliest end of the arcs to it
unfoldable pub merged : Gate → Stable → Stable → Stable
merged g x y = record {
  from = λ v. max
      (larger (λ a. cond (has_arc (output g.table) a v) (x.from a) (soonest x y)))
      (larger (λ a. cond (has_arc (swapped (output g.table)) a v) (y.from a) (soonest x y)));
  until = λ v. min
      (smaller (λ a. cond (has_arc (output g.table) a v) (x.until a) (longest_still x y)))
      (smaller (λ a. cond (has_arc (swapped (output g.table)) a v) (y.until a) (longest_still x y)));
}

abbrev pub gate_stable : GateBounds → Gate → Stable → Stable → Stable
gate_stable d g x y = merged g (delayed d.one x) (delayed d.two y)

-- when every signal is stable, from when the sources are
unfoldable pub stable : Circuit → (ℕ → GateBounds) → (ℕ → Stable) → (ℕ → Stable)
stable c d s = along (λ n. gate_stable (d (n - c.inputs))) c.inputs c.gates s

-- THE WINDOW LEMMA BY TRANSITION. If each source i shows its bit b i while it is stable, then every signal shows its
-- bit while it is stable, which is what it is when nothing takes time, whatever the delays do
abbrev pub RiseFallWindow : Type 0
RiseFallWindow =
    (c : Circuit) (d : ℕ → GateBounds) (w : ℕ → Wave) (b : ℕ → Bool) (s : ℕ → Stable) → Sound c → RiseFallMoves c d w →
    ((i t : ℕ) → i < c.inputs → (s i).from (b i) ≤ t → t < (s i).until (b i) → w i t ≡ b i) →
    (k t : ℕ) → k < signals c →
    (stable c d s k).from (ideal c b k) ≤ t → t < (stable c d s k).until (ideal c b k) → w k t ≡ ideal c b k
