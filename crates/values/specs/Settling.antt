-- When a signal is settled, and how long it is kept, if the sources' bits are known: a controlling value at one input
-- of a gate settles the gate's output without the other input, and keeps it.
use Rattle.std.specs.Prelude.{◌≡◌, ℕ, ◌+◌, ◌<◌, ◌≤◌, ◌↔◌, min, max, Bool, true, false, cond, not}
use Rattle.circuit.specs.Gate.{output}
use Rattle.circuit.specs.declared.gate.Gate.{Gate}
use Rattle.circuit.specs.Circuit.{Circuit, signals, Sound, along}
use Rattle.drawing.specs.Drawing.{ideal}
use Rattle.arrival.specs.Arrival.{latest, earliest}
use Rattle.arrival.specs.Window.{Wave, Moves}

-- whether a bit is a controlling value of a gate's first input: with it there, the output is the same for both bits
-- of the second input
abbrev pub is_controlling_one : Gate → Bool → Bool
is_controlling_one g a = cond (output g.table a false) (output g.table a true) (not (output g.table a true))

-- whether a bit is a controlling value of a gate's second input
abbrev pub is_controlling_two : Gate → Bool → Bool
is_controlling_two g b = cond (output g.table false b) (output g.table true b) (not (output g.table true b))

-- a controlling value is just one that leaves the output the same whatever the other input is
abbrev pub ControllingValues : Type 0
ControllingValues =
    (g : Gate) (a : Bool) →
    ((is_controlling_one g a ≡ true) ↔ ((y z : Bool) → output g.table a y ≡ output g.table a z))
    × ((is_controlling_two g a ≡ true) ↔ ((y z : Bool) → output g.table y a ≡ output g.table z a))

-- The time from which on a gate's output is settled. Its inputs are settled and their greatest delays, d and e, have
-- then passed at p and q; one and two say whether they have controlling values. The output is settled from both p and
-- q on; or, where one input has a controlling value, from this input's time on, once the other's greatest delay has
-- passed too, as until then nothing is said of a gate
abbrev pub settled_by : (one two : Bool) → (p q d e : ℕ) → ℕ
settled_by one two p q d e = min (cond one (max p e) (max p q)) (cond two (max d q) (max p q))

-- The time until which a gate's output is kept, if its inputs are kept and their least delays have then passed at p
-- and q: until the earlier of both; or, where one input has a controlling value, until this input's time
abbrev pub kept_by : (one two : Bool) → (p q : ℕ) → ℕ
kept_by one two p q = max (cond one p (min p q)) (cond two q (min p q))

-- the time from which on a gate's output is settled, if its inputs have the bits x and y and are settled from a and b on
abbrev pub gate_settle_time : Gate → (x y : Bool) → (a b : ℕ) → ℕ
gate_settle_time g x y a b =
    settled_by (is_controlling_one g x) (is_controlling_two g y)
    (a + g.greatest_one) (b + g.greatest_two) g.greatest_one g.greatest_two

-- the time until which it is kept, if its inputs have the bits x and y and are kept until a and b
abbrev pub gate_keep_time : Gate → (x y : Bool) → (a b : ℕ) → ℕ
gate_keep_time g x y a b = kept_by (is_controlling_one g x) (is_controlling_two g y) (a + g.least_one) (b + g.least_two)

-- the time from which on each signal is settled, if source i has the bit b i and is settled from s i on
unfoldable pub settle_time : Circuit → (b : ℕ → Bool) → (s : ℕ → ℕ) → (ℕ → ℕ)
settle_time c b s = along (λ _ g. gate_settle_time g (ideal c b g.one) (ideal c b g.two)) c.inputs c.gates s

-- the time until which each signal is kept, if source i has the bit b i and is kept until s i
unfoldable pub keep_time : Circuit → (b : ℕ → Bool) → (s : ℕ → ℕ) → (ℕ → ℕ)
keep_time c b s = along (λ _ g. gate_keep_time g (ideal c b g.one) (ideal c b g.two)) c.inputs c.gates s

-- source i shows the bit b i at all moments from L i until before E i
abbrev pub SourcesShow : Circuit → (ℕ → Wave) → (b : ℕ → Bool) → (L E : ℕ → ℕ) → Type 0
SourcesShow c w b L E = (i t : ℕ) → i < c.inputs → L i ≤ t → t < E i → w i t ≡ b i

-- THE WINDOW BY VALUES AT ITS LATE END. Whatever the delays do, every signal then shows what it is when nothing takes
-- time, from its settle time until before its earliest time
abbrev pub SettledWindow : Type 0
SettledWindow =
    (c : Circuit) (w : ℕ → Wave) (b : ℕ → Bool) (L E : ℕ → ℕ) → Sound c → Moves c w → SourcesShow c w b L E →
    (k t : ℕ) → k < signals c → settle_time c b L k ≤ t → t < earliest c E k → w k t ≡ ideal c b k

-- AND AT ITS EARLY END, from its latest time until before its keep time
abbrev pub KeptWindow : Type 0
KeptWindow =
    (c : Circuit) (w : ℕ → Wave) (b : ℕ → Bool) (L E : ℕ → ℕ) → Sound c → Moves c w → SourcesShow c w b L E →
    (k t : ℕ) → k < signals c → latest c L k ≤ t → t < keep_time c b E k → w k t ≡ ideal c b k

-- so where a signal's latest time is no later than its earliest, it does so from its settle time until before its
-- keep time
abbrev pub WindowByValues : Type 0
WindowByValues =
    (c : Circuit) (w : ℕ → Wave) (b : ℕ → Bool) (L E : ℕ → ℕ) → Sound c → Moves c w → SourcesShow c w b L E →
    (k t : ℕ) → k < signals c → latest c L k ≤ earliest c E k →
    settle_time c b L k ≤ t → t < keep_time c b E k → w k t ≡ ideal c b k

-- neither end is worse than without values
abbrev pub NoNarrower : Type 0
NoNarrower =
    (c : Circuit) (b : ℕ → Bool) (s : ℕ → ℕ) → Sound c → (k : ℕ) → k < signals c →
    (settle_time c b s k ≤ latest c s k) × (earliest c s k ≤ keep_time c b s k)
