-- Narrower bounds and longer periods.
use Rattle.std.specs.Prelude.{◌≡◌, ℕ, suc, ◌+◌, ◌*◌, ◌<◌, ◌≤◌, Bool, length}
use Rattle.circuit.specs.Circuit.{gate, signals}
use Rattle.board.specs.Board.{Board, Formed}
use Rattle.board.specs.Promise.{Within, with_period}
use Rattle.rise_fall.specs.Gate.{Bounds, GateBounds}
use Rattle.rise_fall.specs.Promise.{stable_in, SetupKept, HoldKept, RiseFallPassed}

-- bounds within others
pub record BoundsWithin (new old : Bounds) : Type 0 where
  pub least_within : (b : Bool) → old.least b ≤ new.least b
  pub greatest_within : (b : Bool) → new.greatest b ≤ old.greatest b

pub record GateBoundsWithin (new old : GateBounds) : Type 0 where
  pub one_within : BoundsWithin new.one old.one
  pub two_within : BoundsWithin new.two old.two

-- a new board with bounds d is an old one with bounds e, all bounds within the old ones and no shorter period; its
-- gates have the old tables, since times go through them
pub record RiseFallWithin (new old : Board) (d e : ℕ → GateBounds) : Type 0 where
  pub board_within : Within new old
  pub tables_same : (k : ℕ) → k < length old.circuit.gates → (gate new.circuit k).table ≡ (gate old.circuit k).table
  pub bounds_within : (k : ℕ) → k < length old.circuit.gates → GateBoundsWithin (d k) (e k)

-- Each setup sum that is right stays so with narrower bounds and a longer period, whatever is so of hold sums and of
-- other registers. Latest times depend on how long inputs are stable, so on their next change: with a longer period
-- that never comes sooner
abbrev pub SetupNarrower : Type 0
SetupNarrower =
    (new old : Board) (d e : ℕ → GateBounds) → RiseFallWithin new old d e → Formed old →
    (n r : ℕ) → r < old.registers → SetupKept old (stable_in old e n) n r → SetupKept new (stable_in new d n) n r

-- and so does each hold sum
abbrev pub HoldNarrower : Type 0
HoldNarrower =
    (new old : Board) (d e : ℕ → GateBounds) → RiseFallWithin new old d e → Formed old →
    (n r : ℕ) → r < old.registers → HoldKept old (stable_in old e n) n r → HoldKept new (stable_in new d n) n r

-- what is passed is so with narrower bounds and a longer period
abbrev pub RiseFallNarrower : Type 0
RiseFallNarrower =
    (new old : Board) (d e : ℕ → GateBounds) → RiseFallWithin new old d e → RiseFallPassed old e → RiseFallPassed new d

-- With a period that is longer by p no latest time grows, counted from the cycle's beginning, and no earliest time
-- falls, counted from its end. So each setup slack grows by p at least. It may grow by more, as an input that is
-- stable for longer may come through by a smaller delay: so a shortest period has to be searched for
abbrev pub TimesSlower : Type 0
TimesSlower =
    (m : Board) (d : ℕ → GateBounds) (p : ℕ) → Formed m → (n k : ℕ) → k < signals m.circuit → (b : Bool) →
    ((stable_in (with_period m (m.period + p)) d n k).from b ≤ n * p + (stable_in m d n k).from b)
    × (suc n * p + (stable_in m d n k).until b ≤ (stable_in (with_period m (m.period + p)) d n k).until b)

-- each setup sum that is right with a period is so with every longer one: the periods that are long enough are all
-- those from a shortest one on
abbrev pub SetupSlower : Type 0
SetupSlower =
    (m : Board) (d : ℕ → GateBounds) (p : ℕ) → Formed m → m.period ≤ p → (n r : ℕ) → r < m.registers →
    SetupKept m (stable_in m d n) n r → SetupKept (with_period m p) (stable_in (with_period m p) d n) n r

-- what is passed is so with every longer period
abbrev pub RiseFallSlower : Type 0
RiseFallSlower =
    (m : Board) (d : ℕ → GateBounds) (p : ℕ) → m.period ≤ p → RiseFallPassed m d → RiseFallPassed (with_period m p) d
