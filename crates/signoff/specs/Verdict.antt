-- What is answered of a clocked circuit, over the numbers that are lent.
use Rattle.std.specs.Prelude.{◌≡◌, ℕ, ◌+◌, ◌<◌, ◌⊎◌, List, Some, Ok, Err, Result}
use Rattle.circuit.specs.Lent.{register_count, takes, early, late, period, setup, hold}
use Rattle.circuit.specs.Refused.{AllOrFirst, FirstRefusal}
use Rattle.circuit.specs.Whole.{Whole}
use Rattle.circuit.specs.declared.refusal.Refusal.{Refusal}
use Rattle.arrival.specs.declared.edge.Edge.{Edge}
use Rattle.arrival.specs.declared.edge.Edge.TheVariants.{Late, Early}
use Rattle.path.specs.Path.{PathTold, PathShort}
use Rattle.promise.specs.Machine.{Machine, machine_in, last_change, first_change, SetupKept, HoldKept, Passed}
use Rattle.promise.specs.Promise.{AsDrawn}
use Rattle.signoff.specs.declared.verdict.Verdict.{Verdict}
use Rattle.signoff.specs.declared.verdict.Verdict.TheVariants as verdict

module _ (gates registers times : List ℕ) where
  abbrev machine : Machine
  machine = machine_in gates registers times

  -- r is the first register whose input comes too late
  abbrev pub FirstLate : ℕ → Type 0
  FirstLate r = AllOrFirst (SetupKept machine) (register_count registers) (Some r)

  -- no input comes too late, and r is the first register whose input changes too early
  abbrev pub FirstEarly : ℕ → Type 0
  FirstEarly r = ((q : ℕ) → q < register_count registers → SetupKept machine q) × AllOrFirst (HoldKept machine) (register_count registers) (Some r)

  -- r is the register that is named, of either kind
  abbrev pub Named : Edge → ℕ → Type 0
  Named Late = FirstLate
  Named Early = FirstEarly

  -- the two sums of the first kind: latest time and setup, period and early time; of the second: earliest time, late time and hold
  abbrev pub LateSums : (r arrival limit : ℕ) → Type 0
  LateSums r arrival limit = (arrival ≡ last_change machine (takes registers r) + setup times) × (limit ≡ period times + early registers r)

  abbrev pub EarlySums : (r arrival limit : ℕ) → Type 0
  EarlySums r arrival limit = (arrival ≡ first_change machine (takes registers r)) × (limit ≡ late registers r + hold times)

  -- the sums of either kind, and that they are right at a register
  abbrev pub SumsOf : Edge → (r arrival limit : ℕ) → Type 0
  SumsOf Late = LateSums
  SumsOf Early = EarlySums

  abbrev pub SumsKept : Edge → ℕ → Type 0
  SumsKept Late = SetupKept machine
  SumsKept Early = HoldKept machine

  module _ (before after : List ℕ) where
    -- what a verdict on a whole circuit says, with the lent room before and after: a passed one leaves the room as it was; of one that is not, the room
    -- begins with the first path by which the time of the signal that the named register takes is reached
    abbrev pub Says : Verdict → Type 0
    Says verdict.Passed = Passed machine × AsDrawn machine × (after ≡ before)
    Says (verdict.TooLate x) = FirstLate x.register × LateSums x.register x.arrival x.limit × PathTold Late gates registers times (takes registers x.register) x.path before after
    Says (verdict.TooEarly x) = FirstEarly x.register × EarlySums x.register x.arrival x.limit × PathTold Early gates registers times (takes registers x.register) x.path before after

    -- room that is too short for the path that is to be told
    abbrev pub Short : Refusal → Type 0
    Short e =
        ((r : ℕ) × FirstLate r × PathShort Late gates registers times (takes registers r) before e)
        ⊎ ((r : ℕ) × FirstEarly r × PathShort Early gates registers times (takes registers r) before e)

    -- the answer for all numbers: a verdict if they are a circuit; the first refusal if they are not; or want of room for the path that is to be told
    abbrev pub Answers : Result Verdict Refusal → Type 0
    Answers (Ok v) = Whole gates registers times × Says v
    Answers (Err e) = (FirstRefusal gates registers times e ⊎ (Whole gates registers times × Short e)) × (after ≡ before)

    -- the same of a circuit that was looked at
    abbrev pub Judged : Result Verdict Refusal → Type 0
    Judged (Ok v) = Says v
    Judged (Err e) = Short e × (after ≡ before)
