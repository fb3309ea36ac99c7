-- A script to which a statement is added.
use Rattle.std.specs.Prelude.{◌≡◌, Bool, List, [], None, ◌≢◌}
use Rattle.script.specs.declared.entry.Entry.{Entry}
use Rattle.script.specs.declared.kind.Kind.{Kind}
use Rattle.script.specs.declared.kind.Kind.TheVariants.{Clock, Take, Delay, Show}
use Rattle.script.specs.declared.script.Script.{Script}
use Rattle.script.specs.Entries.{Added}

-- the statements of a kind
abbrev pub entries : Script → Kind → List Entry
entries s Clock = s.clocks
entries s Take = s.takes
entries s Delay = s.delays
entries s Show = s.shows

-- nothing is told
pub record Empty (s : Script) : Type 0 where
  pub cycles_none : s.cycles ≡ 0
  pub start_none : s.start ≡ None
  pub seed_none : s.seed ≡ None
  pub entries_none : (k : Kind) → entries s k ≡ []

-- what is told besides statements is the same
pub record SameHead (s s' : Script) : Type 0 where
  pub cycles_same : s'.cycles ≡ s.cycles
  pub start_same : s'.start ≡ s.start
  pub seed_same : s'.seed ≡ s.seed

-- the statements of the other kinds are the same
abbrev pub OthersSame : Kind → (s s' : Script) → Type 0
OthersSame k s s' = (other : Kind) → other ≢ k → entries s' other ≡ entries s other

-- a statement was added to those of its kind, or would stand out of order among them; all else is as it was
pub record PushAnswer (k : Kind) (e : Entry) (s s' : Script) (added : Bool) : Type 0 where
  pub head : SameHead s s'
  pub others : OthersSame k s s'
  pub this : Added e (entries s k) (entries s' k) added

-- nothing was added
pub record KeptAll (k : Kind) (s s' : Script) : Type 0 where
  pub head : SameHead s s'
  pub others : OthersSame k s s'
  pub this : entries s' k ≡ entries s k
