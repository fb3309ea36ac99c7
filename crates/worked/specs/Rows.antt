-- Seven small circuits and the words that they get.
use Rattle.std.specs.Prelude.{◌≡◌, ℕ, List, [], ◌∷◌}
use Rattle.circuit.specs.Lent.{register_count, drawn, takes}
use Rattle.circuit.specs.Whole.{Whole}
use Rattle.arrival.specs.declared.edge.Edge.{Edge}
use Rattle.arrival.specs.declared.edge.Edge.TheVariants.{Late, Early}
use Rattle.arrival.specs.Lent.{source}
use Rattle.path.specs.Path.{told, written}
use Rattle.promise.specs.Machine.{machine_in, Passed}
use Rattle.signoff.specs.Verdict.{FirstLate, FirstEarly, LateSums, EarlySums}

-- a word: passed, or a register with its path as it is written and the two sums
pub data Word : Type 0 where
  passed : Word
  too_late : (register : ℕ) (path : List ℕ) (arrival limit : ℕ) → Word
  too_early : (register : ℕ) (path : List ℕ) (arrival limit : ℕ) → Word

-- the numbers of a circuit and its word
pub record Row : Type 0 where
  pub gates : List ℕ
  pub registers : List ℕ
  pub times : List ℕ
  pub word : Word

-- the path that is told for the signal that register q takes
abbrev pub path_at : Edge → (gates registers times : List ℕ) (q : ℕ) → List ℕ
path_at e g r t q = written (register_count r) (told e (drawn g r) (source e r t) (takes r q))

-- a circuit has its word
abbrev pub Has : (gates registers times : List ℕ) → Word → Type 0
Has g r t passed = Passed (machine_in g r t)
Has g r t (too_late q path a b) = FirstLate g r t q × LateSums g r t q a b × (path_at Late g r t q ≡ path)
Has g r t (too_early q path a b) = FirstEarly g r t q × EarlySums g r t q a b × (path_at Early g r t q ≡ path)

-- a row's numbers are a circuit that has the row's word
abbrev pub HasWord : Row → Type 0
HasWord x = Whole x.gates x.registers x.times × Has x.gates x.registers x.times x.word

-- every row of a table has its word
abbrev pub AllHave : List Row → Type 0
AllHave [] = Unit {0}
AllHave (x ∷ xs) = HasWord x × AllHave xs

-- the five times with a period; the clock comes from 0 to 2 everywhere
abbrev pub with_period : ℕ → List ℕ
with_period p = p ∷ 2 ∷ 4 ∷ 3 ∷ 1 ∷ []

-- one register behind a gate that turns its bit round
abbrev pub inverter : (least period : ℕ) → Word → Row
inverter least p w = record { gates = 0 ∷ 0 ∷ 1 ∷ least ∷ 8 ∷ least ∷ 8 ∷ []; registers = 1 ∷ 0 ∷ 2 ∷ []; times = with_period p; word = w }

-- two registers that count to four, the second of which takes a given signal
abbrev pub counter : (second : ℕ) → Word → Row
counter second w = record {
  gates = 0 ∷ 0 ∷ 1 ∷ 3 ∷ 8 ∷ 3 ∷ 8 ∷ 0 ∷ 1 ∷ 6 ∷ 4 ∷ 9 ∷ 2 ∷ 7 ∷ [];
  registers = 2 ∷ 0 ∷ 2 ∷ second ∷ 0 ∷ 2 ∷ [];
  times = with_period 18;
  word = w;
}

-- two gates in a row
abbrev pub and_not : (period : ℕ) → Word → Row
and_not p w = record {
  gates = 0 ∷ 1 ∷ 8 ∷ 3 ∷ 5 ∷ 3 ∷ 5 ∷ 2 ∷ 2 ∷ 1 ∷ 3 ∷ 6 ∷ 3 ∷ 6 ∷ [];
  registers = 3 ∷ 0 ∷ 2 ∷ 2 ∷ 0 ∷ 2 ∷ [];
  times = with_period p;
  word = w;
}

-- the table
abbrev pub rows : List Row
rows =
    inverter 3 20 passed
    ∷ inverter 3 16 (too_late 0 (0 ∷ 1 ∷ 0 ∷ []) 17 16)
    ∷ inverter 1 20 (too_early 0 (0 ∷ 1 ∷ 0 ∷ []) 3 3)
    ∷ counter 3 passed
    ∷ counter 0 (too_early 1 (0 ∷ []) 2 3)
    ∷ and_not 20 passed
    ∷ and_not 19 (too_late 0 (0 ∷ 2 ∷ 0 ∷ 3 ∷ 0 ∷ []) 20 19)
    ∷ []

-- the numbers of every row of the table are a circuit that has its word
abbrev pub RowsHave : Type 0
RowsHave = AllHave rows
