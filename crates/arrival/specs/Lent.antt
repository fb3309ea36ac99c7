-- Arrival times over the numbers that are lent.
use Rattle.std.specs.Prelude.{◌≡◌, ℕ, ◌+◌, ◌-◌, ◌^◌, ◌<◌, ◌≤◌, ◌⊎◌, List, length, Some, None, min, slice_index}
use Rattle.circuit.specs.Filled.{Filled}
use Rattle.circuit.specs.Lent.{gate_count, signal_count, circuit_in, drawn, early, late, output_early, output_late}
use Rattle.circuit.specs.Refused.{AllOrFirst}
use Rattle.circuit.specs.declared.refusal.Refusal.{Refusal}
use Rattle.circuit.specs.declared.refusal.Refusal.TheVariants.{NoRoom, TooLarge}
use Rattle.arrival.specs.declared.edge.Edge.{Edge}
use Rattle.arrival.specs.declared.edge.Edge.TheVariants.{Late, Early}
use Rattle.arrival.specs.Arrival.{arrival}

-- a register's latest time is its late time and the latest output time, its earliest its early time and the earliest output time
abbrev pub source : Edge → (registers times : List ℕ) → ℕ → ℕ
source Late registers times r = late registers r + output_late times
source Early registers times r = early registers r + output_early times

-- the latest or earliest time of every signal of a clocked circuit, from its cycle's beginning
abbrev pub time_of : Edge → (gates registers times : List ℕ) → ℕ → ℕ
time_of e gates registers times = arrival e (drawn gates registers) (source e registers times)

-- `after` has the time of every signal over the n sources whose times `before` begins with, and is else as it was
abbrev pub OverSources : Edge → (n : ℕ) (gates before after : List ℕ) → Type 0
OverSources e n gates before after = Filled 0 (n + gate_count gates) (arrival e (circuit_in n gates) (λ i. slice_index before i)) before after

-- `after` has the time of every signal of the circuit, and is else as it was
abbrev pub OverRegisters : Edge → (gates registers times before after : List ℕ) → Type 0
OverRegisters e gates registers times before after = Filled 0 (signal_count gates registers) (time_of e gates registers times) before after

-- there is room for the times of all signals
abbrev pub Enough : (gates registers latest earliest : List ℕ) → Type 0
Enough gates registers latest earliest = (signal_count gates registers ≤ length latest) × (signal_count gates registers ≤ length earliest)

-- times of sources are at most this, so that no sum overflows
abbrev pub largest_source : ℕ
largest_source = 2 ^ 63

abbrev pub SmallSource : List ℕ → ℕ → Type 0
SmallSource times i = slice_index times i ≤ largest_source

-- how many sources the room for latest times begins with: as many as it is longer than there are gates
abbrev pub sources_of : (gates latest : List ℕ) → ℕ
sources_of gates latest = length latest - gate_count gates

-- there is room for latest and earliest times over sources, and no source's time is too large
abbrev pub SourcesFit : (gates registers latest earliest : List ℕ) → Type 0
SourcesFit gates registers latest earliest =
    (signal_count gates registers ≤ length latest) × (length latest ≤ length earliest)
    × AllOrFirst (SmallSource latest) (sources_of gates latest) None
    × AllOrFirst (SmallSource earliest) (sources_of gates latest) None

-- how many of their earliest times there are
abbrev pub earliest_sources_of : (gates latest earliest : List ℕ) → ℕ
earliest_sources_of gates latest earliest = min (sources_of gates latest) (length earliest)

-- the first source's time that is too large, by its index through the latest times and then the earliest
abbrev pub FirstLarge : (gates latest earliest : List ℕ) → ℕ → Type 0
FirstLarge gates latest earliest p =
    AllOrFirst (SmallSource latest) (sources_of gates latest) (Some p)
    ⊎ (AllOrFirst (SmallSource latest) (sources_of gates latest) None
    × ((i : ℕ) × (p ≡ length latest + i) × AllOrFirst (SmallSource earliest) (earliest_sources_of gates latest earliest) (Some i)))

-- no source's time is too large
abbrev pub NoneLarge : (gates latest earliest : List ℕ) → Type 0
NoneLarge gates latest earliest =
    AllOrFirst (SmallSource latest) (sources_of gates latest) None
    × AllOrFirst (SmallSource earliest) (earliest_sources_of gates latest earliest) None

-- the length that is needed of room that is too short: for the signals, or as long as the other
abbrev pub TooShort : (gates registers latest earliest : List ℕ) → ℕ → Type 0
TooShort gates registers latest earliest n =
    ((length latest < signal_count gates registers) × (n ≡ signal_count gates registers))
    ⊎ ((signal_count gates registers ≤ length latest) × (length earliest < length latest) × (n ≡ length latest))

-- why room for latest and earliest times over sources is refused: a source's time that is too large, or else room that is
-- too short
abbrev pub SourcesRefused : (gates registers latest earliest : List ℕ) → Refusal → Type 0
SourcesRefused gates registers latest earliest e =
    ((p : ℕ) × (e ≡ TooLarge p) × FirstLarge gates latest earliest p)
    ⊎ (NoneLarge gates latest earliest × ((n : ℕ) × (e ≡ NoRoom n) × TooShort gates registers latest earliest n))

-- room for the times of a circuit's signals that is too short is refused by the length that is needed
abbrev pub TimesRefused : (gates registers latest earliest : List ℕ) → Refusal → Type 0
TimesRefused gates registers latest earliest e =
    ((length latest < signal_count gates registers) ⊎ (length earliest < signal_count gates registers)) × (e ≡ NoRoom (signal_count gates registers))
