-- What is told up to a moment, as it is kept.
use Rattle.std.specs.Prelude.{◌≡◌, ℕ, suc, ◌/◌, ◌^◌, ◌<◌, ◌≤◌, Bool, false, ◌⊎◌, List, length, None, Option, slice_index, slice_index_or}
use Rattle.std.specs.Option.{option_map_or}
use Rattle.circuit.specs.Lent.{gate_in}
use Rattle.circuit.specs.declared.gate.Gate.{Gate}
use Rattle.clocks.specs.Benches.{SmallClock}
use Rattle.script.specs.declared.entry.Entry.{Entry}
use Rattle.script.specs.declared.script.Script.{Script}
use Rattle.script.specs.declared.chance.Choice.TheVariants.{Delay, Show}
use Rattle.script.specs.Chance.{between, odd}
use Rattle.script.specs.Choices.{drawn_for}
use Rattle.script.specs.Entries.{entry, bit_said, last_of, about}
use Rattle.script.specs.Told.{clock_told, take_told}
use Rattle.step.specs.Lent.{clocks_at, delays_at}
use Rattle.step.specs.declared.told.Clocks.{Clocks}
use Rattle.step.specs.declared.told.Delays.{Delays}

-- the first i statements are those of the moments before t
pub record DoneBefore (es : List Entry) (t i : ℕ) : Type 0 where
  pub within : i ≤ length es
  pub done : (j : ℕ) → j < i → (entry es j).when < t
  pub to_come : (j : ℕ) → i ≤ j → j < length es → t ≤ (entry es j).when

-- for each of n gates or registers the last of the first i statements about it
abbrev pub Said : List Entry → (i n : ℕ) → List (Option Entry) → Type 0
Said es i n said = (k : ℕ) → k < n → slice_index_or said k None ≡ last_of (about k) es i

-- statements up to moment t are kept, if those before it were
pub record KeptOn (es : List Entry) (t done : ℕ) (before : List (Option Entry)) (i : ℕ) (after : List (Option Entry)) : Type 0 where
  pub done_now : DoneBefore es t done → DoneBefore es (suc t) i
  pub said_now : DoneBefore es t done → Said es done (length before) before → Said es i (length before) after

-- a gate's two delays by a seed, at moment t
abbrev pub one_chosen : ℕ → Gate → (k t : ℕ) → ℕ
one_chosen n g k t = between (drawn_for n Delay k t / 2 ^ 32) g.least_one g.greatest_one

abbrev pub two_chosen : ℕ → Gate → (k t : ℕ) → ℕ
two_chosen n g k t = between (drawn_for n Delay k t) g.least_two g.greatest_two

-- a gate's two delays by what is said of it, at moment t
abbrev pub one_of : Option ℕ → Gate → (k t : ℕ) → Option Entry → ℕ
one_of seed g k t said = option_map_or (λ e. e.one) said (option_map_or (λ n. one_chosen n g k t) seed g.least_one)

abbrev pub two_of : Option ℕ → Gate → (k t : ℕ) → Option Entry → ℕ
two_of seed g k t said = option_map_or (λ e. e.two) said (option_map_or (λ n. two_chosen n g k t) seed g.least_two)

-- what a register shows by what is said of it, at moment t
abbrev pub show_of : Option ℕ → (q t : ℕ) → Option Entry → Bool
show_of seed q t said = option_map_or bit_said said (option_map_or (λ n. odd (drawn_for n Show q t)) seed false)

-- the first n gates have the delays that go by what is said of each
pub record DelaysSaid (s : Script) (g : List ℕ) (t n : ℕ) (said : List (Option Entry)) (delays : List Delays) : Type 0 where
  pub one : (k : ℕ) → k < n → (delays_at delays k).one ≡ one_of s.seed (gate_in g k) k t (slice_index_or said k None)
  pub two : (k : ℕ) → k < n → (delays_at delays k).two ≡ two_of s.seed (gate_in g k) k t (slice_index_or said k None)

-- the first n registers show what goes by what is said of each
abbrev pub ShowsSaid : (s : Script) (t n : ℕ) (said : List (Option Entry)) (shows : List Bool) → Type 0
ShowsSaid s t n said shows = (q : ℕ) → q < n → slice_index_or shows q false ≡ show_of s.seed q t (slice_index_or said q None)

-- register q's clocks of cycle n and the next two, and what it takes in the next
pub record ClocksTold (s : Script) (g r ts : List ℕ) (q n : ℕ) (told : Clocks) : Type 0 where
  pub cycle : told.cycle ≡ n
  pub clock : told.clock ≡ clock_told s g r ts n q
  pub next : told.next ≡ clock_told s g r ts (suc n) q
  pub after : told.after ≡ clock_told s g r ts (suc (suc n)) q
  pub take : told.take ≡ take_told s g r ts (suc n) q

-- register q has come to cycle n from the one before it, and is told what goes for that
pub record ClocksGoOn (s : Script) (g r ts : List ℕ) (q n : ℕ) (told told' : Clocks) : Type 0 where
  pub cycle_now : told'.cycle ≡ n
  pub told_now : (m : ℕ) → n ≡ suc m → SmallClock ts (suc (suc (suc m))) (clock_told s g r ts (suc (suc m)) q) → ClocksTold s g r ts q m told → ClocksTold s g r ts q n told'

-- the first i registers are told what goes for the cycles that they have come to, of those of which they were told before or the next
pub record Followed (s : Script) (g r ts cycles : List ℕ) (i : ℕ) (clocks clocks' : List Clocks) : Type 0 where
  pub size : length clocks' ≡ length clocks
  pub stand : (q : ℕ) → q < i → (clocks_at clocks' q).cycle ≡ slice_index cycles q
  pub rest : (q : ℕ) → i ≤ q → clocks_at clocks' q ≡ clocks_at clocks q
  pub told_now : (q : ℕ) → q < i → (slice_index cycles q ≡ (clocks_at clocks q).cycle) ⊎ (slice_index cycles q ≡ suc (clocks_at clocks q).cycle) →
      SmallClock ts (suc (suc (suc (clocks_at clocks q).cycle))) (clock_told s g r ts (suc (suc (clocks_at clocks q).cycle)) q) →
      ClocksTold s g r ts q (clocks_at clocks q).cycle (clocks_at clocks q) → ClocksTold s g r ts q (slice_index cycles q) (clocks_at clocks' q)

-- the first i registers, and no others, are told what goes for their first cycle
pub record FirstTold (s : Script) (g r ts : List ℕ) (i : ℕ) (clocks : List Clocks) : Type 0 where
  pub size : length clocks ≡ i
  pub told : (q : ℕ) → q < i → ClocksTold s g r ts q 0 (clocks_at clocks q)
