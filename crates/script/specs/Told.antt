-- What a script tells a machine.
use Rattle.std.specs.Prelude.{◌≡◌, ℕ, zero, suc, ◌+◌, ◌*◌, ◌/◌, ◌^◌, ◌<◌, ◌≤◌, max, Bool, false, List, length, vec_items, slice_index_or}
use Rattle.std.specs.Option.{option_map_or}
use Rattle.circuit.specs.Lent.{gate_count, register_count, gate_in, early, late, period}
use Rattle.promise.specs.Machine.{machine_in, Formed}
use Rattle.simulation.specs.Simulated.{Told, MayTell}
use Rattle.script.specs.declared.entry.Entry.{Entry}
use Rattle.script.specs.declared.script.Script.{Script}
use Rattle.script.specs.declared.chance.Choice.TheVariants.{Start, Delay, Show, Clock, Take}
use Rattle.script.specs.Chance.{between, odd}
use Rattle.script.specs.Choices.{drawn_for}
use Rattle.script.specs.Entries.{entry, bit_said, said_by, said_in}

module _ (s : Script) (g r ts : List ℕ) where
  -- a register's bit at the start: as told, else chosen by the seed, else 0
  abbrev pub start_told : ℕ → Bool
  start_told q = option_map_or (λ bits. slice_index_or (vec_items bits) q false) s.start (option_map_or (λ n. odd (drawn_for n Start q 0)) s.seed false)

  -- the two delays of gate k at moment t: as told last, else chosen by the seed within bounds, else the least
  abbrev pub one_told : (k t : ℕ) → ℕ
  one_told k t = option_map_or (λ e. e.one) (said_by s.delays t k) (option_map_or (λ n. between (drawn_for n Delay k t / 2 ^ 32) (gate_in g k).least_one (gate_in g k).greatest_one) s.seed (gate_in g k).least_one)

  abbrev pub two_told : (k t : ℕ) → ℕ
  two_told k t = option_map_or (λ e. e.two) (said_by s.delays t k) (option_map_or (λ n. between (drawn_for n Delay k t) (gate_in g k).least_two (gate_in g k).greatest_two) s.seed (gate_in g k).least_two)

  -- what register q shows at moment t where it may show anything: as told last, else chosen by the seed, else 0
  abbrev pub show_told : (q t : ℕ) → Bool
  show_told q t = option_map_or bit_said (said_by s.shows t q) (option_map_or (λ n. odd (drawn_for n Show q t)) s.seed false)

  -- what register q takes at its clock of cycle n where it may take anything: as told, else chosen by the seed, else 0
  abbrev pub take_told : (n q : ℕ) → Bool
  take_told n q = option_map_or bit_said (said_in s.takes n q) (option_map_or (λ k. odd (drawn_for k Take n q)) s.seed false)

  -- when the clock of cycle n comes to register q, between two moments if it is not told: chosen by the seed, else the first of them
  abbrev pub clock_between : (n q low high : ℕ) → ℕ
  clock_between n q low high = option_map_or (λ e. n * period ts + e.one) (said_in s.clocks n q) (option_map_or (λ k. between (drawn_for k Clock n q) low high) s.seed low)

  -- a clock comes within its bounds, and after the one before it
  unfoldable pub clock_told : (n q : ℕ) → ℕ
  clock_told zero q = clock_between 0 q (early r q) (late r q)
  clock_told (suc n) q = clock_between (suc n) q (max (suc n * period ts + early r q) (suc (clock_told n q))) (suc n * period ts + late r q)

  -- WHAT A SCRIPT TELLS
  unfoldable pub told_by : Told
  told_by = record { start = start_told; clock = clock_told; one = one_told; two = two_told; show = show_told; take = take_told }

  -- a told delay lies within the bounds of its gate
  pub record DelayFits (e : Entry) : Type 0 where
    pub gate : e.who < gate_count g
    pub one_within : ((gate_in g e.who).least_one ≤ e.one) × (e.one ≤ (gate_in g e.who).greatest_one)
    pub two_within : ((gate_in g e.who).least_two ≤ e.two) × (e.two ≤ (gate_in g e.who).greatest_two)

  -- a told clock lies within the bounds of its register, and comes after the one before it there
  pub record ClockFits (e : Entry) : Type 0 where
    pub register : e.who < register_count r
    pub within : (early r e.who ≤ e.one) × (e.one ≤ late r e.who)
    pub in_turn : (n : ℕ) → e.when ≡ suc n → clock_told n e.who < e.when * period ts + e.one

  -- all that is told lies within its bounds
  pub record Fits : Type 0 where
    pub delays : (i : ℕ) → i < length s.delays → DelayFits (entry s.delays i)
    pub clocks : (i : ℕ) → i < length s.clocks → ClockFits (entry s.clocks i)

-- what a script tells of which all lies within its bounds may be told, if a period takes time
abbrev pub MayBeTold : Type 0
MayBeTold = (s : Script) (g r ts : List ℕ) → Formed (machine_in g r ts) → 0 < period ts → Fits s g r ts → MayTell (machine_in g r ts) (told_by s g r ts)
