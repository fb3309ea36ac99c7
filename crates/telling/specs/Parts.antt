-- What each part of a teller knows and tells.
use Rattle.std.specs.Prelude.{◌≡◌, ℕ, suc, ◌<◌, min, Bool, ◌⊎◌, List, length, vec_items, slice_index}
use Rattle.clocks.specs.Benches.{SmallClock}
use Rattle.circuit.specs.Lent.{gate_count, register_count}
use Rattle.script.specs.declared.entry.Entry.{Entry}
use Rattle.script.specs.declared.script.Script.{Script}
use Rattle.script.specs.Told.{clock_told}
use Rattle.step.specs.Lent.{clocks_at}
use Rattle.step.specs.declared.told.Clocks.{Clocks}
use Rattle.step.specs.declared.told.Delays.{Delays}
use Rattle.telling.specs.declared.part.Part.{Part}
use Rattle.telling.specs.Said.{DoneBefore, Said, DelaysSaid, ShowsSaid, ClocksTold}

-- how many gates or registers have a place
abbrev pub places : {V : Type 0} → Part V → ℕ
places y = min (length (vec_items y.values)) (length (vec_items y.said))

-- all that is said in the moments before t is kept
pub record PartKnows {V : Type 0} (es : List Entry) (t : ℕ) (y : Part V) : Type 0 where
  pub done_all : DoneBefore es t y.done
  pub said_all : Said es y.done (length (vec_items y.said)) (vec_items y.said)

-- what is said up to moment t was kept
pub record PartOn {V : Type 0} (es : List Entry) (t : ℕ) (y y' : Part V) : Type 0 where
  pub places_same : places y' ≡ places y
  pub knows : PartKnows es t y → PartKnows es (suc t) y'

-- a new part with n places
pub record PartNew {V : Type 0} (n : ℕ) (y : Part V) : Type 0 where
  pub places_all : places y ≡ n
  pub knows : (es : List Entry) → PartKnows es 0 y

-- the delays of all gates are told by what is kept, and what all registers show
abbrev pub DelaysTold : (s : Script) (g : List ℕ) (t : ℕ) → Part Delays → Type 0
DelaysTold s g t y = DelaysSaid s g t (gate_count g) (vec_items y.said) (vec_items y.values)

abbrev pub ShowsTold : (s : Script) (r : List ℕ) (t : ℕ) → Part Bool → Type 0
ShowsTold s r t y = ShowsSaid s t (register_count r) (vec_items y.said) (vec_items y.values)

-- each register is told what goes for the cycle in which it stood
abbrev pub ClocksKnow : (s : Script) (g r ts : List ℕ) → List Clocks → Type 0
ClocksKnow s g r ts clocks = (q : ℕ) → q < register_count r → ClocksTold s g r ts q (clocks_at clocks q).cycle (clocks_at clocks q)

-- the registers stand in the cycles of which they were told, or in the next, and no clock is too large
pub record ComesTo (s : Script) (g r ts cycles : List ℕ) (clocks : List Clocks) : Type 0 where
  pub near : (q : ℕ) → q < register_count r → (slice_index cycles q ≡ (clocks_at clocks q).cycle) ⊎ (slice_index cycles q ≡ suc (clocks_at clocks q).cycle)
  pub small : (q : ℕ) → q < register_count r → SmallClock ts (suc (suc (suc (clocks_at clocks q).cycle))) (clock_told s g r ts (suc (suc (clocks_at clocks q).cycle)) q)
