-- What a teller knows, and what it tells.
use Rattle.std.specs.Prelude.{◌≡◌, ℕ, suc, ◌<◌, ◌≤◌, false, ◌⊎◌, List, length, Ok, Err, Result, vec_items, slice_index, slice_index_or}
use Rattle.circuit.specs.Checked.{of, gates_of, registers_of}
use Rattle.circuit.specs.Lent.{gate_count, register_count}
use Rattle.circuit.specs.declared.circuit.Circuit.{Circuit}
use Rattle.circuit.specs.declared.refusal.Refusal.{Refusal}
use Rattle.circuit.specs.declared.refusal.Refusal.TheVariants.{NoRoom}
use Rattle.clocks.specs.declared.bench.Bench.{Bench}
use Rattle.promise.specs.Machine.{machine_in}
use Rattle.step.specs.Lent.{TellsGates, TellsRegister, clocks_at}
use Rattle.script.specs.declared.script.Script.{Script}
use Rattle.script.specs.Told.{told_by}
use Rattle.telling.specs.declared.teller.Teller.{Teller}
use Rattle.telling.specs.Parts.{places, PartKnows, ClocksKnow, ComesTo}

-- a teller has places for the gates and registers of a circuit
pub record Sized (g r : List ℕ) (y : Teller) : Type 0 where
  pub delays_sized : gate_count g ≤ places y.delays
  pub shows_sized : register_count r ≤ places y.shows
  pub clocks_sized : register_count r ≤ length (vec_items y.clocks)

-- a teller knows all that a script says of the moments before t, and the clocks of the cycles in which the registers stood
pub record Knows (s : Script) (g r ts : List ℕ) (t : ℕ) (y : Teller) : Type 0 where
  pub sized : Sized g r y
  pub delays_known : PartKnows s.delays t y.delays
  pub shows_known : PartKnows s.shows t y.shows
  pub clocks_known : ClocksKnow s g r ts (vec_items y.clocks)

-- WHAT IS TOLD for moment t, to registers in these cycles, by a teller that knew what was said before: what the script tells
pub record ToldOn (s : Script) (g r ts : List ℕ) (t : ℕ) (cycles : List ℕ) (y y' : Teller) : Type 0 where
  pub stand : (q : ℕ) → q < register_count r → (clocks_at (vec_items y'.clocks) q).cycle ≡ slice_index cycles q
  pub knows : Knows s g r ts t y → ComesTo s g r ts cycles (vec_items y.clocks) → Knows s g r ts (suc t) y'
  pub gates : Knows s g r ts t y → TellsGates (machine_in g r ts) (told_by s g r ts) t (vec_items y'.delays.values)
  pub registers : Knows s g r ts t y → ComesTo s g r ts cycles (vec_items y.clocks) → (q : ℕ) → q < register_count r →
      TellsRegister (machine_in g r ts) (told_by s g r ts) t q (slice_index cycles q) (slice_index_or (vec_items y'.shows.values) q false) (clocks_at (vec_items y'.clocks) q)

-- what a new teller knows: nothing was said before moment 0, and all registers stand in cycle 0
pub record Begins (s : Script) (g r ts : List ℕ) (y : Teller) : Type 0 where
  pub knows : Knows s g r ts 0 y
  pub stand : (q : ℕ) → (clocks_at (vec_items y.clocks) q).cycle ≡ 0

-- as many cycles are lent as there are registers, and the teller has places for the circuit
pub record Suits (c : Circuit) (cycles : List ℕ) (y : Teller) : Type 0 where
  pub sized : Sized c.gates.now c.registers.now y
  pub cycles_each : registers_of c ≤ length cycles

-- what is lacking: cycles or places for the registers, and if these are there, places for the gates
abbrev pub Lacks : Circuit → (cycles : List ℕ) → Teller → Refusal → Type 0
Lacks c cycles y e =
    (((length cycles < registers_of c) ⊎ ((places y.shows < registers_of c) ⊎ (length (vec_items y.clocks) < registers_of c))) × (e ≡ NoRoom (registers_of c)))
    ⊎ ((registers_of c ≤ length cycles) × (registers_of c ≤ places y.shows) × (registers_of c ≤ length (vec_items y.clocks)) × (places y.delays < gates_of c) × (e ≡ NoRoom (gates_of c)))

-- a teller that suits told; one that does not did nothing
abbrev pub TellAnswer : Bench → (t : ℕ) (cycles : List ℕ) (y y' : Teller) → Result (Unit {0}) Refusal → Type 0
TellAnswer b t cycles y y' (Ok _) = Suits b.circuit cycles y × of b.circuit (ToldOn b.script.now) t cycles y y'
TellAnswer b t cycles y y' (Err e) = (Suits b.circuit cycles y → ⊥) × Lacks b.circuit cycles y e × (y' ≡ y)
