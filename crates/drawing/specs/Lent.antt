-- What lent memory holds after the drawing was followed.
use Rattle.std.specs.Prelude.{◌≡◌, ℕ, ◌-◌, ◌<◌, ◌≤◌, Bool, false, ◌⊎◌, List, length, Ok, Err, Result, slice_index_or}
use Rattle.circuit.specs.Checked.{registers_of, signals_of}
use Rattle.circuit.specs.Circuit.{Circuit}
use Rattle.circuit.specs.Filled.{Filled}
use Rattle.circuit.specs.Lent.{register_count, signal_count, drawn, takes}
use Rattle.circuit.specs.declared.circuit.Circuit as checked
use Rattle.circuit.specs.declared.refusal.Refusal.{Refusal}
use Rattle.circuit.specs.declared.refusal.Refusal.TheVariants.{NoRoom}
use Rattle.drawing.specs.Drawing.{ideal, held}

-- what is drawn of a circuit that was looked at
abbrev pub drawing_of : checked.Circuit → Circuit
drawing_of c = drawn c.gates.now c.registers.now

-- the bits of a list, 0 past its end
abbrev pub bit_at : List Bool → ℕ → Bool
bit_at xs i = slice_index_or xs i false

-- room of fewer than n places is refused by the length that is needed, and left as it was
abbrev pub RoomRefused : ℕ → (before after : List Bool) → Refusal → Type 0
RoomRefused n before after e = (e ≡ NoRoom n) × (length before < n) × (after ≡ before)

-- room for bits and for signals: the first that is too short is refused by the length that it needs
abbrev pub RoomsRefused : (n m : ℕ) → (bits signals : List Bool) → Refusal → Type 0
RoomsRefused n m bits signals e = ((length bits < n) × (e ≡ NoRoom n)) ⊎ ((n ≤ length bits) × (length signals < m) × (e ≡ NoRoom m))

-- n cycles later, from the bits `before`: the registers hold the drawing's bits, and the signals are those of the last cycle
pub record Cycled (gates registers : List ℕ) (n : ℕ) (before after signals_before signals_after : List Bool) : Type 0 where
  pub bits_held : Filled false (register_count registers) (held (drawn gates registers) (takes registers) (bit_at before) n) before after
  pub none : n ≡ 0 → signals_after ≡ signals_before
  pub some : 0 < n → Filled false (signal_count gates registers) (ideal (drawn gates registers) (held (drawn gates registers) (takes registers) (bit_at before) (n - 1))) signals_before signals_after

-- room for the bits and the signals of a circuit
abbrev pub RoomFor : checked.Circuit → (bits signals : List Bool) → Type 0
RoomFor c bits signals = (registers_of c ≤ length bits) × (signals_of c ≤ length signals)

-- the answer to the call for n cycles: there was room and they were gone, or the first room that is too short is refused and nothing was changed
abbrev pub CyclesAnswer : checked.Circuit → (n : ℕ) → (bits bits' signals signals' : List Bool) → Result Unit Refusal → Type 0
CyclesAnswer c n bits bits' signals signals' (Ok _) = RoomFor c bits signals × Cycled c.gates.now c.registers.now n bits bits' signals signals'
CyclesAnswer c n bits bits' signals signals' (Err e) = RoomsRefused (registers_of c) (signals_of c) bits signals e × (bits' ≡ bits) × (signals' ≡ signals)
