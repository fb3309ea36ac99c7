-- What is known of a circuit that was looked at.
use Rattle.std.proofs.Common.{ℕ, ◌<◌, ◌≤◌, get_or}
use Rattle.circuit.specs.Circuit.{Sound}
use Rattle.circuit.specs.Lent.{register_count, signal_count, circuit_in, drawn, takes}
use Rattle.circuit.specs.Checked.{registers_of}
use Rattle.circuit.specs.Whole.{Whole}
use Rattle.circuit.specs.declared.circuit.Circuit as checked
use Rattle.circuit.proofs.Joined.{small_gates, small_registers, small_times}
use Rattle.circuit.proofs.LentLaws.{sound_in, sound_over}

module _ (c : checked.Circuit) where
  pub sound_of : Sound (drawn c.gates.now c.registers.now)
  sound_of = sound_in _ _ c.placed c.ranged

  pub whole_of : Whole c.gates.now c.registers.now c.times.now
  whole_of = record { shaped = c.shaped; registers_some = c.some; gates_few = c.few; small = c.small; placed = c.placed; ranged = c.ranged; tied = c.tied; ordered = c.ordered }

  -- over its registers and more sources
  pub sound_from : (n : ℕ) → registers_of c ≤ n → Sound (circuit_in n c.gates.now)
  sound_from n le = sound_over _ n _ le c.placed c.ranged

  pub taken_of : (r : ℕ) → r < register_count c.registers.now → takes c.registers.now r < signal_count c.gates.now c.registers.now
  taken_of r h = (c.tied r h).0

  pub gates_small : (i : ℕ) → get_or c.gates.now i 0 ≤ 1000000
  gates_small = small_gates c.gates.now c.registers.now c.times.now c.small

  pub registers_small : (i : ℕ) → get_or c.registers.now i 0 ≤ 1000000
  registers_small = small_registers c.gates.now c.registers.now c.times.now c.small

  pub times_small : (i : ℕ) → get_or c.times.now i 0 ≤ 1000000
  times_small = small_times c.gates.now c.registers.now c.times.now c.small
