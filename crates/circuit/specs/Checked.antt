-- What is said of lists of numbers, said of the circuit that they are.
use Rattle.std.specs.Prelude.{◌≡◌, ℕ, List, Ok, Err, Result}
use Rattle.circuit.specs.Lent.{gate_count, register_count, signal_count}
use Rattle.circuit.specs.Refused.{FirstRefusal}
use Rattle.circuit.specs.declared.circuit.Circuit.{Circuit}
use Rattle.circuit.specs.declared.numbers.Numbers.{Numbers}
use Rattle.circuit.specs.declared.refusal.Refusal.{Refusal}

-- f of the three lists that are lent, and of those of a circuit
abbrev pub lent {ℓ} : {A : Type ℓ} → Numbers → (List ℕ → List ℕ → List ℕ → A) → A
lent n f = f n.gates.now n.registers.now n.times.now

abbrev pub of {ℓ} : {A : Type ℓ} → Circuit → (List ℕ → List ℕ → List ℕ → A) → A
of c f = f c.gates.now c.registers.now c.times.now

-- how many gates, registers and signals a circuit has
abbrev pub gates_of : Circuit → ℕ
gates_of c = gate_count c.gates.now

abbrev pub registers_of : Circuit → ℕ
registers_of c = register_count c.registers.now

abbrev pub signals_of : Circuit → ℕ
signals_of c = signal_count c.gates.now c.registers.now

-- a circuit of just these numbers, or the first reason why they are none
abbrev pub IsChecked : Numbers → Result Circuit Refusal → Type 0
IsChecked n (Ok c) = (c.gates.now ≡ n.gates.now) × (c.registers.now ≡ n.registers.now) × (c.times.now ≡ n.times.now)
IsChecked n (Err e) = lent n FirstRefusal e
