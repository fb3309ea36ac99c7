-- The time of a gate's input with its delay, and that it does not overflow.
use Rattle.std.proofs.Common.{◌≡◌, ℕ, ◌+◌, ◌*◌, ◌^◌, ◌<◌, ◌≤◌, Bool, true, false, List, get_or, arith}
use Rattle.circuit.specs.Checked.{of, gates_of, registers_of, signals_of}
use Rattle.circuit.specs.Lent.{gate_in}
use Rattle.circuit.specs.declared.circuit.Circuit as checked
use Rattle.circuit.specs.declared.gate.Gate.{Gate}
use Rattle.circuit.proofs.Known.{sound_of, gates_small}
use Rattle.arrival.specs.declared.edge.Edge.{Edge}
use Rattle.arrival.specs.declared.edge.Edge.TheVariants.{Late, Early}
use Rattle.arrival.specs.Arrival.{delay}
use Rattle.arrival.specs.Lent.{time_of}
use Rattle.arrival.proofs.Turns.{time_small}
use Rattle.path.specs.Path.{input}

delay_small : (e : Edge) (c : checked.Circuit) (k : ℕ) (second : Bool) → delay e second (gate_in c.gates.now k) ≤ 1000000
delay_small Late c k false = gates_small c (7 * k + 4)
delay_small Late c k true = gates_small c (7 * k + 6)
delay_small Early c k false = gates_small c (7 * k + 3)
delay_small Early c k true = gates_small c (7 * k + 5)

module _ (e : Edge) (c : checked.Circuit) (k : ℕ) (h : k < gates_of c) (gate : Gate) (is : gate ≡ gate_in c.gates.now k)
    (times : List ℕ) (each : (j : ℕ) → j < signals_of c → get_or times j 0 ≡ of c (time_of e) j) where
  -- the inputs come before the gate
  pub before : (second : Bool) → input second (gate_in c.gates.now k) < registers_of c + k
  before false = (c.placed k h).0
  before true = (c.placed k h).1

  pub sum_is : (second : Bool) (d : ℕ) → d ≡ delay e second gate →
      get_or times (input second gate) 0 + d ≡ of c (time_of e) (input second (gate_in c.gates.now k)) + delay e second (gate_in c.gates.now k)
  sum_is second d d_is = rw (d_is, is, each (input second (gate_in c.gates.now k)) (omega (arith, before second)))

  pub sum_fits : (second : Bool) (d : ℕ) → d ≡ delay e second gate → get_or times (input second gate) 0 + d < 2 ^ 64
  sum_fits second d d_is =
      let j : ℕ = input second (gate_in c.gates.now k) in
      let inside : j < signals_of c = omega (arith, before second) in
      let small = time_small e c.gates.now c.registers.now c.times.now c.few c.small (sound_of c) j inside in
      omega (arith, sum_is second d d_is, delay_small e c k second)
