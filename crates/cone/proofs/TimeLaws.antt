-- Times of the signals of a fan-in cone.
use Rattle.std.proofs.Common.{◌≡◌, ℕ, ◌+◌, ◌*◌, ◌^◌, ◌<◌, ◌≤◌, Bool, true, false, List, length, get_or, set, sym, ◌∙◌, inl, inr, arith}
use Rattle.std.proofs.lemmas.Bool.{cases_eq}
use Rattle.std.proofs.lemmas.List.{get_or-set_same, get_or-set_other}
use mathlib.Core.Bool.{false≢true}
use Rattle.circuit.specs.Checked.{of, gates_of, registers_of, signals_of}
use Rattle.circuit.specs.Lent.{gate_in}
use Rattle.circuit.specs.declared.circuit.Circuit as checked
use Rattle.circuit.specs.declared.gate.Gate.{Gate}
use Rattle.circuit.proofs.Known.{sound_of, gates_small, registers_small, times_small}
use Rattle.arrival.specs.declared.edge.Edge.{Edge}
use Rattle.arrival.specs.declared.edge.Edge.TheVariants.{Late, Early}
use Rattle.arrival.specs.Arrival.{delay, gate_time}
use Rattle.arrival.specs.Lent.{source, time_of}
use Rattle.arrival.proofs.ArrivalLaws.{arrival_in}
use Rattle.arrival.proofs.Turns.{arrival_lent, time_small, small_source}
use Rattle.path.specs.Path.{input}
use Rattle.cone.specs.Alone.{IsMarked, HasInputs, KnowsMarked, KnowsCone, KnowsInputs}
use Rattle.cone.specs.Cone.{InCone}
use Rattle.cone.proofs.Marking.{wires, back}

delay_small : (e : Edge) (c : checked.Circuit) (k : ℕ) (second : Bool) → delay e second (gate_in c.gates.now k) ≤ 1000000
delay_small Late c k false = gates_small c (7 * k + 4)
delay_small Late c k true = gates_small c (7 * k + 6)
delay_small Early c k false = gates_small c (7 * k + 3)
delay_small Early c k true = gates_small c (7 * k + 5)

module _ (e : Edge) (c : checked.Circuit) (k : ℕ) (h : k < gates_of c) where
  -- the inputs of a gate come before it
  pub before : (second : Bool) → input second (gate_in c.gates.now k) < registers_of c + k
  before false = (c.placed k h).0
  before true = (c.placed k h).1

  module _ (times : List ℕ) (known : of c KnowsInputs e k times) where
    known_at : (second : Bool) → get_or times (input second (gate_in c.gates.now k)) 0 ≡ of c (time_of e) (input second (gate_in c.gates.now k))
    known_at false = known.0
    known_at true = known.1

    module _ (g : Gate) (is : g ≡ gate_in c.gates.now k) where
      -- the time of an input with its delay, which does not overflow
      pub sum_is : (second : Bool) (d : ℕ) → d ≡ delay e second g →
          get_or times (input second g) 0 + d ≡ of c (time_of e) (input second (gate_in c.gates.now k)) + delay e second (gate_in c.gates.now k)
      sum_is second d d_is = rw (d_is, is, known_at second)

      pub sum_fits : (second : Bool) (d : ℕ) → d ≡ delay e second g → get_or times (input second g) 0 + d < 2 ^ 64
      sum_fits second d d_is =
          let j : ℕ = input second (gate_in c.gates.now k) in
          let inside : j < signals_of c = omega (arith, before second) in
          let small = time_small e c.gates.now c.registers.now c.times.now c.few c.small (sound_of c) j inside in
          omega (arith, sum_is second d d_is, delay_small e c k second)

  -- the time of the gate's signal, from those of its inputs with their delays
  pub gate_time_is : of c (time_of e) (registers_of c + k)
      ≡ gate_time e 0 (gate_in c.gates.now k) (of c (time_of e) (gate_in c.gates.now k).one) (of c (time_of e) (gate_in c.gates.now k).two)
  gate_time_is = arrival_lent e (registers_of c) c.gates.now (sound_of c) (source e c.registers.now c.times.now) k h

-- the time of a register's output is its own
pub source_is : (e : Edge) (c : checked.Circuit) (r : ℕ) → r < registers_of c → of c (time_of e) r ≡ source e c.registers.now c.times.now r
source_is e c r h = arrival_in e (wires c) (sound_of c) (source e c.registers.now c.times.now) r h

-- no register's time overflows
pub source_fits : (e : Edge) (c : checked.Circuit) (r : ℕ) → source e c.registers.now c.times.now r ≤ 2000000
source_fits e c r = small_source e c.registers.now c.times.now r (registers_small c) (times_small c)

module _ (e : Edge) (c : checked.Circuit) (marks : List Bool) (n : ℕ) (times : List ℕ) (known : of c KnowsMarked e marks n times) where
  -- the next signal's time is found, if it is marked
  pub known_more : (v : ℕ) → n < length times → v ≡ of c (time_of e) n → of c KnowsMarked e marks (n + 1) (set times n v)
  known_more v room is k h on = elim (cases_eq k n) [
    | inl same ↦ rw same (get_or-set_same times n v 0 room ∙ is)
    | inr other ↦ get_or-set_other times n k v 0 other ∙ known k (omega arith) on
  ]

  pub known_same : get_or marks n false ≡ false → of c KnowsMarked e marks (n + 1) times
  known_same off k h on = elim (cases_eq k n) [
    | inl same ↦ absurd (false≢true (sym off ∙ rw same at on))
    | inr other ↦ known k (omega arith) on
  ]

-- the inputs of a marked gate are marked, so their times are known
pub inputs_known : (e : Edge) (c : checked.Circuit) (marks : List Bool) (k : ℕ) (times : List ℕ) → k < gates_of c → of c HasInputs marks → of c KnowsMarked e marks (registers_of c + k) times →
    get_or marks (registers_of c + k) false ≡ true → of c KnowsInputs e k times
inputs_known e c marks k times h inputs known on =
    let both = inputs k h on in
    (known _ (c.placed k h).0 both.0, known _ (c.placed k h).1 both.1)

-- the times of all marked signals are those of the cone
pub cone_known : (e : Edge) (c : checked.Circuit) (to : ℕ) (marks : List Bool) (times : List ℕ) → of c IsMarked to marks → of c KnowsMarked e marks (signals_of c) times → of c KnowsCone e to times
cone_known e c to marks times is known k h on = known k h ((is k h).1 on)

-- of a gate in the cone the times of both inputs are known
pub back_known : (e : Edge) (c : checked.Circuit) (to : ℕ) (times : List ℕ) → to < signals_of c → of c KnowsCone e to times →
    (g : ℕ) → g < gates_of c → InCone (wires c) to (registers_of c + g) → of c KnowsInputs e g times
back_known e c to times inside known g h on = (
  known _ (omega (arith, (c.placed g h).0)) (back c to inside g false h on),
  known _ (omega (arith, (c.placed g h).1)) (back c to inside g true h on),
)
