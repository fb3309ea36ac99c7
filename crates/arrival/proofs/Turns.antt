-- One turn of the loop that fills in times, and that no time is too large.
use Rattle.std.proofs.Common.{◌≡◌, ℕ, ◌+◌, ◌-◌, ◌*◌, ◌^◌, ◌<◌, ◌≤◌, max, true, false, List, length, get_or, set, sym, refl, ◌∙◌, arith}
use Rattle.circuit.specs.Circuit.{Sound}
use Rattle.circuit.specs.Filled.{Filled}
use Rattle.circuit.specs.declared.gate.Gate.{Gate}
use Rattle.circuit.specs.Lent.{gate_count, register_count, signal_count, gate_in, circuit_in, drawn}
use Rattle.circuit.specs.Whole.{Small}
use Rattle.circuit.proofs.Joined.{small_gates, small_registers, small_times}
use Rattle.circuit.proofs.Filling.{filled_more}
use Rattle.circuit.proofs.LentLaws.{gates_in_length, gates_in_at, inputs_before}
use Rattle.circuit.proofs.Signals.{each_signal}
use Rattle.arrival.specs.declared.edge.Edge.{Edge}
use Rattle.arrival.specs.declared.edge.Edge.TheVariants.{Late, Early}
use Rattle.arrival.specs.Arrival.{delay, choose, gate_time, arrival}
use Rattle.arrival.specs.Lent.{source, time_of, OverSources, OverRegisters}
use Rattle.arrival.proofs.ArrivalLaws.{arrival_in, arrival_at, agrees}

-- the equation of a gate's time, over the numbers that are lent
pub arrival_lent : (e : Edge) (n : ℕ) (gates : List ℕ) → Sound (circuit_in n gates) → (s : ℕ → ℕ) (k : ℕ) → k < gate_count gates →
    arrival e (circuit_in n gates) s (n + k)
    ≡ gate_time e 0 (gate_in gates k) (arrival e (circuit_in n gates) s (gate_in gates k).one) (arrival e (circuit_in n gates) s (gate_in gates k).two)
arrival_lent e n gates sound s k h = rw (gates_in_at gates k h) at (arrival_at e (circuit_in n gates) sound s k (omega (arith, gates_in_length gates)))

-- a gate adds at most the largest number to the later of its inputs' times
adds_little : (e : Edge) (gates : List ℕ) (k a b : ℕ) → ((i : ℕ) → get_or gates i 0 ≤ 1000000) → choose e (a + delay e false (gate_in gates k)) (b + delay e true (gate_in gates k)) ≤ max a b + 1000000
adds_little Late gates k a b small = omega (arith, small (7 * k + 4), small (7 * k + 6))
adds_little Early gates k a b small = omega (arith, small (7 * k + 3), small (7 * k + 5))

-- no time is above the sources' bound and the largest number for each gate
pub bounded : (limit : ℕ) (e : Edge) (n : ℕ) (gates : List ℕ) → ((i : ℕ) → get_or gates i 0 ≤ 1000000) → Sound (circuit_in n gates) → (s : ℕ → ℕ) → ((i : ℕ) → i < n → s i ≤ limit) →
    (k : ℕ) → k < n + gate_count gates → arrival e (circuit_in n gates) s k ≤ limit + 1000000 * (k + 1 - n)
bounded limit e n gates small sound s sources k h = each_signal (circuit_in n gates) sound (λ k. arrival e (circuit_in n gates) s k ≤ limit + 1000000 * (k + 1 - n))
    (λ i h. omega (arith, arrival_in e (circuit_in n gates) sound s i h, sources i h))
    (λ k h p q.
    let l : k < gate_count gates = omega (arith, gates_in_length gates) in
    let b = inputs_before n gates sound k l in
    let p' = rw (gates_in_at gates k l) at p in
    let q' = rw (gates_in_at gates k l) at q in
    omega (arith, arrival_lent e n gates sound s k l, adds_little e gates k (arrival e (circuit_in n gates) s (get_or gates (7 * k) 0)) (arrival e (circuit_in n gates) s (get_or gates (7 * k + 1) 0)) small))
    k (omega (arith, gates_in_length gates))

module _ (e : Edge) (n : ℕ) (gates : List ℕ) (few : gate_count gates ≤ 16384) (small : (i : ℕ) → get_or gates i 0 ≤ 1000000) (sound : Sound (circuit_in n gates))
    (before : List ℕ) (sources : (i : ℕ) → i < n → get_or before i 0 ≤ 2 ^ 63) where
  abbrev times : ℕ → ℕ
  times = arrival e (circuit_in n gates) (λ i. get_or before i 0)

  pub start : Filled 0 (n + 0) times before before
  start = record { filled = λ k h. sym (arrival_in e (circuit_in n gates) sound (λ i. get_or before i 0) k (omega arith)); rest = λ k h. refl }

  module _ (k : ℕ) (h : k < gate_count gates) (now : List ℕ) (sofar : Filled 0 (n + k) times before now) (gate : Gate) (is_gate : gate ≡ gate_in gates k) where
    pub ready : (get_or now gate.one 0 < 2 ^ 64 - 2 ^ 32) × (get_or now gate.two 0 < 2 ^ 64 - 2 ^ 32)
    ready =
        let b = inputs_before n gates sound k h in
        rw is_gate (
          omega (arith, sofar.filled _ b.0, bounded (2 ^ 63) e n gates small sound (λ i. get_or before i 0) sources (get_or gates (7 * k) 0) (omega arith)),
          omega (arith, sofar.filled _ b.1, bounded (2 ^ 63) e n gates small sound (λ i. get_or before i 0) sources (get_or gates (7 * k + 1) 0) (omega arith)),
        )

    pub turn : (v : ℕ) → n + k < length now → v ≡ gate_time e 0 gate (get_or now gate.one 0) (get_or now gate.two 0) → Filled 0 (n + (k + 1)) times before (set now (n + k) v)
    turn v room is =
        let b = inputs_before n gates sound k h in
        let a : n + k + 1 ≡ n + (k + 1) = omega arith in
        rw a at (filled_more sofar v room (is ∙ rw (is_gate, sofar.filled _ b.0, sofar.filled _ b.1) (sym (arrival_lent e n gates sound (λ i. get_or before i 0) k h))))

-- over the registers' own times: first those, then the gates'
pub over_registers : (e : Edge) (gates registers times before mid after : List ℕ) → Sound (drawn gates registers) →
    Filled 0 (register_count registers) (source e registers times) before mid → OverSources e (register_count registers) gates mid after → OverRegisters e gates registers times before after
over_registers e gates registers times before mid after sound first then = record {
  filled = λ k h. then.filled k h ∙ agrees e (drawn gates registers) (λ i. get_or mid i 0) (source e registers times) sound first.filled k (omega (arith, gates_in_length gates));
  rest = λ k h. then.rest k h ∙ first.rest k (omega arith);
}

-- no register's time is above twice the largest number
pub small_source : (e : Edge) (registers times : List ℕ) (r : ℕ) → ((i : ℕ) → get_or registers i 0 ≤ 1000000) → ((i : ℕ) → get_or times i 0 ≤ 1000000) → source e registers times r ≤ 2000000
small_source Late registers times r small_r small_t = omega (arith, small_r (3 * r + 2), small_t 2)
small_source Early registers times r small_r small_t = omega (arith, small_r (3 * r + 1), small_t 1)

-- the time of a whole circuit's signal takes few bits, so that sums and differences of some fit
pub time_small : (e : Edge) (gates registers times : List ℕ) → gate_count gates ≤ 16384 → ((p : ℕ) → Small gates registers times p) → Sound (drawn gates registers) →
    (k : ℕ) → k < signal_count gates registers → time_of e gates registers times k < 2 ^ 34
time_small e gates registers times few small sound k h =
    omega (
      arith,
      bounded 2000000 e (register_count registers) gates (small_gates gates registers times small) sound (source e registers times)
          (λ r l. small_source e registers times r (small_registers gates registers times small) (small_times gates registers times small)) k h,
    )
