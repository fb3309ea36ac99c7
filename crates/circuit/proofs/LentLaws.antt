-- The circuit of numbers that are lent.
use Rattle.std.proofs.Common.{◌≡◌, ℕ, ◌+◌, ◌*◌, ◌<◌, ◌≤◌, List, length, get_or, arith}
use Rattle.std.proofs.lemmas.List.FromFn.{length-map-range_with_len, get_or-map-range_with_len}
use Rattle.circuit.specs.Gate.{no_gate}
use Rattle.circuit.specs.Circuit.{Sound}
use Rattle.circuit.specs.Lent.{gate_count, gate_in, gates_in, circuit_in}
use Rattle.circuit.specs.Whole.{Placed, Ranged}

pub gates_in_length : (xs : List ℕ) → length (gates_in xs) ≡ gate_count xs
unfolding gates_in
gates_in_length xs = length-map-range_with_len (gate_in xs) 0 (gate_count xs)

pub gates_in_at : (xs : List ℕ) (k : ℕ) → k < gate_count xs → get_or (gates_in xs) k no_gate ≡ gate_in xs k
unfolding gates_in
gates_in_at xs k h = get_or-map-range_with_len (gate_in xs) 0 (gate_count xs) k k no_gate h (omega arith)

-- gates that are placed and ranged make a sound circuit
pub sound_in : (n : ℕ) (gates : List ℕ) → ((k : ℕ) → k < gate_count gates → Placed n gates k) → ((k : ℕ) → k < gate_count gates → Ranged gates k) → Sound (circuit_in n gates)
sound_in n gates placed ranged = record {
  before = λ k h.
      let l : k < gate_count gates = omega (arith, gates_in_length gates) in
      rw (gates_in_at gates k l) ((placed k l).0, (placed k l).1);
  ranges = λ k h.
      let l : k < gate_count gates = omega (arith, gates_in_length gates) in
      rw (gates_in_at gates k l) (ranged k l);
}

-- a gate's inputs come before it
pub inputs_before : (n : ℕ) (gates : List ℕ) → Sound (circuit_in n gates) → (k : ℕ) → k < gate_count gates → (get_or gates (7 * k) 0 < n + k) × (get_or gates (7 * k + 1) 0 < n + k)
inputs_before n gates sound k h = rw (gates_in_at gates k h) at (sound.before k (omega (arith, gates_in_length gates)))

-- and over more sources
pub sound_over : (m n : ℕ) (gates : List ℕ) → m ≤ n → ((k : ℕ) → k < gate_count gates → Placed m gates k) → ((k : ℕ) → k < gate_count gates → Ranged gates k) → Sound (circuit_in n gates)
sound_over m n gates le placed ranged =
    sound_in n gates (λ k h. let p = placed k h in (omega (arith, p.0), omega (arith, p.1), p.2)) ranged
