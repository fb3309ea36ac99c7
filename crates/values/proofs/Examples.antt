-- For examples: what holds of each number below n, written out; numbers that are a circuit; a gate with given delays.
use Rattle.std.proofs.Common.{◌≡◌, ℕ, zero, suc, ◌-◌, ◌<◌, ◌≤◌, List, length, get_or, arith}
use Rattle.circuit.specs.Gate.{output}
use Rattle.circuit.specs.declared.gate.Gate.{Gate}
use Rattle.circuit.specs.Lent.{gate_count, register_count, signal_count}
use Rattle.circuit.specs.Whole.{Whole, Shaped, SomeRegisters, FewGates, Placed, Ranged, Tied, OutputOrdered}
use Rattle.circuit.proofs.Joined.{all_small}
use Rattle.arrival.specs.Window.{Wave, Follows}
use Rattle.promise.specs.Machine.{machine_in, Formed}
use Rattle.promise.proofs.Lent.{formed_in}

abbrev pub Every : ℕ → (ℕ → Type 0) → Type 0
Every zero P = Unit {0}
Every (suc n) P = P 0 × Every n (λ k. P (suc k))

pub each : (n : ℕ) (P : ℕ → Type 0) → Every n P → (k : ℕ) → k < n → P k
each zero P e k h = absurd (omega arith)
each (suc n) P e zero h = e.0
each (suc n) P e (suc k) h = each n (λ k. P (suc k)) e.1 k (omega arith)

abbrev pub EverySmall : List ℕ → Type 0
EverySmall xs = Every (length xs) (λ i. get_or xs i 0 ≤ 1000000)

-- all that makes numbers a circuit, number by number
abbrev pub Checked : (g r t : List ℕ) → Type 0
Checked g r t =
    (EverySmall g × EverySmall r × EverySmall t) × Shaped g r t × SomeRegisters r × FewGates g
    × Every (gate_count g) (Placed (register_count r) g) × Every (gate_count g) (Ranged g)
    × Every (register_count r) (Tied (signal_count g r) r) × OutputOrdered t

pub whole_by : (g r t : List ℕ) → Checked g r t → Whole g r t
whole_by g r t ((gates, registers, times), shaped, some, few, placed, ranged, tied, ordered) = record {
  shaped = shaped;
  registers_some = some;
  gates_few = few;
  small = all_small g r t (each _ _ gates) (each _ _ registers) (each _ _ times);
  placed = each _ _ placed;
  ranged = each _ _ ranged;
  tied = each _ _ tied;
  ordered = ordered;
}

pub formed_of : (g r t : List ℕ) → Whole g r t → Formed (machine_in g r t)
formed_of g r t whole = formed_in g r t whole.placed whole.ranged whole.tied whole.ordered

-- a gate follows its inputs at a moment with the delays d and e
pub follows : (g : Gate) (one two out : Wave) (t d e : ℕ) →
    (g.least_one ≤ d) × (d ≤ g.greatest_one) × (g.least_two ≤ e) × (e ≤ g.greatest_two) →
    out t ≡ output g.table (one (t - d)) (two (t - e)) → Follows g one two out t
follows g one two out t d e (one_least, one_greatest, two_least, two_greatest) is = record {
  delay_one = d;
  delay_two = e;
  one_least = one_least;
  one_greatest = one_greatest;
  two_least = two_least;
  two_greatest = two_greatest;
  is = is;
}
