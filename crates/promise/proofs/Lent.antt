-- The machine of lent numbers that are a circuit is well formed.
use Rattle.std.proofs.Common.{ℕ, ◌<◌, List, refl, arith}
use Rattle.circuit.specs.Lent.{gate_count, register_count, signal_count}
use Rattle.circuit.specs.Whole.{Placed, Ranged, Tied, OutputOrdered}
use Rattle.circuit.proofs.LentLaws.{gates_in_length, sound_in}
use Rattle.promise.specs.Machine.{machine_in, Formed}

pub formed_in : (g r t : List ℕ) → ((k : ℕ) → k < gate_count g → Placed (register_count r) g k) → ((k : ℕ) → k < gate_count g → Ranged g k) →
    ((q : ℕ) → q < register_count r → Tied (signal_count g r) r q) → OutputOrdered t → Formed (machine_in g r t)
formed_in g r t placed ranged tied ordered = record {
  sources = refl;
  sound = sound_in _ _ placed ranged;
  taken = λ q h. omega (arith, (tied q h).0, gates_in_length g);
  clocked = λ q h. (tied q h).1;
  output_ordered = ordered;
}
