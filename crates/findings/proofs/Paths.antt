-- No path is longer than the longest.
use Rattle.std.proofs.Common.{ℕ, ◌≤◌, List, length, arith}
use Rattle.circuit.specs.Circuit.{Sound}
use Rattle.circuit.specs.Lent.{register_count, drawn}
use Rattle.circuit.specs.Whole.{Whole}
use Rattle.path.specs.Path.{Steps, Leads, written}
use Rattle.path.proofs.Telling.{none_longer}
use Rattle.path.proofs.Writing.{written_length}
use Rattle.circuit.proofs.LentLaws.{gates_in_length, sound_in}

module _ (g r t : List ℕ) (whole : Whole g r t) where
  pub sound : Sound (drawn g r)
  sound = sound_in (register_count r) g whole.placed whole.ranged

  -- a path is no longer than the longest
  pub path_short : (i : ℕ) (p : Steps) (k : ℕ) → Leads (drawn g r) i p k → length (written (register_count r) (i, p)) ≤ 32769
  path_short i p k leads =
      let few = none_longer (drawn g r) sound i p k leads in
      omega (arith, few, written_length (register_count r) p, whole.gates_few, gates_in_length g)
