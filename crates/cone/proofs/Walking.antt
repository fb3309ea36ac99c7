-- The way back along a path stays in the fan-in cone.
use Rattle.std.proofs.Common.{◌≡◌, ℕ, ◌+◌, ◌-◌, ◌<◌, ◌≤◌, ◌*◌, Bool, List, length, arith}
use Rattle.circuit.specs.Checked.{of, gates_of, registers_of, signals_of}
use Rattle.circuit.specs.Lent.{gate_in}
use Rattle.circuit.specs.declared.circuit.Circuit as checked
use Rattle.circuit.proofs.Known.{sound_of}
use Rattle.arrival.specs.declared.edge.Edge.{Edge}
use Rattle.path.specs.Path.{input, told_path, written, BeginsWith, PathTold}
use Rattle.path.proofs.Telling.{told_lent_first, told_lent_fits}
use Rattle.path.proofs.Writing.{written_length}
use Rattle.cone.specs.Cone.{InCone}
use Rattle.cone.proofs.Marking.{wires, back}

-- a signal past the registers is that of a gate
pub cone_here : (c : checked.Circuit) (to at n : ℕ) → n ≡ registers_of c → n ≤ at → at < signals_of c → InCone (wires c) to at →
    (at - n < gates_of c) × InCone (wires c) to (registers_of c + (at - n))
cone_here c to at n is past inside on =
    let e : registers_of c + (at - n) ≡ at = omega arith in
    (omega arith, rw e on)

-- and the signal at the input that is stepped back by is in the cone too
pub cone_back : (c : checked.Circuit) (to : ℕ) → to < signals_of c → (k : ℕ) (second : Bool) (from : ℕ) → k < gates_of c → InCone (wires c) to (registers_of c + k) →
    from ≡ input second (gate_in c.gates.now k) → InCone (wires c) to from
cone_back c to inside k second from h on is = rw is (back c to inside k second h on)

-- the path has as many numbers as are written
pub path_length : (e : Edge) (c : checked.Circuit) (to count : ℕ) → count ≡ length (told_path e c to).1 → 1 + 2 * count ≡ length (written (registers_of c) (told_path e c to))
path_length e c to count is = let l = written_length (registers_of c) (told_path e c to).1 in omega (arith, is)

pub path_fits : (e : Edge) (c : checked.Circuit) (to : ℕ) → to < signals_of c → length (told_path e c to).1 ≤ gates_of c
path_fits e c to inside = told_lent_fits e c.gates.now c.registers.now c.times.now (sound_of c) to inside

-- and is the one that is told
pub path_is : (e : Edge) (c : checked.Circuit) (to count : ℕ) (before after : List ℕ) → to < signals_of c → count ≡ length (told_path e c to).1 → 1 + 2 * gates_of c ≤ length before →
    BeginsWith (written (registers_of c) (told_path e c to)) before after → of c (PathTold e) to (1 + 2 * count) before after
path_is e c to count before after inside is room begins = (
  (told_path e c to).0,
  (told_path e c to).1,
  told_lent_first e c.gates.now c.registers.now c.times.now (sound_of c) to inside,
  path_length e c to count is,
  omega (arith, path_fits e c to inside),
  begins,
)
