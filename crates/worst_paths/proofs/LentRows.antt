-- AreRows over the numbers that are lent.
use Rattle.std.proofs.Common.{◌≡◌, ℕ, ◌+◌, ◌*◌, ◌^◌, ◌<◌, ◌≤◌, Bool, true, false, List, [], length, map, get_or, sym, ap, ◌∙◌, arith, Vec, Global, vec_items, Result, Ok, Err, IfOk}
use Rattle.std.proofs.lemmas.List.{get_or-map, length-map}
use Rattle.std.specs.List.{All}
use Rattle.circuit.specs.Checked.{of, gates_of, registers_of, signals_of}
use Rattle.circuit.specs.Lent.{gate_in}
use Rattle.circuit.specs.declared.circuit.Circuit as checked
use Rattle.circuit.specs.declared.gate.Gate.{Gate}
use Rattle.circuit.proofs.Known.{sound_of, gates_small}
use Rattle.circuit.proofs.LentLaws.{gates_in_length, gates_in_at}
use Rattle.arrival.specs.declared.edge.Edge.{Edge}
use Rattle.arrival.specs.declared.edge.Edge.TheVariants.{Late, Early}
use Rattle.arrival.specs.Arrival.{delay}
use Rattle.path.specs.Path.{input}
use Rattle.promise.specs.Machine.{machine_in, Formed}
use Rattle.promise.proofs.Lent.{formed_in}
use Rattle.worst_paths.specs.declared.entry.Entry.{Entry}
use Rattle.worst_paths.specs.Merge.{merge, second_of, offered}
use Rattle.worst_paths.specs.Entries.{IsEntry, IsRow, AreRows}
use Rattle.worst_paths.proofs.EntryLaws as entry

pub formed_of : (c : checked.Circuit) → Formed (of c machine_in)
formed_of c = formed_in c.gates.now c.registers.now c.times.now c.placed c.ranged c.tied c.ordered

pub delay_small : (e : Edge) (c : checked.Circuit) (k : ℕ) (second : Bool) → delay e second (gate_in c.gates.now k) ≤ 1000000
delay_small Late c k false = gates_small c (7 * k + 4)
delay_small Late c k true = gates_small c (7 * k + 6)
delay_small Early c k false = gates_small c (7 * k + 3)
delay_small Early c k true = gates_small c (7 * k + 5)

module _ (e : Edge) (c : checked.Circuit) (k : ℕ) where
  -- a row that is looked up
  pub row_at : (n j : ℕ) (rows : List (Vec Entry Global)) (v : Vec Entry Global) → AreRows e (of c machine_in) k n (map vec_items rows) → j < n → v ≡ get_or rows j v → IsRow e (of c machine_in) k j (vec_items v)
  row_at n j rows v (len, each) h is =
      let inside : j < length rows = omega (arith, length-map rows vec_items) in
      let at : get_or (map vec_items rows) j [] ≡ vec_items (get_or rows j v) = get_or-map vec_items rows j v [] inside in
      let same : get_or (map vec_items rows) j [] ≡ vec_items v = at ∙ ap vec_items (sym is) in
      rw same at (each j h)

  -- no time in it overflows
  pub row_small : (j d : ℕ) (xs : List Entry) → IsRow e (of c machine_in) k j xs → j < signals_of c → d ≤ 1000000 → All (λ x. x.time + d < 2 ^ 64) xs
  row_small j d xs row h small = entry.zip_all (IsEntry e (of c machine_in) k j) (λ x. x.time + d < 2 ^ 64) (λ x w keeps. let s = keeps.small in let f = c.few in let r = c.some.1 in omega arith) xs _ row

  pub one_gate : (g : ℕ) (gate : Gate) (d1 d2 : ℕ) (xs ys : List Entry) → g < gates_of c → gate ≡ gate_in c.gates.now g → d1 ≡ delay e false gate → d2 ≡ delay e true gate →
      IsRow e (of c machine_in) k gate.one xs → IsRow e (of c machine_in) k gate.two ys →
      IsRow e (of c machine_in) k (registers_of c + g) (merge (second_of e) k (offered 0 d1 0 xs) (offered 1 d2 0 ys))
  one_gate g gate d1 d2 xs ys h is d1_is d2_is one two =
      let at = is ∙ sym (gates_in_at c.gates.now g h) in
      entry.gate_row e (of c machine_in) k (sound_of c) g d1 d2 xs ys (omega (arith, gates_in_length c.gates.now))
      (d1_is ∙ ap (delay e false) at) (d2_is ∙ ap (delay e true) at)
      (rw (d1_is, is) (delay_small e c g false)) (rw (d2_is, is) (delay_small e c g true))
      (rw at at one) (rw at at two)

  -- the input of a gate comes before it
  pub input_before : (g : ℕ) (gate : Gate) (b : Bool) → g < gates_of c → gate ≡ gate_in c.gates.now g → input b gate < registers_of c + g
  input_before g gate false h is = rw is (c.placed g h).0
  input_before g gate true h is = rw is (c.placed g h).1

  -- its row
  pub input_row : (g : ℕ) (gate : Gate) (b : Bool) (rows : List (Vec Entry Global)) (v : Vec Entry Global) → g < gates_of c → gate ≡ gate_in c.gates.now g →
      AreRows e (of c machine_in) k (registers_of c + g) (map vec_items rows) → v ≡ get_or rows (input b gate) v → IsRow e (of c machine_in) k (input b gate) (vec_items v)
  input_row g gate b rows v h is all at = row_at (registers_of c + g) (input b gate) rows v all (input_before g gate b h is) at

  -- no time in it overflows
  pub input_small : (g : ℕ) (gate : Gate) (b : Bool) (d : ℕ) (xs : List Entry) → g < gates_of c → gate ≡ gate_in c.gates.now g → d ≡ delay e b gate →
      IsRow e (of c machine_in) k (input b gate) xs → All (λ x. x.time + d < 2 ^ 64) xs
  input_small g gate b d xs h is d_is row =
      let before = input_before g gate b h is in
      row_small (input b gate) d xs row (omega arith) (rw (d_is, is) (delay_small e c g b))

pub if_ok : {T E : Type 0} (P Q : T → Type 0) (r : Result T E) → ((v : T) → P v → Q v) → IfOk r P → IfOk r Q
if_ok P Q (Ok v) f p = f v p
if_ok P Q (Err x) f p = tt
