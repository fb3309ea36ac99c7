-- A path, traced from its end to its source.
use Rattle.std.proofs.Common.{◌≡◌, ℕ, zero, suc, ◌+◌, ◌*◌, ◌<◌, ◌≤◌, Bool, true, false, cond, eqb, List, [], ◌∷◌, ◌++◌, length, map, reverse, get_or, take, sym, refl, ap, ◌∙◌, arith}
use Rattle.std.proofs.lemmas.List.{append_assoc, take_more, take_all, map-append}
use Rattle.std.specs.List.{AllZip}
use Rattle.circuit.specs.Circuit.{Sound, gate}
use Rattle.circuit.specs.Checked.{of, gates_of, registers_of}
use Rattle.circuit.specs.Lent.{gate_in}
use Rattle.circuit.specs.declared.circuit.Circuit as checked
use Rattle.circuit.specs.declared.gate.Gate.{Gate}
use Rattle.circuit.proofs.LentLaws.{gates_in_at}
use Rattle.circuit.proofs.Known.{registers_small}
use Rattle.arrival.specs.declared.edge.Edge.TheVariants.{Late, Early}
use Rattle.arrival.specs.declared.edge.Edge.{Edge}
use Rattle.path.specs.Path.{Steps, input}
use Rattle.promise.specs.Machine.{Machine, machine_in}
use Rattle.worst_paths.specs.declared.entry.Entry.{Entry}
use Rattle.worst_paths.specs.declared.timing_path.TimingPath.{TimingPath}
use Rattle.worst_paths.specs.WorstPaths.{RegisterPath, IsPath, launch_time, IsBefore, WorstPaths}
use Rattle.worst_paths.specs.FirstPaths.{SignalPath, extended, paths_to, capture_clock, ending_at, register_paths}
use Rattle.worst_paths.specs.Entries.{no_path, IsEntry, IsRow, IsEndEntry}
use Rattle.worst_paths.specs.Value.{step_of, path_of}
use Rattle.worst_paths.specs.declared.timing_path.Pin.{Pin}
use Rattle.std.proofs.lemmas.List.{reverse-reverse, reverse-append}
use Rattle.worst_paths.proofs.Firsts.{Firsts, firsts_are}
use Rattle.worst_paths.proofs.FirstPathLaws.{first_paths_in, register_paths_are_worst}
use Rattle.worst_paths.proofs.EntryLaws.{zip_at, zip_length}
use Rattle.worst_paths.proofs.LentRows.{formed_of}
use Rattle.worst_paths.specs.Offers.{no_entry}

-- steps that were traced before those of a path
abbrev pub joined : Steps → SignalPath → SignalPath
joined p x = (x.0, p ++ x.1)

-- one pin more
pub one_back : (pins : List Pin) (pin : Pin) (x : SignalPath) → joined (map step_of (pins ++ (pin ∷ []))) x ≡ joined (map step_of pins) (extended pin.gate pin.second x)
one_back pins pin x =
    ap (λ (q : Steps). let y : SignalPath = (x.0, q) in y)
    (ap (λ (q : Steps). q ++ x.1) (map-append step_of pins (pin ∷ [])) ∙ append_assoc (map step_of pins) ((pin.gate, pin.second) ∷ []) x.1)

map-reverse : {A B : Type 0} (f : A → B) (xs : List A) → map f (reverse xs) ≡ reverse (map f xs)
map-reverse f [] = refl
map-reverse {A} {B} f (x ∷ xs) =
    ap (map f) (reverse-append (x ∷ []) xs) ∙ map-append f (reverse xs) (x ∷ []) ∙ ap (λ (ys : List B). ys ++ (f x ∷ [])) (map-reverse f xs)
    ∙ sym (reverse-append (f x ∷ []) (map f xs))

-- the pins from the source on, as steps
pub pins_reversed : (pins all : List Pin) → all ≡ reverse pins → reverse (map step_of all) ≡ map step_of pins
pins_reversed pins all is = rw (is, map-reverse step_of pins) (reverse-reverse (map step_of pins))

-- at a source the path begins
pub at_source : (e : Edge) (m : Machine) (k at rank : ℕ) → Sound m.circuit → at < m.circuit.inputs → rank < length (paths_to e m k at) →
    get_or (paths_to e m k at) rank no_path ≡ (at, [])
at_source e m k at rank sound h inside =
    let is = first_paths_in e m.circuit (launch_time e m) sound k at h in
    let first : rank < 1 = rw is at inside in
    let zero_is : rank ≡ 0 = omega arith in
    rw (is, zero_is)

pub no_paths : (e : Edge) (m : Machine) → WorstPaths e m 0 []
unfolding Firsts
no_paths e m = firsts_are (IsBefore e m) (IsPath m) 0 [] refl

bit_back : (b : Bool) (x : ℕ) → x ≡ cond b 1 0 → eqb x 1 ≡ b
bit_back true x is = rw is
bit_back false x is = rw is

module _ (e : Edge) (c : checked.Circuit) (k : ℕ) where
  abbrev m : Machine
  m = of c machine_in

  -- what a row keeps at a rank
  pub entry_at : (j rank : ℕ) (xs : List Entry) (x : Entry) → IsRow e m k j xs → rank < length (paths_to e m k j) → x ≡ get_or xs rank x → IsEntry e m k j x (get_or (paths_to e m k j) rank no_path)
  entry_at j rank xs x row h is = rw (← is) at (zip_at (IsEntry e m k j) xs (paths_to e m k j) x no_path rank row h)

  pub step_back : (at rank g : ℕ) (x : Entry) (gate : Gate) (from : ℕ) → IsEntry e m k at x (get_or (paths_to e m k at) rank no_path) → at ≡ registers_of c + g → g < gates_of c →
      gate ≡ gate_in c.gates.now g → from ≡ input (eqb x.by 1) gate →
      (get_or (paths_to e m k at) rank no_path ≡ extended g (eqb x.by 1) (get_or (paths_to e m k from) x.rank no_path)) × (x.rank < length (paths_to e m k from))
  step_back at rank g x gate from keeps at_is h gate_is from_is =
      let by = keeps.by_gate g at_is in
      let bit = bit_back by.second x.by by.by in
      let here : from ≡ input by.second (gate_in c.gates.now g) = rw (gate_is, bit) at from_is in
      let same = gates_in_at c.gates.now g h in
      let inside = rw same at by.inside in
      let is = rw same at by.is in
      rw (bit, here) (is, inside)

-- those that are listed are the first n
abbrev pub Sofar : (all : List TimingPath) (ws : List RegisterPath) (n : ℕ) → Type 0
Sofar all ws n = map path_of all ≡ take n ws

pub listed_more : (all : List TimingPath) (f : TimingPath) (ws : List RegisterPath) (n : ℕ) (d : RegisterPath) → n < length ws → path_of f ≡ get_or ws n d → Sofar all ws n → Sofar (all ++ (f ∷ [])) ws (n + 1)
listed_more all f ws n d h is sofar = map-append path_of all (f ∷ []) ∙ rw (sofar, is) (sym (take_more ws n d h))

-- no clock's time is above the largest
within : (e : Edge) (c : checked.Circuit) (r : ℕ) → capture_clock e (of c machine_in) r ≤ 1000000
within Late c r = registers_small c (3 * r + 1)
within Early c r = registers_small c (3 * r + 2)

abbrev pub no_register_path : RegisterPath
no_register_path = ending_at 0 no_path

pub end_at : (e : Edge) (m : Machine) (k n : ℕ) (xs : List Entry) (ws : List RegisterPath) → AllZip (IsEndEntry e m k) xs ws → n < length xs → (n < length ws) × IsEndEntry e m k (get_or xs n no_entry) (get_or ws n no_register_path)
end_at e m k n xs ws z h =
    let inside : n < length ws = omega (arith, zip_length (IsEndEntry e m k) xs ws z) in
    (inside, zip_at (IsEndEntry e m k) xs ws no_entry no_register_path n z inside)

-- when all are listed they are the worst
pub all_listed : (e : Edge) (c : checked.Circuit) (k n : ℕ) (all : List TimingPath) (ends : List Entry) → 0 < k →
    AllZip (IsEndEntry e (of c machine_in) k) ends (register_paths e (of c machine_in) 1000000 k (registers_of c)) → length ends ≤ n → Sofar all (register_paths e (of c machine_in) 1000000 k (registers_of c)) n →
    WorstPaths e (of c machine_in) k (map path_of all)
all_listed e c zero n all ends some z h sofar = absurd (omega arith)
all_listed e c (suc k) n all ends some z h sofar =
    let whole : take n (register_paths e (of c machine_in) 1000000 (suc k) (registers_of c)) ≡ register_paths e (of c machine_in) 1000000 (suc k) (registers_of c) = take_all n _ (omega (arith, zip_length (IsEndEntry e (of c machine_in) (suc k)) ends _ z)) in
    rw (sofar, whole) (register_paths_are_worst e (of c machine_in) 1000000 (formed_of c) (λ r l. within e c r) k)
