-- Rows have the first paths: those of a source, and those of a gate from those of its inputs.
use Rattle.std.proofs.Common.{◌≡◌, ℕ, zero, suc, ◌+◌, ◌<◌, ◌≤◌, Bool, true, false, cond, List, [], ◌∷◌, ◌++◌, length, map, get_or, refl, ap, ap₂, inl, inr, arith}
use Rattle.std.proofs.lemmas.Bool.{cases_Bool, cases_lt}
use Rattle.std.proofs.lemmas.List.{length-append, get_or_append_left, get_or_at}
use Rattle.std.specs.List.{AllZip, All}
use Rattle.circuit.specs.Circuit.{gate, Sound}
use Rattle.arrival.specs.declared.edge.Edge.{Edge}
use Rattle.arrival.specs.Arrival.{delay}
use Rattle.path.specs.Path.{input, sum, by_second}
use Rattle.promise.specs.Machine.{Machine}
use Rattle.worst_paths.specs.declared.entry.Entry.{Entry}
use Rattle.worst_paths.specs.Merge.{merge, second_of, offered}
use Rattle.worst_paths.specs.WorstPaths.{launch_time}
use Rattle.worst_paths.specs.FirstPaths.{extended, time, second, paths_to, capture_clock, shifted_arrival, ending_at, second_is_worse, register_paths}
use Rattle.worst_paths.specs.Entries.{no_path, IsEntry, IsRow, AreRows, IsEndEntry}
use Rattle.worst_paths.proofs.FirstPathLaws.{first_paths_in, first_paths_at}

pub zip_length : {A B : Type 0} (R : A → B → Type 0) (xs : List A) (ys : List B) → AllZip R xs ys → length xs ≡ length ys
zip_length R [] [] z = refl
zip_length R [] (y ∷ ys) z = absurd z
zip_length R (x ∷ xs) [] z = absurd z
zip_length R (x ∷ xs) (y ∷ ys) z = ap suc (zip_length R xs ys z.1)

pub zip_at : {A B : Type 0} (R : A → B → Type 0) (xs : List A) (ys : List B) (d : A) (e : B) (i : ℕ) → AllZip R xs ys → i < length ys → R (get_or xs i d) (get_or ys i e)
zip_at R [] [] d e i z h = absurd (omega arith)
zip_at R [] (y ∷ ys) d e i z h = absurd z
zip_at R (x ∷ xs) [] d e i z h = absurd z
zip_at R (x ∷ xs) (y ∷ ys) d e zero z h = z.0
zip_at R (x ∷ xs) (y ∷ ys) d e (suc i) z h = zip_at R xs ys d e i z.1 (omega arith)

-- lists that keep two others, together keep those together
pub zip_merge : {A B : Type 0} (R : A → B → Type 0) (f : A → A → Bool) (g : B → B → Bool) → ((x y : A) (u v : B) → R x u → R y v → f x y ≡ g u v) →
    (k : ℕ) (xs ys : List A) (us vs : List B) → AllZip R xs us → AllZip R ys vs → AllZip R (merge f k xs ys) (merge g k us vs)
unfolding merge
zip_merge R f g same zero xs ys us vs a b = tt
zip_merge R f g same (suc k) [] [] [] [] a b = tt
zip_merge R f g same (suc k) [] [] [] (v ∷ vs) a b = absurd b
zip_merge R f g same (suc k) [] [] (u ∷ us) vs a b = absurd a
zip_merge R f g same (suc k) [] (y ∷ ys) us [] a b = absurd b
zip_merge R f g same (suc k) [] (y ∷ ys) [] (v ∷ vs) a b = (b.0, zip_merge R f g same k [] ys [] vs a b.1)
zip_merge R f g same (suc k) [] (y ∷ ys) (u ∷ us) (v ∷ vs) a b = absurd a
zip_merge R f g same (suc k) (x ∷ xs) ys [] vs a b = absurd a
zip_merge R f g same (suc k) (x ∷ xs) [] (u ∷ us) [] a b = (a.0, zip_merge R f g same k xs [] us [] a.1 b)
zip_merge R f g same (suc k) (x ∷ xs) [] (u ∷ us) (v ∷ vs) a b = absurd b
zip_merge R f g same (suc k) (x ∷ xs) (y ∷ ys) (u ∷ us) [] a b = absurd b
zip_merge R f g same (suc k) (x ∷ xs) (y ∷ ys) (u ∷ us) (v ∷ vs) a b =
    let one = same x y u v a.0 b.0 in
    elim (cases_Bool (g u v)) [
      | inl t ↦ rw (one, t) (b.0, zip_merge R f g same k (x ∷ xs) ys (u ∷ us) vs a b.1)
      | inr t ↦ rw (one, t) (a.0, zip_merge R f g same k xs (y ∷ ys) us (v ∷ vs) a.1 b)
    ]

-- what is offered keeps what f makes of what the row keeps, if that is so at each rank
pub zip_offer : {B C : Type 0} (R : Entry → B → Type 0) (Q : Entry → C → Type 0) (f : B → C) (by d i : ℕ) (all : List B) (e : B) →
    ((x : Entry) (n : ℕ) → n < length all → R x (get_or all n e) → Q (record { time = x.time + d; by = by; rank = n }) (f (get_or all n e))) →
    (xs : List Entry) (us : List B) → i + length us ≤ length all → ((n : ℕ) → n < length us → get_or us n e ≡ get_or all (i + n) e) → AllZip R xs us →
    AllZip Q (offered by d i xs) (map f us)
unfolding offered
zip_offer R Q f by d i all e each [] [] h same z = tt
zip_offer R Q f by d i all e each [] (u ∷ us) h same z = absurd z
zip_offer R Q f by d i all e each (x ∷ xs) [] h same z = absurd z
zip_offer R Q f by d i all e each (x ∷ xs) (u ∷ us) h same z =
    let here : u ≡ get_or all i e = let z : i + 0 ≡ i = omega arith in rw z at (same 0 (omega arith)) in (
      rw here (each x i (omega arith) (rw here at z.0)),
      zip_offer R Q f by d (suc i) all e each xs us (omega arith) (λ n l. let a : suc i + n ≡ i + suc n = omega arith in rw a (same (suc n) (omega arith))) z.1,
    )

pub zip_offered : {B C : Type 0} (R : Entry → B → Type 0) (Q : Entry → C → Type 0) (f : B → C) (by d : ℕ) (e : B) (xs : List Entry) (us : List B) →
    ((x : Entry) (n : ℕ) → n < length us → R x (get_or us n e) → Q (record { time = x.time + d; by = by; rank = n }) (f (get_or us n e))) →
    AllZip R xs us → AllZip Q (offered by d 0 xs) (map f us)
zip_offered R Q f by d e xs us each z = zip_offer R Q f by d 0 us e each xs us (omega arith) (λ n l. let a : 0 + n ≡ n = omega arith in rw a) z

-- every time in a row is as small as its signal's number allows
pub zip_all : {B : Type 0} (R : Entry → B → Type 0) (P : Entry → Type 0) → ((x : Entry) (w : B) → R x w → P x) → (xs : List Entry) (us : List B) → AllZip R xs us → All P xs
zip_all R P each [] us z = λ j d h. absurd (omega arith)
zip_all R P each (x ∷ xs) [] z = absurd z
zip_all R P each (x ∷ xs) (u ∷ us) z = go (zip_all R P each xs us z.1)
  where
    go : All P xs → All P (x ∷ xs)
    go more zero d h = each x u z.0
    go more (suc j) d h = more j d (omega arith)

module _ (e : Edge) (m : Machine) (k : ℕ) (sound : Sound m.circuit) where
  abbrev s : ℕ → ℕ
  s = launch_time e m

  pub source_row : (i : ℕ) → i < m.circuit.inputs → (t : ℕ) → t ≡ s i → t ≤ 2000000 → IsRow e m k i (record { time = t; by = 0; rank = 0 } ∷ [])
  unfolding sum
  source_row i h t is small = rw (first_paths_in e m.circuit s sound k i h) (
    record {
      is_time = omega arith;
      small = omega arith;
      by_gate = λ g q. absurd (omega arith);
    },
    tt,
  )

  -- what an input offers to its gate
  offers : (g : ℕ) (b : Bool) (by d : ℕ) (xs : List Entry) → by ≡ cond b 1 0 → d ≡ delay e b (gate m.circuit g) → d ≤ 1000000 → input b (gate m.circuit g) < m.circuit.inputs + g →
      IsRow e m k (input b (gate m.circuit g)) xs → AllZip (IsEntry e m k (m.circuit.inputs + g)) (offered by d 0 xs) (map (extended g b) (paths_to e m k (input b (gate m.circuit g))))
  unfolding sum
  offers g b by d xs by_is d_is small before row =
      zip_offered (IsEntry e m k (input b (gate m.circuit g))) (IsEntry e m k (m.circuit.inputs + g)) (extended g b) by d no_path xs (paths_to e m k (input b (gate m.circuit g)))
      (λ x n h keeps. record {
        is_time = let q = keeps.is_time in omega arith;
        small = let q = keeps.small in omega arith;
        by_gate = λ f q. let same : f ≡ g = omega arith in rw same (record { second = b; by = by_is; inside = h; is = refl });
      })
      row

  pub gate_row : (g d1 d2 : ℕ) (xs ys : List Entry) → g < length m.circuit.gates → d1 ≡ delay e false (gate m.circuit g) → d2 ≡ delay e true (gate m.circuit g) →
      d1 ≤ 1000000 → d2 ≤ 1000000 → IsRow e m k (gate m.circuit g).one xs → IsRow e m k (gate m.circuit g).two ys →
      IsRow e m k (m.circuit.inputs + g) (merge (second_of e) k (offered 0 d1 0 xs) (offered 1 d2 0 ys))
  gate_row g d1 d2 xs ys h d1_is d2_is small1 small2 one two =
      rw (first_paths_at e m.circuit s sound k g h)
      (zip_merge (IsEntry e m k (m.circuit.inputs + g)) (second_of e) (second e m.circuit s) (λ x y u v a b. ap₂ (by_second e) a.is_time b.is_time) k _ _ _ _
      (offers g false 0 d1 xs refl d1_is small1 (sound.before g h).0 one)
      (offers g true 1 d2 ys refl d2_is small2 (sound.before g h).1 two))

  -- what a signal offers to a register that takes it
  pub end_row : (r d : ℕ) (acc xs : List Entry) → r < m.registers → d + capture_clock e m r ≡ 1000000 →
      AllZip (IsEndEntry e m k) acc (register_paths e m 1000000 k r) → IsRow e m k (m.takes r) xs → AllZip (IsEndEntry e m k) (merge (second_of e) k acc (offered r d 0 xs)) (register_paths e m 1000000 k (suc r))
  unfolding register_paths
  end_row r d acc xs h d_is sofar row =
      zip_merge (IsEndEntry e m k) (second_of e) (second_is_worse e m 1000000) (λ x y u v a b. ap₂ (by_second e) a.is_time b.is_time) k _ _ _ _ sofar
      (zip_offered (IsEntry e m k (m.takes r)) (IsEndEntry e m k) (ending_at r) r d no_path xs (paths_to e m k (m.takes r))
      (λ x n l keeps. record {
        is_time = time_at_end x n keeps.is_time;
        below = h;
        inside = l;
        is = refl;
      })
      row)
    where
      time_at_end : (x : Entry) (n : ℕ) → x.time ≡ time e m.circuit s (get_or (paths_to e m k (m.takes r)) n no_path) →
          x.time + d ≡ shifted_arrival e m 1000000 (ending_at r (get_or (paths_to e m k (m.takes r)) n no_path))
      time_at_end x n is = omega arith

-- one row more
pub rows_more : (e : Edge) (m : Machine) (k n : ℕ) (rows : List (List Entry)) (row : List Entry) → AreRows e m k n rows → IsRow e m k n row → AreRows e m k (n + 1) (rows ++ (row ∷ []))
rows_more e m k n rows row (len, each) last = (
  omega (arith, length-append rows (row ∷ [])),
  λ j h. elim (cases_lt j n) [
    | inl l ↦ let at = get_or_append_left rows (row ∷ []) [] j (omega arith) in rw at (each j l)
    | inr g ↦ let same : j ≡ n = omega arith in let at = get_or_at rows row [] [] n len in rw (same, at) last
  ],
)
