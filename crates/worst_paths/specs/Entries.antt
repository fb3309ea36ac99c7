-- The entries of rows: of each signal a row has one entry for each of the signal's first k paths.
use Rattle.std.specs.Prelude.{◌≡◌, ℕ, ◌+◌, ◌*◌, ◌<◌, ◌≤◌, Bool, cond, List, [], length, slice_index_or}
use Rattle.std.specs.List.{AllZip}
use Rattle.circuit.specs.Circuit.{gate}
use Rattle.arrival.specs.declared.edge.Edge.{Edge}
use Rattle.path.specs.Path.{input}
use Rattle.promise.specs.Machine.{Machine}
use Rattle.worst_paths.specs.declared.entry.Entry.{Entry}
use Rattle.worst_paths.specs.WorstPaths.{RegisterPath, launch_time}
use Rattle.worst_paths.specs.FirstPaths.{SignalPath, extended, time, paths_to, shifted_arrival, ending_at}

abbrev pub no_path : SignalPath
no_path = (0, [])

module _ (e : Edge) (m : Machine) (k : ℕ) where
  -- the path to signal j that stands at the rank of an entry
  abbrev pub ranked : ℕ → Entry → SignalPath
  ranked j x = slice_index_or (paths_to e m k j) x.rank no_path

  -- an entry says by which input of gate g the path p comes, and at which rank its beginning stands in the row there
  pub record ByGate (g : ℕ) (x : Entry) (p : SignalPath) : Type 0 where
    pub second : Bool
    pub by : x.by ≡ cond second 1 0
    pub inside : x.rank < length (paths_to e m k (input second (gate m.circuit g)))
    pub is : p ≡ extended g second (ranked (input second (gate m.circuit g)) x)

  -- an entry of signal j for the path p: its time, which is small, and where it comes from
  pub record IsEntry (j : ℕ) (x : Entry) (p : SignalPath) : Type 0 where
    pub is_time : x.time ≡ time e m.circuit (launch_time e m) p
    pub small : x.time ≤ 1000000 * (j + 2)
    pub by_gate : (g : ℕ) → j ≡ m.circuit.inputs + g → ByGate g x p

  -- a row of signal j
  abbrev pub IsRow : ℕ → List Entry → Type 0
  IsRow j xs = AllZip (IsEntry j) xs (paths_to e m k j)

  -- the rows of the first n signals
  abbrev pub AreRows : ℕ → List (List Entry) → Type 0
  AreRows n rows = (length rows ≡ n) × ((j : ℕ) → j < n → IsRow j (slice_index_or rows j []))

  -- an entry for the path p that ends at a register: which register, and at which rank it stands in the row of the
  -- register's signal
  pub record IsEndEntry (x : Entry) (p : RegisterPath) : Type 0 where
    pub is_time : x.time ≡ shifted_arrival e m 1000000 p
    pub below : x.by < m.registers
    pub inside : x.rank < length (paths_to e m k (m.takes x.by))
    pub is : p ≡ ending_at x.by (ranked (m.takes x.by) x)
