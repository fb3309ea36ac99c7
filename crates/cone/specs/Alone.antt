-- What is found of one register alone, and what is known on the way there.
use Rattle.std.specs.Prelude.{◌≡◌, ℕ, ◌+◌, ◌<◌, ◌≤◌, ◌↔◌, Bool, true, false, List, ℤ, pos, ◌-ℤ◌, ◌≤ℤ◌, ◌<ℤ◌, Ok, Err, Result, slice_index, slice_index_or}
use Rattle.circuit.specs.Lent.{gate_count, register_count, signal_count, gate_in, drawn, takes}
use Rattle.arrival.specs.declared.edge.Edge.{Edge}
use Rattle.arrival.specs.declared.edge.Edge.TheVariants.{Late, Early}
use Rattle.arrival.specs.Lent.{time_of}
use Rattle.path.specs.Path.{PathTold}
use Rattle.promise.specs.Machine.{machine_in}
use Rattle.signoff.specs.Verdict.{SumsOf}
use Rattle.slack.specs.Margin.{margin_of}
use Rattle.cone.specs.Cone.{InCone}
use Rattle.cone.specs.declared.endpoint.Endpoint.{Endpoint}
use Rattle.cone.specs.declared.endpoint.RegisterReport.{RegisterReport}
use Rattle.cone.specs.declared.endpoint.RegisterError.{RegisterError}
use Rattle.cone.specs.declared.endpoint.RegisterError.TheVariants.{NoRegister}
use Rattle.cone.specs.declared.endpoint.Word.{Word}
use Rattle.cone.specs.declared.endpoint.Word.TheVariants as word

-- how much lies between the two sums of a register
abbrev pub margin_between : Edge → (arrival limit : ℕ) → ℤ
margin_between Late arrival limit = pos limit -ℤ pos arrival
margin_between Early arrival limit = pos arrival -ℤ pos limit -ℤ pos 1

-- the word on a register with these margins: neither is below 0; or the setup margin is; or only the hold margin is
abbrev pub IsWord : (setup hold : ℤ) → Word → Type 0
IsWord setup hold word.Met = (pos 0 ≤ℤ setup) × (pos 0 ≤ℤ hold)
IsWord setup hold word.TooLate = setup <ℤ pos 0
IsWord setup hold word.TooEarly = (pos 0 ≤ℤ setup) × (hold <ℤ pos 0)

module _ (gates registers times : List ℕ) where
  -- just the signals in the fan-in cone of signal `to` are marked
  abbrev pub IsMarked : (to : ℕ) → List Bool → Type 0
  IsMarked to marks = (k : ℕ) → k < signal_count gates registers → (slice_index_or marks k false ≡ true) ↔ InCone (drawn gates registers) to k

  -- both inputs of each marked gate are marked
  abbrev pub HasInputs : List Bool → Type 0
  HasInputs marks =
      (k : ℕ) → k < gate_count gates → slice_index_or marks (register_count registers + k) false ≡ true →
      (slice_index_or marks (gate_in gates k).one false ≡ true) × (slice_index_or marks (gate_in gates k).two false ≡ true)

  -- `found` has the latest or the earliest time of each marked signal below n
  abbrev pub KnowsMarked : Edge → List Bool → (n : ℕ) (found : List ℕ) → Type 0
  KnowsMarked e marks n found = (k : ℕ) → k < n → slice_index_or marks k false ≡ true → slice_index found k ≡ time_of e gates registers times k

  -- the same of each signal in the cone of signal `to`
  abbrev pub KnowsCone : Edge → (to : ℕ) (found : List ℕ) → Type 0
  KnowsCone e to found = (k : ℕ) → k < signal_count gates registers → InCone (drawn gates registers) to k → slice_index found k ≡ time_of e gates registers times k

  -- and of both inputs of gate k
  abbrev pub KnowsInputs : Edge → (k : ℕ) (found : List ℕ) → Type 0
  KnowsInputs e k found =
      (slice_index found (gate_in gates k).one ≡ time_of e gates registers times (gate_in gates k).one)
      × (slice_index found (gate_in gates k).two ≡ time_of e gates registers times (gate_in gates k).two)

  -- what is told of register r for setup or for hold is what is told of the whole circuit: the two sums, the margin, and the path
  -- by which the time of its signal is reached, which the lent room begins with
  pub record IsEndpoint (e : Edge) (r : ℕ) (x : Endpoint) (before after : List ℕ) : Type 0 where
    pub sums : SumsOf gates registers times e r x.arrival x.limit
    pub margin : x.margin ≡ margin_of e (machine_in gates registers times) r
    pub path : PathTold e gates registers times (takes registers r) x.path before after

  -- all that is found of register r; or there is no such register, and the lent rooms are as they were
  abbrev pub IsReport : (r : ℕ) (setup_before setup_after hold_before hold_after : List ℕ) → Result RegisterReport RegisterError → Type 0
  IsReport r setup_before setup_after hold_before hold_after (Ok x) =
      (r < register_count registers) × IsWord x.setup.margin x.hold.margin x.word × IsEndpoint Late r x.setup setup_before setup_after × IsEndpoint Early r x.hold hold_before hold_after
  IsReport r setup_before setup_after hold_before hold_after (Err e) =
      (register_count registers ≤ r) × (e ≡ NoRegister r) × (setup_after ≡ setup_before) × (hold_after ≡ hold_before)
