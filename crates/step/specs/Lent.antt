-- What is told of one moment, as it is lent.
use Rattle.std.specs.Prelude.{◌≡◌, ℕ, suc, ◌<◌, ◌≤◌, Bool, false, ◌⊎◌, List, length, vec_items, slice_index_or}
use Rattle.circuit.specs.Checked.{gates_of, registers_of}
use Rattle.circuit.specs.declared.circuit.Circuit.{Circuit}
use Rattle.circuit.specs.declared.refusal.Refusal.{Refusal}
use Rattle.circuit.specs.declared.refusal.Refusal.TheVariants.{NoRoom}
use Rattle.promise.specs.Machine.{Machine}
use Rattle.simulation.specs.Simulated.{Told}
use Rattle.step.specs.declared.state.State.{State}
use Rattle.step.specs.declared.told.Clocks.{Clocks}
use Rattle.step.specs.declared.told.Delays.{Delays}
use Rattle.step.specs.declared.told.Now.{Now}

abbrev pub no_delays : Delays
no_delays = record { one = 0; two = 0 }

abbrev pub no_clocks : Clocks
no_clocks = record { cycle = 0; clock = 0; next = 0; after = 0; take = false }

-- the delays of gate k, and what register q is told
abbrev pub delays_at : List Delays → ℕ → Delays
delays_at xs k = slice_index_or xs k no_delays

abbrev pub clocks_at : List Clocks → ℕ → Clocks
clocks_at xs q = slice_index_or xs q no_clocks

module _ (m : Machine) (x : Told) (t : ℕ) where
  -- each gate's two delays of moment t
  pub record TellsGates (delays : List Delays) : Type 0 where
    pub one : (k : ℕ) → k < length m.circuit.gates → (delays_at delays k).one ≡ x.one k t
    pub two : (k : ℕ) → k < length m.circuit.gates → (delays_at delays k).two ≡ x.two k t

  -- of register r in cycle n: what it shows at moment t where it may show anything, its clocks of this cycle and of the next two, and what it takes at its next clock where it may
  -- take anything
  pub record TellsRegister (r n : ℕ) (show : Bool) (told : Clocks) : Type 0 where
    pub shows : show ≡ x.show r t
    pub clock : told.clock ≡ x.clock n r
    pub next : told.next ≡ x.clock (suc n) r
    pub after : told.after ≡ x.clock (suc (suc n)) r
    pub take : told.take ≡ x.take (suc n) r

-- what is told, and the registers' cycles, are enough for a circuit
abbrev pub EnoughTold : Circuit → Now → State → Type 0
EnoughTold c told b =
    (registers_of c ≤ length (vec_items b.cycles)) × (registers_of c ≤ length told.shows.now) × (registers_of c ≤ length told.clocks.now)
    × (gates_of c ≤ length told.delays.now)

-- what is told, or the registers' cycles, are too few for a circuit: refused by the length that is needed, for the registers first, then for the gates
abbrev pub TooFew : Circuit → Now → State → Refusal → Type 0
TooFew c told b e =
    (((length (vec_items b.cycles) < registers_of c) ⊎ ((length told.shows.now < registers_of c) ⊎ (length told.clocks.now < registers_of c))) × (e ≡ NoRoom (registers_of c)))
    ⊎ ((registers_of c ≤ length (vec_items b.cycles)) × (registers_of c ≤ length told.shows.now) × (registers_of c ≤ length told.clocks.now)
    × (length told.delays.now < gates_of c) × (e ≡ NoRoom (gates_of c)))
