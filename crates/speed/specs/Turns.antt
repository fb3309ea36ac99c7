-- What lent memory holds after a circuit's times were filled in, in so many turns.
use Rattle.std.specs.Prelude.{◌≡◌, ℕ, ◌<◌, ◌⊎◌, List}
use Rattle.circuit.specs.Refused.{number_of, FirstRefusal}
use Rattle.circuit.specs.Whole.{Whole}
use Rattle.circuit.specs.declared.refusal.Refusal.{Refusal}
use Rattle.arrival.specs.declared.edge.Edge.TheVariants.{Late, Early}
use Rattle.arrival.specs.Lent.{OverRegisters, Enough, TimesRefused}

module _ (gates registers times : List ℕ) (turns : ℕ) (latest latest' earliest earliest' : List ℕ) where
  -- after a turn or more there was room, and it has the times of all signals; after none it is as it was
  pub record Gone : Type 0 where
    pub none : turns ≡ 0 → (latest' ≡ latest) × (earliest' ≡ earliest)
    pub room : 0 < turns → Enough gates registers latest earliest
    pub late : 0 < turns → OverRegisters Late gates registers times latest latest'
    pub early : 0 < turns → OverRegisters Early gates registers times earliest earliest'

  -- the numbers are no circuit, or the room is too short for a turn; nothing is changed
  abbrev pub TurnRefused : Refusal → Type 0
  TurnRefused e =
      (FirstRefusal gates registers times e ⊎ (Whole gates registers times × TimesRefused gates registers latest earliest e))
      × (latest' ≡ latest) × (earliest' ≡ earliest)

  -- 0 if the numbers are a circuit and all turns are gone, else the number of the refusal
  abbrev pub TurnNumber : ℕ → Type 0
  TurnNumber n = (n ≡ 0 → Whole gates registers times × Gone) × (0 < n → (e : Refusal) × (n ≡ number_of e) × TurnRefused e)
