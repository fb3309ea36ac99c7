-- Parts of a teller before anything is said.
use Rattle.std.proofs.Common.{◌≡◌, ℕ, List, length, get_or, replicate, None, vec_items, Option, ap, inl, inr, arith}
use Rattle.std.proofs.lemmas.List.{get_or-replicate, get_or_past, length-replicate}
use Rattle.std.proofs.lemmas.Bool.{cases_lt}
use Rattle.circuit.specs.Lent.{gate_count, register_count}
use Rattle.step.specs.declared.told.Clocks.{Clocks}
use Rattle.script.specs.declared.entry.Entry.{Entry}
use Rattle.script.specs.declared.script.Script.{Script}
use Rattle.script.specs.Entries.{last_of}
use Rattle.telling.specs.declared.part.Part.{Part}
use Rattle.telling.specs.Said.{DoneBefore, Said, FirstTold}
use Rattle.telling.specs.Parts.{PartNew}
use Rattle.telling.specs.Knows.{Begins}
use Rattle.telling.specs.declared.teller.Teller.{Teller}

-- every place of a list of one value has it, and so has what is past its end
pub all_same : {A : Type 0} (n k : ℕ) (a : A) → get_or (replicate n a) k a ≡ a
all_same n k a = elim (cases_lt k n) [ inl l ↦ get_or-replicate n k a a l | inr l ↦ get_or_past (replicate n a) k a (omega (arith, length-replicate n a)) ]

none_done : (es : List Entry) → DoneBefore es 0 0
none_done es = record { within = omega arith; done = λ j l. absurd (omega arith); to_come = λ j l h. omega arith }

none_said : (es : List Entry) (n m : ℕ) → Said es 0 m (replicate n None)
unfolding last_of
none_said es n m k l = all_same n k None

pub part_new : {V : Type 0} {y : Part V} (n : ℕ) → length (vec_items y.values) ≡ n → vec_items y.said ≡ replicate n None → y.done ≡ 0 → PartNew n y
part_new n values said z = record {
  places_all = rw said (omega (arith, length-replicate {A = Option Entry} n None));
  knows = λ es. record { done_all = rw z (none_done es); said_all = rw (z, said) (none_said es n _) };
}

-- a new teller
pub begins : (s : Script) (g r ts : List ℕ) (y : Teller) → PartNew (gate_count g) y.delays → PartNew (register_count r) y.shows → FirstTold s g r ts (register_count r) (vec_items y.clocks) → Begins s g r ts y
begins s g r ts y delays shows clocks = record {
  knows = record {
    sized = record { delays_sized = omega (arith, delays.places_all); shows_sized = omega (arith, shows.places_all); clocks_sized = omega (arith, clocks.size) };
    delays_known = delays.knows s.delays;
    shows_known = shows.knows s.shows;
    clocks_known = λ q h. rw ((clocks.told q h).cycle) (clocks.told q h);
  };
  stand = λ q. elim (cases_lt q (register_count r)) [
    | inl h ↦ (clocks.told q h).cycle
    | inr l ↦ ap (λ (c : Clocks). c.cycle) (get_or_past (vec_items y.clocks) q _ (omega (arith, clocks.size)))
  ];
}
