-- What the parts of a teller tell is what the script tells.
use Rattle.std.proofs.Common.{◌≡◌, ℕ, suc, ◌<◌, ◌≤◌, false, List, length, get_or, None, vec_items, Option, sym, ap, ◌∙◌, arith}
use Rattle.std.proofs.lemmas.Bool.{le-leb, lt-leb, and_left}
use Rattle.circuit.specs.Lent.{gate_count, register_count, gate_in}
use Rattle.circuit.proofs.LentLaws.{gates_in_length}
use Rattle.promise.specs.Machine.{machine_in}
use Rattle.step.specs.Lent.{TellsGates, TellsRegister, clocks_at}
use Rattle.script.specs.declared.entry.Entry.{Entry}
use Rattle.script.specs.declared.script.Script.{Script}
use Rattle.script.specs.Entries.{entry, last_of, about, due, said_by}
use Rattle.script.specs.Told.{told_by}
use Rattle.script.proofs.Last.{last_rest, last_same}
use Rattle.telling.specs.declared.part.Part.{Part}
use Rattle.telling.specs.declared.teller.Teller.{Teller}
use Rattle.telling.specs.Said.{DoneBefore, Said, one_of, two_of, show_of, ClocksTold, Followed}
use Rattle.telling.specs.Parts.{PartKnows, PartOn, DelaysTold, ShowsTold, ComesTo, places}
use Rattle.telling.specs.Knows.{Knows, ToldOn}

-- of the statements up to moment t the last about a gate or register is the last that is due
due_last : (es : List Entry) (t i k : ℕ) → DoneBefore es (suc t) i → last_of (about k) es i ≡ said_by es t k
due_last es t i k done =
    last_same (about k) (due t k) es i (λ j l. let w : (entry es j).when ≤ t = omega (arith, done.done j l) in rw (le-leb _ _ w))
    ∙ sym (last_rest (due t k) es i (length es) done.within (λ j l h. and_left _ _ (lt-leb _ _ (done.to_come j l h))))

kept_last : (es : List Entry) (t i n k : ℕ) (said : List (Option Entry)) → DoneBefore es (suc t) i → Said es i n said → k < n → get_or said k None ≡ said_by es t k
kept_last es t i n k said done kept h = kept k h ∙ due_last es t i k done

-- what is kept of a gate or register that has a place is the last statement that is due
kept_due : {V : Type 0} (es : List Entry) (t k : ℕ) (y : Part V) → PartKnows es (suc t) y → k < places y → get_or (vec_items y.said) k None ≡ said_by es t k
kept_due es t k y knows h = kept_last es t y.done _ k (vec_items y.said) knows.done_all knows.said_all (omega arith)

module _ (s : Script) (g r ts : List ℕ) (t : ℕ) where
  -- the parts together
  module _ (cycles : List ℕ) (y y' : Teller) (d : PartOn s.delays t y.delays y'.delays) (dt : DelaysTold s g t y'.delays) (x : PartOn s.shows t y.shows y'.shows) (xt : ShowsTold s r t y'.shows)
      (c : Followed s g r ts cycles (register_count r) (vec_items y.clocks) (vec_items y'.clocks)) where
    gates_told : Knows s g r ts t y → TellsGates (machine_in g r ts) (told_by s g r ts) t (vec_items y'.delays.values)
    unfolding told_by
    gates_told k =
        let at : (i : ℕ) → i < gate_count g → get_or (vec_items y'.delays.said) i None ≡ said_by s.delays t i =
        λ i h. kept_due s.delays t i y'.delays (d.knows k.delays_known) (omega (arith, d.places_same, k.sized.delays_sized)) in
        record {
          one = λ i h. let l : i < gate_count g = omega (arith, gates_in_length g) in dt.one i l ∙ ap (one_of s.seed (gate_in g i) i t) (at i l);
          two = λ i h. let l : i < gate_count g = omega (arith, gates_in_length g) in dt.two i l ∙ ap (two_of s.seed (gate_in g i) i t) (at i l);
        }

    clocks_now : Knows s g r ts t y → ComesTo s g r ts cycles (vec_items y.clocks) → (q : ℕ) → q < register_count r → ClocksTold s g r ts q (get_or cycles q 0) (clocks_at (vec_items y'.clocks) q)
    clocks_now k near q h = c.told_now q h (near.near q h) (near.small q h) (k.clocks_known q h)

    registers_told : Knows s g r ts t y → ComesTo s g r ts cycles (vec_items y.clocks) → (q : ℕ) → q < register_count r →
        TellsRegister (machine_in g r ts) (told_by s g r ts) t q (get_or cycles q 0) (get_or (vec_items y'.shows.values) q false) (clocks_at (vec_items y'.clocks) q)
    unfolding told_by
    registers_told k near q h =
        let told = clocks_now k near q h in
        record {
          shows = xt q h ∙ ap (show_of s.seed q t) (kept_due s.shows t q y'.shows (x.knows k.shows_known) (omega (arith, x.places_same, k.sized.shows_sized)));
          clock = told.clock;
          next = told.next;
          after = told.after;
          take = told.take;
        }

    pub told_whole : ToldOn s g r ts t cycles y y'
    told_whole = record {
      stand = c.stand;
      knows = λ k near. record {
        sized = record {
          delays_sized = omega (arith, d.places_same, k.sized.delays_sized);
          shows_sized = omega (arith, x.places_same, k.sized.shows_sized);
          clocks_sized = omega (arith, c.size, k.sized.clocks_sized);
        };
        delays_known = d.knows k.delays_known;
        shows_known = x.knows k.shows_known;
        clocks_known = λ q h. rw (c.stand q h) (clocks_now k near q h);
      };
      gates = gates_told;
      registers = registers_told;
    }
