-- The registers one after another, and a whole moment.
use Rattle.std.proofs.Common.{◌≡◌, ℕ, suc, ◌+◌, ◌<◌, ◌≤◌, Bool, false, leb, ◌≢◌, List, length, get_or, set, vec_items, refl, ◌∙◌, inl, inr, arith}
use Rattle.std.proofs.lemmas.List.{get_or-set_same, get_or-set_other, length-set}
use Rattle.std.proofs.lemmas.Bool.{cases_eq, cases_Bool}
use Rattle.circuit.specs.Lent.{register_count, signal_count}
use Rattle.circuit.proofs.LentLaws.{gates_in_length}
use Rattle.promise.specs.Machine.{Machine, machine_in}
use Rattle.history.specs.declared.history.History.{History}
use Rattle.history.specs.Kept.{span, Put}
use Rattle.simulation.specs.Simulated.{Told, cycle}
use Rattle.step.specs.Lent.{clocks_at}
use Rattle.step.specs.Stands.{InCycle, Does, Given, RegisterGoes, RegistersGo, Settles, Steps, cycle_of}
use Rattle.step.specs.declared.state.State.{State}
use Rattle.step.specs.declared.registers.Doing.{Doing}
use Rattle.step.specs.declared.told.Now.{Now}
use Rattle.step.proofs.Remembering.{same_none, same_put, wide_same, remembers_more, remembered_next, remembers_first}

module _ (m : Machine) (x : Told) where
  -- a register comes to the next cycle at most
  pub at_most_next : (r t : ℕ) → (cycle m x r t ≤ cycle m x r (suc t)) × (cycle m x r (suc t) ≤ suc (cycle m x r t))
  unfolding cycle
  at_most_next r t = elim (cases_Bool (leb (x.clock (suc (cycle m x r t)) r + m.output_late) t)) [ inl q ↦ rw q (omega arith, omega arith) | inr q ↦ rw q (omega arith, omega arith) ]

  -- a register's own bit was put
  pub put_own : (t q n k : ℕ) (before after : History) (b shown : Bool) → q < before.rows → InCycle m x t q n before → Does m x t q k b shown → Put before after q k b → InCycle m x (suc t) q k after
  put_own t q n k before after b shown h was does put = record {
    shown = does.comes_to;
    held = λ i l s.
        let near : k < i + span before = rw put.span_same at s in
        let step = at_most_next q t in
        let was_in = was.shown in
        let comes = does.comes_to in
        elim (cases_eq i k) [
          | inl e ↦ rw e (put.here h ∙ does.holds)
          | inr ne ↦ put.other q i (λ _. (ne, omega arith, near)) ∙ was.held i (omega (arith, ne)) (omega arith)
        ];
  }

  -- another register's bit was put
  pub put_other : (t q n p k : ℕ) (before after : History) (b : Bool) → q ≢ p → InCycle m x t q n before → Put before after p k b → InCycle m x t q n after
  put_other t q n p k before after b ne was put = record {
    shown = was.shown;
    held = λ i l s. put.other q i (λ e. absurd (ne e)) ∙ was.held i l (rw put.span_same at s);
  }

module _ {g r ts : List ℕ} {told : Now} where
  pub none_yet : (b : State) → RegistersGo g r ts told 0 b b
  none_yet b = record {
    past_size = same_none b.past;
    bits_size = same_none b.bits;
    cycles_size = refl;
    later_same = λ q l. refl;
    remembered = λ x given. remembers_first (machine_in g r ts) x told.moment b.past given.stands.remembered;
    done = λ x given q l. absurd (omega arith);
    left = λ x given q l h. given.stands.registers q h;
  }

  pub one_more : {i : ℕ} {start before after : State} {d : Doing} → i < register_count r → i < length (vec_items before.cycles) →
      RegisterGoes g r ts told.moment i (get_or told.shows.now i false) (clocks_at told.clocks.now i) before d →
      vec_items after.cycles ≡ set (vec_items before.cycles) i d.cycle → Put before.bits after.bits i d.cycle d.bit → Put before.past after.past i told.moment d.shows →
      RegistersGo g r ts told i start before → RegistersGo g r ts told (i + 1) start after
  one_more {i} {start} {before} {after} {d} h room does put_cycle put_bit put_shown so = record {
    past_size = same_put so.past_size put_shown;
    bits_size = same_put so.bits_size put_bit;
    cycles_size = rw put_cycle (length-set (vec_items before.cycles) i d.cycle) ∙ so.cycles_size;
    later_same = λ q l. let ne : q ≢ i = omega arith in rw put_cycle (get_or-set_other (vec_items before.cycles) i q d.cycle 0 ne) ∙ so.later_same q (omega arith);
    remembered = λ x given.
        let e : i + 1 ≡ suc i = omega arith in
        rw e (remembers_more (machine_in g r ts) x told.moment i before.past after.past d.shows (wide_same so.past_size given.wide).rows (omega arith) put_shown (does_now x given).shows_now (so.remembered x given));
    done = λ x given q l. elim (cases_eq q i) [
      | inl e ↦ rw (e, put_cycle, get_or-set_same (vec_items before.cycles) i d.cycle 0 room)
          (put_own (machine_in g r ts) x told.moment i (cycle_of before i) d.cycle before.bits after.bits d.bit d.shows (own_row x given) (so.left x given i (omega arith) h) (does_now x given) put_bit)
      | inr other ↦ let ne : q ≢ i = other in
          rw (put_cycle, get_or-set_other (vec_items before.cycles) i q d.cycle 0 ne)
          (put_other (machine_in g r ts) x (suc told.moment) q (cycle_of before q) i d.cycle before.bits after.bits d.bit ne (so.done x given q (omega arith)) put_bit)
    ];
    left = λ x given q l hq.
        let ne : q ≢ i = omega arith in
        rw (put_cycle, get_or-set_other (vec_items before.cycles) i q d.cycle 0 ne)
        (put_other (machine_in g r ts) x told.moment q (cycle_of before q) i d.cycle before.bits after.bits d.bit ne (so.left x given q (omega arith) hq) put_bit);
  }
    where
      own_row : (x : Told) → Given g r ts x told start → i < before.bits.rows
      own_row x given = omega (arith, so.bits_size.rows_same, given.rows)

      does_now : (x : Told) → Given g r ts x told start → Does (machine_in g r ts) x told.moment i d.cycle d.bit d.shows
      does_now x given =
          does.does x given.ready (wide_same so.past_size given.wide) (rw (so.later_same i (omega arith)) (given.tells i h)) (so.remembered x given) (so.left x given i (omega arith) h)

  -- registers, then gates
  pub whole_moment : {before between after : State} → RegistersGo g r ts told (register_count r) before between → Settles g r ts told.moment told.delays.now (signal_count g r) between.past after.past →
      after.cycles ≡ between.cycles → after.bits ≡ between.bits → Steps g r ts told before after
  whole_moment {after = after} regs gates same_cycles same_bits = record {
    past_size = record { rows_same = gates.size.rows_same ∙ regs.past_size.rows_same; span_same = gates.size.span_same ∙ regs.past_size.span_same };
    bits_size = rw same_bits regs.bits_size;
    cycles_size = rw same_cycles regs.cycles_size;
    goes = λ x given tells. record {
      remembered =
          let all = gates.settled x given.ready (wide_same regs.past_size given.wide) tells (regs.remembered x given) in
          remembered_next (machine_in g r ts) x told.moment after.past (λ k u h l q s. all k u h l (λ e. omega (arith, q e, gates_in_length g)) s);
      registers = λ q h. rw (same_cycles, same_bits) (regs.done x given q h);
    };
  }
