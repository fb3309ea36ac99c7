-- A register at one moment: it stays in its cycle, or goes on to the next and decides what it takes.
use Rattle.std.proofs.Common.{◌≡◌, ℕ, suc, ◌+◌, ◌-◌, ◌^◌, ◌<◌, ◌≤◌, min, Bool, Option, unwrap_or, List, sym, ap, ◌∙◌, arith}
use Rattle.std.proofs.lemmas.Nat.{pow_pos}
use Rattle.std.proofs.lemmas.Bool.{le-leb, lt-leb}
use Rattle.circuit.specs.Lent.{register_count, register_in, output_late}
use Rattle.circuit.specs.declared.register.Register.{Register}
use Rattle.promise.specs.Machine.{Machine, machine_in}
use Rattle.history.specs.declared.history.History.{History}
use Rattle.history.specs.Kept.{kept}
use Rattle.simulation.specs.Simulated.{Told, cycle, bits, still, settled, first_seen, end_seen, shown_of, shows_at, run_waves, run_bits}
use Rattle.simulation.proofs.Running.{cycle_until, clocks_later, register_shows, still_same, some_seen}
use Rattle.step.specs.Lent.{TellsRegister}
use Rattle.step.specs.Stands.{Wide, Ready, Remembers, InCycle, Does, RegisterGoes, cycle_of}
use Rattle.step.specs.declared.state.State.{State}
use Rattle.step.specs.declared.registers.Doing.{Doing}
use Rattle.step.specs.declared.told.Clocks.{Clocks}

module _ (m : Machine) (x : Told) (ready : Ready m x) (t q n : ℕ) (h : q < m.registers) (past kept_bits : History) (now : InCycle m x t q n kept_bits) where
  goes_on : x.clock (suc n) q + m.output_late ≤ t → cycle m x q (suc t) ≡ suc n
  unfolding cycle
  goes_on l = let e = now.shown in rw (← e, le-leb _ _ l)

  stays : t < x.clock (suc n) q + m.output_late → cycle m x q (suc t) ≡ n
  unfolding cycle
  stays l = let e = now.shown in rw (← e, lt-leb _ _ l)

  -- no more cycles than moments
  pub few_cycles : suc n ≤ x.clock (suc n) q
  few_cycles = omega (arith, clocks_later m x ready.runnable ready.may q 0 (suc n) h (omega arith))

  shows_now : (k : ℕ) (bit z : Bool) → cycle m x q (suc t) ≡ k → bit ≡ run_bits m x k q →
      z ≡ shown_of m (x.clock k q) (x.clock (suc k) q) t bit (x.show q t) → z ≡ run_waves m x q t
  unfolding shows_at
  shows_now k bit z e be ze = ze ∙ rw (be, ← e) (sym (register_shows m x ready.runnable ready.may q t h))

  -- what is remembered is enough to decide
  taken_now : (wide : Wide m past) → Remembers m x t q past → x.clock (suc n) q + m.output_late ≤ t →
      unwrap_or (still (kept past (m.takes q)) (first_seen m (x.clock (suc n) q)) (end_seen m (x.clock (suc n) q))) (x.take (suc n) q) ≡ run_bits m x (suc n) q
  unfolding bits settled
  taken_now wide so l =
      let until : t ≤ x.clock (suc n) q + m.output_late = rw (← now.shown) at (cycle_until m x ready.runnable ready.may q t h) in
      ap (λ (b : Option Bool). unwrap_or b (x.take (suc n) q)) (still_same _ _ _ _ (some_seen m x ready.runnable ready.may n q h)
      (λ u a b. so (m.takes q) u (ready.runnable.formed.taken q h) (omega arith) (λ e. absurd (omega arith)) (omega (arith, wide.look_back))))

module _ {g r ts : List ℕ} {t q : ℕ} {show : Bool} {told : Clocks} {b : State} {d : Doing} {register : Register} (h : q < register_count r) (is : register ≡ register_in r q) where
  -- it goes on
  pub decides : {bit : Option Bool} → told.next + output_late ts ≤ t → t < 2 ^ 64 →
      bit ≡ still (kept b.past register.signal) (first_seen (machine_in g r ts) told.next) (min (end_seen (machine_in g r ts) told.next) (2 ^ 64 - 1)) → d.bit ≡ unwrap_or bit told.take →
      d.shows ≡ shown_of (machine_in g r ts) told.next told.after t d.bit show → d.cycle ≡ min (cycle_of b q + 1) (2 ^ 64 - 1) →
      RegisterGoes g r ts t q show told b d
  decides {bit} l small is_bit be se ce = record { does = does }
    where
      does : (x : Told) → Ready (machine_in g r ts) x → Wide (machine_in g r ts) b.past → TellsRegister (machine_in g r ts) x t q (cycle_of b q) show told →
          Remembers (machine_in g r ts) x t q b.past → InCycle (machine_in g r ts) x t q (cycle_of b q) b.bits → Does (machine_in g r ts) x t q d.cycle d.bit d.shows
      does x ready wide tells so now =
          let n = cycle_of b q in
          let on : x.clock (suc n) q + output_late ts ≤ t = rw tells.next at l in
          let cx : d.cycle ≡ suc n = omega (arith, few_cycles (machine_in g r ts) x ready t q n h b.past b.bits now) in
          let end : min (end_seen (machine_in g r ts) told.next) (2 ^ 64 - 1) ≡ end_seen (machine_in g r ts) told.next = omega arith in
          let tx : d.bit ≡ run_bits (machine_in g r ts) x (suc n) q = be ∙ rw (is_bit, end, is, tells.next, tells.take) (taken_now (machine_in g r ts) x ready t q n h b.past b.bits now wide so on) in
          let cy = goes_on (machine_in g r ts) x ready t q n h b.past b.bits now on in
          record {
            comes_to = cx ∙ sym cy;
            holds = rw cx tx;
            shows_now = shows_now (machine_in g r ts) x ready t q n h b.past b.bits now (suc n) d.bit d.shows cy tx (se ∙ rw (tells.next, tells.after, tells.shows));
          }

  -- it stays
  pub keeps : t < told.next + output_late ts → d.bit ≡ kept b.bits q (cycle_of b q) →
      d.shows ≡ shown_of (machine_in g r ts) told.clock told.next t d.bit show → d.cycle ≡ cycle_of b q →
      RegisterGoes g r ts t q show told b d
  keeps l be se ce = record { does = does }
    where
      does : (x : Told) → Ready (machine_in g r ts) x → Wide (machine_in g r ts) b.past → TellsRegister (machine_in g r ts) x t q (cycle_of b q) show told →
          Remembers (machine_in g r ts) x t q b.past → InCycle (machine_in g r ts) x t q (cycle_of b q) b.bits → Does (machine_in g r ts) x t q d.cycle d.bit d.shows
      does x ready wide tells so now =
          let n = cycle_of b q in
          let tx : d.bit ≡ run_bits (machine_in g r ts) x n q = be ∙ now.held n (omega arith) (omega (arith, pow_pos b.bits.log)) in
          let cy = stays (machine_in g r ts) x ready t q n h b.past b.bits now (rw tells.next at l) in
          record {
            comes_to = ce ∙ sym cy;
            holds = rw ce tx;
            shows_now = shows_now (machine_in g r ts) x ready t q n h b.past b.bits now n d.bit d.shows cy tx (se ∙ rw (tells.next, tells.clock, tells.shows));
          }
