-- The clocks that come to one register, one after another.
use Rattle.std.proofs.Common.{◌≡◌, ℕ, suc, ◌+◌, ◌-◌, ◌^◌, ◌<◌, ◌≤◌, min, true, false, sym, refl, ◌∙◌, inl, inr, arith}
use Rattle.std.proofs.lemmas.Bool.{cases_lt}
use Rattle.circuit.specs.Checked.{of}
use Rattle.circuit.proofs.Joined.{small_times}
use Rattle.promise.specs.Machine.{machine_in}
use Rattle.promise.proofs.Lent.{formed_in}
use Rattle.simulation.specs.Simulated.{MayTell}
use Rattle.simulation.proofs.Running.{later}
use Rattle.script.specs.Told.{told_by}
use Rattle.script.proofs.Telling.{may_be_told}
use Rattle.clocks.specs.declared.bench.Bench.{Bench}
use Rattle.clocks.specs.declared.ticks.Ticks.{Ticks}
use Rattle.clocks.specs.Benches.{SmallClock, clock_at}
use Rattle.clocks.specs.Ticking.{Comes, Ticking, InTurn, Ticked}

module _ (b : Bench) (q : ℕ) (turn : InTurn b q) where
  may : MayTell (of b.circuit machine_in) (of b.circuit (told_by b.script.now))
  may =
      let c = b.circuit in
      may_be_told b.script.now c.gates.now c.registers.now c.times.now (formed_in c.gates.now c.registers.now c.times.now c.placed c.ranged c.tied c.ordered) turn.some_period turn.fits

  up : (n : ℕ) → clock_at b n q < clock_at b (suc n) q
  unfolding told_by
  up n = may.in_turn n q turn.register

  clock_later : (n k : ℕ) → n ≤ k → clock_at b n q + (k - n) ≤ clock_at b k q
  clock_later = later (λ (n : ℕ). clock_at b n q) up

  -- no number is too large on the way to the clock after one that is not
  small_next : (n : ℕ) → clock_at b n q < 2 ^ 60 → SmallClock b.circuit.times.now (suc n) (clock_at b n q)
  unfolding told_by
  small_next n l =
      let c = b.circuit in
      let p = small_times c.gates.now c.registers.now c.times.now c.small 0 in
      let begins = (may.clocks n q turn.register).0 in
      record { cycle = omega (arith, clock_later 0 n (omega arith)); begins = omega arith; clock = omega arith }

-- none comes before the next, and the next is not the one before
module _ (b : Bench) (t : ℕ) (y : Ticks) (turn : InTurn b y.register) (so : Ticking b t y) where
  unheard : (y.next ≡ t → ⊥) → Comes b y.register t → ⊥
  unheard other (n, e) = elim (cases_lt n y.cycle) [
    | inl l ↦ omega (arith, so.gone n l)
    | inr l ↦ other (omega (arith, so.next, so.ahead, clock_later b y.register turn y.cycle n l))
  ]

  gone_now : y.next ≡ t → (n : ℕ) → n ≤ y.cycle → clock_at b n y.register < suc t
  gone_now e n l = omega (arith, so.next, clock_later b y.register turn n y.cycle l)

-- a clock comes
pub heard : (b : Bench) (t : ℕ) (y : Ticks) (cycle next : ℕ) → y.next ≡ t → cycle ≡ min (y.cycle + 1) (2 ^ 64 - 1) →
    (SmallClock b.circuit.times.now cycle y.next → (m : ℕ) → cycle ≡ suc m → y.next ≡ clock_at b m y.register → next ≡ clock_at b cycle y.register) →
    Ticked b t y (record { register = y.register; cycle = cycle; next = next }) true
heard b t y cycle next e ce ne = record {
  register_same = refl;
  says = λ turn early so. (λ _. (y.cycle, sym so.next ∙ e), λ _. refl);
  goes = λ turn early so.
      let q = y.register in
      let l : clock_at b y.cycle q < 2 ^ 60 = omega (arith, so.next) in
      let small = small_next b q turn y.cycle l in
      let c : cycle ≡ suc y.cycle = omega (arith, small.cycle) in
      let n : next ≡ clock_at b cycle q = ne (rw (c, so.next) small) y.cycle c so.next in
      record {
        next = n;
        ahead = omega (arith, rw c at n, up b q turn y.cycle, so.next);
        gone = λ n l. gone_now b t y turn so e n (omega arith);
      };
}

-- none comes
pub silent : (b : Bench) (t : ℕ) (y : Ticks) → (y.next ≡ t → ⊥) → Ticked b t y y false
silent b t y other = record {
  register_same = refl;
  says = λ turn early so. (λ no. absurd (cc), λ some. absurd (unheard b t y turn so other some));
  goes = λ turn early so. record { next = so.next; ahead = omega (arith, so.ahead, other); gone = λ n l. omega (arith, so.gone n l) };
}
