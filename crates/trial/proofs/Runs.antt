-- A run goes on, and what it gives at a cycle's end.
use Rattle.std.proofs.Common.{◌≡◌, ℕ, suc, ◌+◌, ◌-◌, ◌*◌, ◌^◌, ◌<◌, ◌≤◌, Bool, true, false, List, ◌++◌, length, drop, get_or, Result, is_ok, ap, ◌∙◌, inl, inr, arith}
use mathlib.Core.Bool.{Bool-set}
use mathlib.Core.Logic.{∥∥₁_elim}
use native.Mathlib.Bridge.{le_prop}
use Rattle.std.proofs.lemmas.Nat.{le-div, mul-le}
use Rattle.std.proofs.lemmas.List.{get_or_append_left, get_or-append_right, get_or-drop}
use Rattle.std.proofs.lemmas.Bool.{cases_lt}
use Rattle.circuit.specs.Filled.{Filled}
use Rattle.circuit.specs.Lent.{register_count, early, period}
use Rattle.circuit.specs.Checked.{registers_of}
use Rattle.circuit.specs.declared.refusal.Refusal.{Refusal}
use Rattle.clocks.specs.declared.bench.Bench.{Bench}
use Rattle.circuit.proofs.Joined.{small_times}
use Rattle.promise.specs.Machine.{Machine, machine_in, Passed, drawing}
use Rattle.history.specs.Kept.{kept, span}
use Rattle.simulation.specs.Simulated.{Told, cycle, run_bits}
use Rattle.simulation.proofs.Running.{cycle_until, cycle_from, clocks_later, simulated_as_drawn}
use Rattle.step.specs.Stands.{Ready}
use Rattle.script.specs.declared.script.Script.{Script}
use Rattle.script.specs.Told.{told_by}
use Rattle.trial.specs.declared.room.Room.{Room}
use Rattle.trial.specs.declared.running.Trial.{Trial}
use Rattle.trial.specs.Made.{machine_of, told_to, SameCycle, CycleDone}
use Rattle.trial.specs.Standing.{ReadyToGo, Standing, end_of, Goes}
use Rattle.trial.proofs.Moments.{ready_of}

-- values at the front of a list
pub filled_front : {A : Type 0} (d : A) (n : ℕ) (f : ℕ → A) (before front : List A) → length front ≡ n → ((k : ℕ) → k < n → get_or front k d ≡ f k) → Filled d n f before (front ++ drop n before)
filled_front d n f before front size all = record {
  filled = λ k h. get_or_append_left front (drop n before) d k (omega arith) ∙ all k h;
  rest = λ k l. let e : n + (k - n) ≡ k = omega arith in get_or-append_right front (drop n before) n k d size l ∙ get_or-drop n before (k - n) d ∙ rw e;
}

-- a room that stands goes on
pub goes_on : (s : Script) (g r ts : List ℕ) (t : ℕ) (y y' : Room) (went : Result (Unit {0}) Refusal) → ∥ Standing s g r ts t y ∥₁ → t < 2 ^ 60 → Goes s g r ts t y y' went → is_ok went ≡ true
goes_on s g r ts t y y' went standing early goes = ∥∥₁_elim standing (Bool-set (is_ok went) true) (λ st. (goes.goes st early).0)

module _ (s : Script) (g r ts : List ℕ) (t n : ℕ) (y : Room) (standing : Standing s g r ts t y) (end : t ≡ end_of ts y.latest n) (q : ℕ) (h : q < register_count r) where
  abbrev m : Machine
  m = machine_in g r ts

  abbrev x : Told
  x = told_by s g r ts

  abbrev ready : Ready m x
  ready = ready_of s g r ts standing.ready

  -- every register has come to the cycle that ends
  reached : suc n ≤ cycle m x q t
  reached = elim (cases_lt (cycle m x q t) (suc n)) [
    | inl less ↦
        let until = cycle_until m x ready.runnable ready.may q t h in
        let later = clocks_later m x ready.runnable ready.may q (suc (cycle m x q t)) (suc n) h less in
        absurd (omega (arith, ready.may.clocks (suc n) q h, standing.roomy.latest q h))
    | inr more ↦ more
  ]

  -- and no further than its bit of that cycle is kept
  still_kept : cycle m x q t < suc n + span y.state.bits
  still_kept = elim (cycle_from m x ready.runnable ready.may q t h) [
    | inl z ↦ omega (arith, reached)
    | inr l ↦
        let k = cycle m x q t in
        let begins = ready.may.clocks (cycle m x q t) q h in
        let apart = le-div (cycle m x q t - suc n) (y.latest - early r q) (period ts) standing.ready.some_period
        (let e : cycle m x q t ≡ suc n + (cycle m x q t - suc n) = omega (arith, reached) in let p = ap (λ (c : ℕ). c * period ts) e in omega arith) in
        omega (arith, reached, standing.roomy.apart q h)
  ]

  pub bits_at_end : kept y.state.bits q (suc n) ≡ run_bits m x (suc n) q
  bits_at_end =
      let at = standing.stands.registers q h in
      at.held (suc n) (omega (arith, at.shown, reached)) (omega (arith, at.shown, still_kept))

-- what a passed machine holds
pub drawn_bits : (s : Script) (g r ts : List ℕ) → ReadyToGo s g r ts → Passed (machine_in g r ts) → (n q : ℕ) → q < register_count r →
    run_bits (machine_in g r ts) (told_by s g r ts) n q ≡ drawing (machine_in g r ts) (told_by s g r ts).start n q
drawn_bits s g r ts ready passed n q h =
    let may = (ready_of s g r ts ready).may in
    simulated_as_drawn (machine_in g r ts) (told_by s g r ts) passed ready.some_moment may.delays may.clocks n q h

pub same_through : {x y z : Trial} → SameCycle x y → SameCycle y z → SameCycle x z
same_through a b = record {
  bench_same = b.bench_same ∙ a.bench_same;
  done_same = b.done_same ∙ a.done_same;
  ends_same = b.ends_same ∙ a.ends_same;
}

-- the next cycle's end is not too far
pub end_small : (z : Trial) → z.done < 2 ^ 32 → z.ends + period z.bench.circuit.times.now < 2 ^ 60
end_small z few =
    let k = z.bench.circuit in
    let p = small_times k.gates.now k.registers.now k.times.now k.small 0 in
    let o = small_times k.gates.now k.registers.now k.times.now k.small 2 in
    let l : z.room.latest ≤ 1000000 = ∥∥₁_elim z.standing le_prop (λ st. st.roomy.small) in
    let far = mul-le z.done (period k.times.now) (2 ^ 32) 1000000 (omega arith) p in
    omega (arith, z.end)

-- a run at the end of a cycle has the bits of it
module _ (y z : Trial) (same : SameCycle y z) (q : ℕ) (h : q < registers_of y.bench.circuit) where
  pub cycle_bits : z.moment ≡ z.ends → kept z.room.state.bits q (suc y.done) ≡ run_bits (machine_of y) (told_to y) (suc y.done) q
  cycle_bits over =
      let b = same.bench_same in
      let e : z.moment ≡ end_of y.bench.circuit.times.now z.room.latest y.done = over ∙ rw (← b, ← same.done_same) z.end in
      ∥∥₁_elim z.standing (Bool-set _ _) (λ st. bits_at_end _ _ _ _ z.moment y.done z.room (rw b at st) e q h)

  pub cycle_drawn : Passed (machine_of y) → run_bits (machine_of y) (told_to y) (suc y.done) q ≡ drawing (machine_of y) (told_to y).start (suc y.done) q
  cycle_drawn passed = ∥∥₁_elim y.standing (Bool-set _ _) (λ st. drawn_bits _ _ _ _ st.ready passed (suc y.done) q h)

-- the next cycle is done
pub cycle_is_done : (y z y' : Trial) (before after : List Bool) → SameCycle y z → z.moment ≡ z.ends → y'.bench ≡ z.bench → y'.done ≡ z.done + 1 → y'.moment ≡ z.moment →
    Filled false (registers_of y.bench.circuit) (λ r. kept z.room.state.bits r (z.done + 1)) before after → CycleDone y y' before after
cycle_is_done y z y' before after same over b d m copied =
    let done : z.done + 1 ≡ suc y.done = omega (arith, same.done_same) in
    record {
      bench_same = b ∙ same.bench_same;
      one_more = d ∙ done;
      gone = m ∙ over ∙ same.ends_same;
      bits = record { filled = λ q h. rw done at (copied.filled q h) ∙ cycle_bits y z same q h over; rest = copied.rest };
      drawn = λ passed q h. cycle_drawn y z same q h passed;
    }

pub same_cycles : (x y : Trial) → SameCycle x y → y.bench.script.now.cycles ≡ x.bench.script.now.cycles
same_cycles x y same = ap (λ (b : Bench). b.script.now.cycles) same.bench_same
