-- What is seen of a run at the last moment that has gone.
use Rattle.std.proofs.Common.{◌≡◌, ℕ, suc, ◌+◌, ◌-◌, ◌^◌, ◌<◌, ◌≤◌, min, Bool, true, false, not, List, length, get_or, Option, is_some, is_none, vec_items, nat_lt, sym, refl, ap, ◌∙◌, inl, inr, arith}
use mathlib.Core.Bool.{Bool-set}
use mathlib.Core.Logic.{∥∥₁_elim}
use native.Mathlib.Bridge.{le_prop}
use Rattle.std.proofs.lemmas.Nat.{pow_pos}
use Rattle.std.proofs.lemmas.List.{get_or_read}
use Rattle.std.proofs.lemmas.Bool.{cases_lt, lt-ltb, le-ltb}
use Rattle.circuit.specs.Lent.{register_count, signal_count, takes}
use Rattle.circuit.specs.Checked.{registers_of, signals_of}
use Rattle.circuit.proofs.LentLaws.{gates_in_length}
use Rattle.promise.specs.Machine.{Machine, machine_in}
use Rattle.history.specs.declared.history.History.{History}
use Rattle.history.specs.Kept.{kept}
use Rattle.simulation.specs.Simulated.{Told, still, cycle, first_seen, end_seen, must_show, run_waves, shows_anything, takes_anything}
use Rattle.simulation.proofs.Running.{cycle_until, cycle_from, still_same, some_seen}
use Rattle.step.specs.Lent.{clocks_at, no_clocks}
use Rattle.step.specs.Stands.{Ready, cycle_of}
use Rattle.step.specs.declared.told.Clocks.{Clocks}
use Rattle.script.specs.declared.script.Script.{Script}
use Rattle.script.specs.Told.{told_by}
use Rattle.telling.specs.Said.{ClocksTold}
use Rattle.trial.specs.declared.room.Room.{Room}
use Rattle.trial.specs.declared.running.Trial.{Trial}
use Rattle.trial.specs.Made.{machine_of, told_to}
use Rattle.trial.specs.Looked.{at_last}
use Rattle.trial.specs.Standing.{Standing}
use Rattle.trial.proofs.Moments.{ready_of, near}

-- a row that is not there
kept_none : (h : History) (k u : ℕ) → h.rows ≤ k → kept h k u ≡ false
unfolding kept
kept_none h k u l = rw (le-ltb k h.rows l) refl

pub none_is : (o : Option Bool) (b : Bool) → is_some o ≡ not b → b ≡ is_none o
none_is o true e = sym (ap not e)
none_is o false e = sym (ap not e)

-- what a room that stands has of the last moment
module _ (s : Script) (g r ts : List ℕ) (t : ℕ) (y : Room) (st : Standing s g r ts (suc t) y) where
  abbrev m : Machine
  m = machine_in g r ts

  abbrev x : Told
  x = told_by s g r ts

  signal_shown : (k : ℕ) → k < signal_count g r → kept y.state.past k t ≡ run_waves m x k t
  signal_shown k h = st.stands.remembered k t (omega (arith, gates_in_length g)) (omega arith) (omega (arith, pow_pos y.state.past.log))

  no_signal : (k : ℕ) → signal_count g r ≤ k → kept y.state.past k t ≡ false
  no_signal k l = kept_none y.state.past k t (omega (arith, st.roomy.wide.rows, gates_in_length g))

  module _ (q : ℕ) (h : q < register_count r) where
    abbrev told : Clocks
    told = clocks_at (vec_items y.teller.clocks) q

    abbrev ready : Ready m x
    ready = ready_of s g r ts st.ready

    told_cycle : told.cycle ≡ cycle m x q t
    told_cycle = let e : suc t - 1 ≡ t = omega arith in rw e at (st.stood q h)

    knows : ClocksTold s g r ts q told.cycle told
    knows = st.knows.clocks_known q h

    stands_in : cycle_of y.state q ≡ cycle m x q (suc t)
    stands_in = (st.stands.registers q h).shown

    -- it came to the next cycle if it came to another
    came : (cycle_of y.state q ≡ told.cycle → ⊥) → cycle m x q (suc t) ≡ suc told.cycle
    came other =
        let e : suc t - 1 ≡ t = omega arith in
        elim (rw e at (near m x q (suc t))) [ inl same ↦ absurd (other (stands_in ∙ same ∙ sym told_cycle)) | inr next ↦ omega (arith, next, told_cycle) ]

    shown_staying : cycle_of y.state q ≡ told.cycle → not (must_show m told.clock told.next t) ≡ shows_anything m x q t
    unfolding shows_anything told_by
    shown_staying same = let e : cycle m x q (suc t) ≡ told.cycle = sym stands_in ∙ same in rw (e, knows.clock, knows.next) refl

    shown_coming : (cycle_of y.state q ≡ told.cycle → ⊥) → not (must_show m told.next told.after t) ≡ shows_anything m x q t
    unfolding shows_anything told_by
    shown_coming other = rw (came other, knows.next, knows.after) refl

    taken_staying : cycle_of y.state q ≡ told.cycle → takes_anything m x q t ≡ false
    unfolding takes_anything
    taken_staying same =
        let e : cycle m x q (suc t) ≡ cycle m x q t = sym stands_in ∙ same ∙ told_cycle in
        let none : nat_lt (cycle m x q t) (cycle m x q (suc t)) ≡ false = rw e (le-ltb (cycle m x q t) (cycle m x q t) (omega arith)) in
        rw none refl

    -- its next clock came the latest output time ago
    clock_now : (cycle_of y.state q ≡ told.cycle → ⊥) → told.next + m.output_late ≡ t
    unfolding told_by
    clock_now other =
        let c = came other in
        let until = cycle_until m x ready.runnable ready.may q t h in
        elim (cycle_from m x ready.runnable ready.may q (suc t) h) [
          | inl z ↦ absurd (omega (arith, z, c))
          | inr l ↦ omega (arith, rw c at l, rw (← told_cycle) at until, knows.next)
        ]

    taken_coming : t < 2 ^ 60 → (signal : ℕ) (bit : Option Bool) → signal ≡ takes r q → bit ≡ still (kept y.state.past signal) (first_seen m told.next) (min (end_seen m told.next) (2 ^ 64 - 1)) →
        (cycle_of y.state q ≡ told.cycle → ⊥) → is_none bit ≡ takes_anything m x q t
    unfolding takes_anything told_by
    taken_coming early signal bit is seen other =
        let now = clock_now other in
        let c = came other in
        let end : min (end_seen m told.next) (2 ^ 64 - 1) ≡ end_seen m told.next = omega arith in
        let same : still (kept y.state.past (takes r q)) (first_seen m told.next) (end_seen m told.next) ≡ still (run_waves m x (takes r q)) (first_seen m told.next) (end_seen m told.next) =
        still_same _ _ _ _ (rw (← knows.next) at (some_seen m x ready.runnable ready.may told.cycle q h))
        (λ u a b. st.stands.remembered (takes r q) u (ready.runnable.formed.taken q h) (omega arith) (omega (arith, st.roomy.wide.look_back))) in
        rw (c, ← told_cycle, lt-ltb told.cycle (suc told.cycle) (omega arith), ← knows.next)
        (ap (λ (b : Option Bool). is_none b) (seen ∙ rw (is, end) same))

-- each register has a place
module _ (y : Trial) where
  clocks_each : registers_of y.bench.circuit ≤ length (vec_items y.room.teller.clocks)
  clocks_each = ∥∥₁_elim y.standing le_prop (λ st. st.knows.sized.clocks_sized)

  cycles_each : registers_of y.bench.circuit ≤ length (vec_items y.room.state.cycles)
  cycles_each = ∥∥₁_elim y.standing le_prop (λ st. st.roomy.cycles_each)

  pub told_read : (q : ℕ) (told : Clocks) → q < registers_of y.bench.circuit → told ≡ get_or (vec_items y.room.teller.clocks) q told → told ≡ clocks_at (vec_items y.room.teller.clocks) q
  told_read q told h e = get_or_read (vec_items y.room.teller.clocks) q told (omega (arith, clocks_each)) e no_clocks

  pub cycle_read : (q cycle : ℕ) → q < registers_of y.bench.circuit → cycle ≡ get_or (vec_items y.room.state.cycles) q cycle → cycle ≡ cycle_of y.room.state q
  cycle_read q cycle h e = get_or_read (vec_items y.room.state.cycles) q cycle (omega (arith, cycles_each)) e 0

-- what is said of the last moment
last_is : (y : Trial) (n k : ℕ) (f : ℕ → Bool) (b : Bool) → 0 < y.moment → k < n → b ≡ f (y.moment - 1) → b ≡ at_last y n k f
last_is y n k f b some h e = rw (lt-ltb 0 y.moment some, lt-ltb k n h) e

none_last : (y : Trial) (n k : ℕ) (f : ℕ → Bool) (b : Bool) → 0 < y.moment → n ≤ k → b ≡ false → b ≡ at_last y n k f
none_last y n k f b some h e = rw (lt-ltb 0 y.moment some, le-ltb k n h) e

module _ (y : Trial) (some : 0 < y.moment) where
  abbrev last : ℕ
  last = y.moment - 1

  moment_is : y.moment ≡ suc last
  moment_is = omega arith

  pub signal_seen : (k : ℕ) → kept y.room.state.past k last ≡ at_last y (signals_of y.bench.circuit) k (run_waves (machine_of y) (told_to y) k)
  signal_seen k =
      let f = run_waves (machine_of y) (told_to y) k in
      ∥∥₁_elim y.standing (Bool-set _ _) (λ st. elim (cases_lt k (signals_of y.bench.circuit)) [
        | inl h ↦ last_is y _ k f _ some h (signal_shown _ _ _ _ last y.room (rw moment_is at st) k h)
        | inr l ↦ none_last y _ k f _ some l (no_signal _ _ _ _ last y.room (rw moment_is at st) k l)
      ])

  module _ (q cycle : ℕ) (told : Clocks) (h : q < registers_of y.bench.circuit) (told_is : told ≡ clocks_at (vec_items y.room.teller.clocks) q) (cycle_is : cycle ≡ cycle_of y.room.state q) where
    -- a register that stays in its cycle
    module _ (same : cycle ≡ told.cycle) where
      stays : cycle_of y.room.state q ≡ (clocks_at (vec_items y.room.teller.clocks) q).cycle
      stays = sym cycle_is ∙ same ∙ ap (λ (k : Clocks). k.cycle) told_is

      pub shows_staying : (b : Bool) → b ≡ must_show (machine_of y) told.clock told.next last → not b ≡ at_last y (registers_of y.bench.circuit) q (shows_anything (machine_of y) (told_to y) q)
      shows_staying b is = ∥∥₁_elim y.standing (Bool-set _ _) (λ st.
          last_is y _ q (shows_anything (machine_of y) (told_to y) q) _ some h (ap not (rw told_is at is) ∙ shown_staying _ _ _ _ last y.room (rw moment_is at st) q h stays))

      pub takes_staying : false ≡ at_last y (registers_of y.bench.circuit) q (takes_anything (machine_of y) (told_to y) q)
      takes_staying = ∥∥₁_elim y.standing (Bool-set _ _) (λ st.
          last_is y _ q (takes_anything (machine_of y) (told_to y) q) _ some h (sym (taken_staying _ _ _ _ last y.room (rw moment_is at st) q h stays)))

    -- a register that comes to the next
    module _ (other : cycle ≡ told.cycle → ⊥) where
      comes : cycle_of y.room.state q ≡ (clocks_at (vec_items y.room.teller.clocks) q).cycle → ⊥
      comes e = other (cycle_is ∙ e ∙ sym (ap (λ (k : Clocks). k.cycle) told_is))

      pub shows_coming : (b : Bool) → b ≡ must_show (machine_of y) told.next told.after last → not b ≡ at_last y (registers_of y.bench.circuit) q (shows_anything (machine_of y) (told_to y) q)
      shows_coming b is = ∥∥₁_elim y.standing (Bool-set _ _) (λ st.
          last_is y _ q (shows_anything (machine_of y) (told_to y) q) _ some h (ap not (rw told_is at is) ∙ shown_coming _ _ _ _ last y.room (rw moment_is at st) q h comes))

      pub takes_coming : (signal : ℕ) (bit : Option Bool) → signal ≡ takes y.bench.circuit.registers.now q →
          bit ≡ still (kept y.room.state.past signal) (first_seen (machine_of y) told.next) (min (end_seen (machine_of y) told.next) (2 ^ 64 - 1)) →
          is_none bit ≡ at_last y (registers_of y.bench.circuit) q (takes_anything (machine_of y) (told_to y) q)
      takes_coming signal bit is seen = ∥∥₁_elim y.standing (Bool-set _ _) (λ st.
          last_is y _ q (takes_anything (machine_of y) (told_to y) q) _ some h
          (taken_coming _ _ _ _ last y.room (rw moment_is at st) q h (omega (arith, y.within, y.small)) signal bit is (rw told_is at seen) comes))
