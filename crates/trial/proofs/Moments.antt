-- One moment of a room that stands.
use Rattle.std.proofs.Common.{◌≡◌, ℕ, zero, suc, ◌+◌, ◌-◌, ◌*◌, ◌^◌, ◌<◌, ◌≤◌, Bool, false, ◌⊎◌, List, length, get_or, Ok, Err, vec_items, Result, refl, ap, ◌∙◌, inl, inr, arith, MatchResult}
use Rattle.std.proofs.lemmas.Nat.{mul-le}
use Rattle.std.proofs.lemmas.Bool.{cases_lt}
use Rattle.circuit.specs.Checked.{of, registers_of}
use Rattle.circuit.specs.Lent.{register_count, period}
use Rattle.circuit.specs.Whole.{Small}
use Rattle.circuit.specs.declared.circuit.Circuit.{Circuit}
use Rattle.circuit.specs.declared.refusal.Refusal.{Refusal}
use Rattle.circuit.proofs.Joined.{small_registers, small_times}
use Rattle.promise.specs.Machine.{Machine, machine_in}
use Rattle.promise.specs.Run.{Run}
use Rattle.simulation.specs.Simulated.{Told, cycle, run_bits, run_waves}
use Rattle.simulation.proofs.Running.{cycle_from, simulated_is_run}
use Rattle.step.specs.Lent.{EnoughTold, TooFew, TellsRegister, clocks_at}
use Rattle.step.specs.Stands.{Ready, Steps, Given, cycle_of}
use Rattle.step.specs.declared.told.Clocks.{Clocks}
use Rattle.step.specs.declared.told.Delays.{Delays}
use Rattle.step.specs.declared.told.Now.{Now}
use Rattle.step.proofs.Remembering.{wide_same}
use Rattle.step.proofs.Going.{at_most_next}
use Rattle.clocks.specs.Benches.{SmallClock}
use Rattle.script.specs.declared.script.Script.{Script}
use Rattle.script.specs.Told.{told_by, clock_told}
use Rattle.script.proofs.Telling.{may_be_told}
use Rattle.telling.specs.Parts.{ComesTo}
use Rattle.telling.specs.Knows.{Suits, ToldOn}
use Rattle.trial.specs.declared.room.Room.{Room}
use Rattle.trial.specs.Standing.{ReadyToGo, Standing, Goes}

module _ (s : Script) (g r ts : List ℕ) where
  abbrev m : Machine
  m = machine_in g r ts

  abbrev x : Told
  x = told_by s g r ts

  pub ready_of : ReadyToGo s g r ts → Ready m x
  ready_of ready = record { runnable = record { formed = ready.formed; some_moment = ready.some_moment }; may = may_be_told s g r ts ready.formed ready.some_period ready.fits }

  -- it makes one of the runs that passing speaks of
  pub run_of : ReadyToGo s g r ts → Run m x.start x.clock (run_bits m x) (run_waves m x)
  run_of ready = let go = ready_of ready in simulated_is_run m x go.runnable go.may

  -- a cycle that has come began by now
  pub begun : (ready : ReadyToGo s g r ts) (t q : ℕ) → q < register_count r → (cycle m x q t * period ts ≤ t) × (cycle m x q t ≤ t)
  begun ready t q h = elim (cycle_from m x (ready_of ready).runnable (ready_of ready).may q t h) [
    | inl z ↦ rw z (omega arith, omega arith)
    | inr l ↦
        let n = cycle m x q t in
        let b = (ready_of ready).may.clocks n q h in
        let times : n * 1 ≤ n * period ts = mul-le n 1 n (period ts) (omega arith) ready.some_period in
        (omega arith, omega arith)
  ]

  -- so no clock is too large
  small_clocks : (ready : ReadyToGo s g r ts) → ((p : ℕ) → Small g r ts p) → (t q n : ℕ) → q < register_count r → t < 2 ^ 60 → n ≤ cycle m x q t → SmallClock ts (suc (suc (suc n))) (clock_told s g r ts (suc (suc n)) q)
  unfolding told_by
  small_clocks ready small t q n h early l =
      let b = begun ready t q h in
      let p = small_times g r ts small 0 in
      let d = small_registers g r ts small (3 * q + 2) in
      let c = (ready_of ready).may.clocks (suc (suc n)) q h in
      let less : n * period ts ≤ cycle m x q t * period ts = mul-le n (period ts) (cycle m x q t) (period ts) l (omega arith) in
      record { cycle = omega arith; begins = omega arith; clock = omega arith }

-- a register stands in the cycle in which it stood a moment ago, or in the next
pub near : (m : Machine) (x : Told) (q t : ℕ) → (cycle m x q t ≡ cycle m x q (t - 1)) ⊎ (cycle m x q t ≡ suc (cycle m x q (t - 1)))
near m x q zero = inl refl
near m x q (suc t) =
    let e : suc t - 1 ≡ t = omega arith in
    let n = at_most_next m x q t in
    rw e (elim (cases_lt (cycle m x q t) (cycle m x q (suc t))) [ inl l ↦ inr (omega arith) | inr l ↦ inl (omega arith) ])

module _ (s : Script) (c : Circuit) (t : ℕ) (y : Room) (standing : of c (Standing s) t y) where
  abbrev runs : Machine
  runs = of c machine_in

  abbrev tells : Told
  tells = of c (told_by s)

  -- a room that stands suits its circuit
  suits : Suits c (vec_items y.state.cycles) y.teller
  suits = record { sized = standing.knows.sized; cycles_each = standing.roomy.cycles_each }

  module _ (early : t < 2 ^ 60) where
    near_told : (q : ℕ) → q < registers_of c → (cycle_of y.state q ≡ (clocks_at (vec_items y.teller.clocks) q).cycle) ⊎ (cycle_of y.state q ≡ suc (clocks_at (vec_items y.teller.clocks) q).cycle)
    near_told q h = rw ((standing.stands.registers q h).shown, standing.stood q h) (near runs tells q t)

    comes_to : of c (ComesTo s) (vec_items y.state.cycles) (vec_items y.teller.clocks)
    comes_to = record {
      near = near_told;
      small = λ q h.
          let shown = (standing.stands.registers q h).shown in
          small_clocks s c.gates.now c.registers.now c.times.now standing.ready c.small t q (clocks_at (vec_items y.teller.clocks) q).cycle h early
          (elim (near_told q h) [ inl e ↦ omega (arith, e) | inr e ↦ omega (arith, e) ]);
    }

    module _ (y' : Room) (told : of c (ToldOn s) t (vec_items y.state.cycles) y.teller y'.teller) (now : Now) (moment : now.moment ≡ t) (delays : now.delays.now ≡ vec_items y'.teller.delays.values)
        (shows : now.shows.now ≡ vec_items y'.teller.shows.values) (clocks : now.clocks.now ≡ vec_items y'.teller.clocks) where
      -- and tells enough
      enough : (e : Refusal) → TooFew c now y.state e → ⊥
      enough e few =
          let k = (told.knows standing.knows comes_to).sized in
          let d = k.delays_sized in
          let w = k.shows_sized in
          let l = k.clocks_sized in
          let n = standing.roomy.cycles_each in
          elim few [
            | inl (inl a, b) ↦ omega arith
            | inl (inr (inl a), b) ↦ omega (arith, ap (λ (xs : List Bool). length xs) shows)
            | inl (inr (inr a), b) ↦ omega (arith, ap (λ (xs : List Clocks). length xs) clocks)
            | inr (a, b, f, h, i) ↦ omega (arith, ap (λ (xs : List Delays). length xs) delays)
          ]

      went_on : y'.latest ≡ y.latest → of c Steps now y.state y'.state → of c (Standing s) (suc t) y'
      went_on latest steps =
          let registers : (q : ℕ) → q < registers_of c → TellsRegister runs tells now.moment q (cycle_of y.state q) (get_or now.shows.now q false) (clocks_at now.clocks.now q) =
          λ q h. rw (moment, shows, clocks) (told.registers standing.knows comes_to q h) in
          let given : of c Given tells now y.state =
          record { ready = ready_of s c.gates.now c.registers.now c.times.now standing.ready; wide = standing.roomy.wide; rows = standing.roomy.rows; tells = registers; stands = rw moment standing.stands } in
          let after = rw moment at (steps.goes tells given (rw (moment, delays) (told.gates standing.knows))) in
          record {
            ready = standing.ready;
            roomy = record {
              wide = wide_same steps.past_size standing.roomy.wide;
              rows = steps.bits_size.rows_same ∙ standing.roomy.rows;
              cycles_each = omega (arith, standing.roomy.cycles_each, steps.cycles_size);
              latest = λ q h. rw latest (standing.roomy.latest q h);
              apart = λ q h. rw (latest, steps.bits_size.span_same) (standing.roomy.apart q h);
              small = rw latest standing.roomy.small;
            };
            stands = after;
            knows = told.knows standing.knows comes_to;
            stood = λ q h. let e : suc t - 1 ≡ t = omega arith in rw e (told.stand q h ∙ (standing.stands.registers q h).shown);
          }

-- a moment that is told and gone
module _ (s : Script) (c : Circuit) (t : ℕ) (y y' : Room) (latest : y'.latest ≡ y.latest) where
  pub gone : (res : Result (Unit {0}) Refusal) → of c (ToldOn s) t (vec_items y.state.cycles) y.teller y'.teller → (now : Now) → now.moment ≡ t → now.delays.now ≡ vec_items y'.teller.delays.values →
      now.shows.now ≡ vec_items y'.teller.shows.values → now.clocks.now ≡ vec_items y'.teller.clocks →
      MatchResult res (λ _. EnoughTold c now y.state × of c Steps now y.state y'.state) (λ e. TooFew c now y.state e × (y'.state ≡ y.state)) → of c (Goes s) t y y' res
  gone (Ok v) told now moment delays shows clocks steps = record {
    latest_same = latest;
    goes = λ standing early. (refl, went_on s c t y standing early y' told now moment delays shows clocks latest steps.1);
  }
  gone (Err e) told now moment delays shows clocks few = record {
    latest_same = latest;
    goes = λ standing early. absurd (enough s c t y standing early y' told now moment delays shows clocks e few.0);
  }

  -- a room that stands is never refused
  pub refused : (e : Refusal) → (Suits c (vec_items y.state.cycles) y.teller → ⊥) → of c (Goes s) t y y' (Err e)
  refused e unfit = record { latest_same = latest; goes = λ standing early. absurd (unfit (suits s c t y standing)) }
