-- A run beside its drawing: before its first moment, one cycle further, and where they differ.
use Rattle.std.proofs.Common.{◌≡◌, ℕ, suc, ◌+◌, ◌-◌, ◌<◌, min, Bool, true, false, List, [], ◌∷◌, ◌++◌, length, Some, None, Option, Ok, Err, Result, is_ok, vec_items, sym, refl, ◌∙◌, inl, inr, arith, below_more, length-append}
use mathlib.Core.Bool.{Bool-set}
use mathlib.Core.Logic.{∥∥₁_elim}
use Rattle.std.proofs.lemmas.List.{get_or_append_left, get_or-append_right}
use Rattle.circuit.specs.Filled.{Filled}
use Rattle.circuit.specs.Checked.{of, registers_of, signals_of}
use Rattle.circuit.specs.Lent.{takes}
use Rattle.circuit.specs.declared.circuit.Circuit.{Circuit}
use Rattle.circuit.specs.declared.refusal.Refusal.{Refusal}
use Rattle.circuit.proofs.Known.{sound_of, taken_of}
use Rattle.circuit.proofs.LentLaws.{gates_in_length}
use Rattle.drawing.specs.Drawing.{held}
use Rattle.drawing.specs.Lent.{bit_at, drawing_of, Cycled, CyclesAnswer}
use Rattle.drawing.proofs.IdealLaws.{ideal_agrees}
use Rattle.promise.specs.Machine.{Passed, drawing}
use Rattle.simulation.specs.Simulated.{bits, run_bits}
use Rattle.script.specs.Told.{start_told, told_by}
use Rattle.clocks.specs.declared.bench.Bench.{Bench}
use Rattle.trial.specs.declared.running.Trial.{Trial}
use Rattle.trial.specs.Made.{machine_of, told_to, Begun, CycleDone}
use Rattle.trial.proofs.Runs.{drawn_bits}
use Rattle.watch.specs.declared.watch.Watch.{Watch}
use Rattle.watch.specs.Bits.{BitsOf, FirstDifference}
use Rattle.watch.specs.Watched.{Watched}

-- the values of f, one after another
pub no_bits : (f : ℕ → Bool) → BitsOf 0 f []
no_bits f = record { count = refl; each = λ q h. absurd (omega arith) }

pub bits_more : (n : ℕ) (f : ℕ → Bool) (xs : List Bool) (b : Bool) → b ≡ f n → BitsOf n f xs → BitsOf (n + 1) f (xs ++ b ∷ [])
bits_more n f xs b is so_far =
    let none : n - n ≡ 0 = omega arith in
    let last : bit_at (xs ++ b ∷ []) n ≡ b = get_or-append_right xs (b ∷ []) n n false so_far.count (omega arith) ∙ rw none refl in
    record {
      count = length-append xs (b ∷ []) ∙ omega (arith, so_far.count);
      each = below_more (λ q. bit_at (xs ++ b ∷ []) q ≡ f q) n (λ q h. get_or_append_left xs (b ∷ []) false q (omega (arith, so_far.count)) ∙ so_far.each q h) (last ∙ is);
    }

-- before the first moment the bits are the start's
module _ (bench : Bench) (y : Trial) (begun : Begun bench y) (xs : List Bool) (start : BitsOf (registers_of bench.circuit) (of bench.circuit (start_told bench.script.now)) xs) where
  pub start_size : length xs ≡ registers_of y.bench.circuit
  start_size = rw begun.bench_same start.count

  pub start_run : (q : ℕ) → q < registers_of y.bench.circuit → bit_at xs q ≡ run_bits (machine_of y) (told_to y) y.done q
  unfolding bits told_by
  start_run = rw (begun.bench_same, begun.done) start.each

  pub start_drawn : (q : ℕ) → q < registers_of y.bench.circuit → bit_at xs q ≡ drawing (machine_of y) (told_to y).start y.done q
  unfolding held told_by
  start_drawn = rw (begun.bench_same, begun.done) start.each

  pub room_size : (n : ℕ) → n ≡ signals_of bench.circuit → n ≡ signals_of y.bench.circuit
  room_size n e = rw begun.bench_same e

-- the drawing, one cycle further
drawn_next : (c : Circuit) (start : ℕ → Bool) (n : ℕ) (before after : List Bool) → ((q : ℕ) → q < registers_of c → bit_at before q ≡ held (drawing_of c) (takes c.registers.now) start n q) →
    Filled false (registers_of c) (held (drawing_of c) (takes c.registers.now) (bit_at before) 1) before after →
    (q : ℕ) → q < registers_of c → bit_at after q ≡ held (drawing_of c) (takes c.registers.now) start (suc n) q
unfolding held
drawn_next c start n before after so filled q h =
    filled.filled q h
    ∙ ideal_agrees (drawing_of c) (sound_of c) (bit_at before) (held (drawing_of c) (takes c.registers.now) start n) so (takes c.registers.now q) (omega (arith, taken_of c q h, gates_in_length c.gates.now))

-- there is room for it
has_room : (c : Circuit) (b b' s s' : List Bool) (res : Result (Unit {0}) Refusal) → length b ≡ registers_of c → length s ≡ signals_of c → CyclesAnswer c 1 b b' s s' res →
    (is_ok res ≡ true) × Cycled c.gates.now c.registers.now 1 b b' s s'
has_room c b b' s s' (Ok v) bits signals answer = (refl, answer.1)
has_room c b b' s s' (Err e) bits signals answer = absurd (elim answer.0 [ inl few ↦ omega arith | inr few ↦ omega arith ])

-- and so the drawing goes on
pub goes_on : (y : Watch) (z : Trial) → z.bench ≡ y.trial.bench → (c : Circuit) → c ≡ z.bench.circuit → (b b' s s' : List Bool) (res : Result (Unit {0}) Refusal) → b ≡ vec_items y.drawn → s ≡ vec_items y.signals →
    CyclesAnswer c 1 b b' s s' res → (is_ok res ≡ true) × Cycled c.gates.now c.registers.now 1 b b' s s'
goes_on y z same c is b b' s s' res be se answer = has_room c b b' s s' res (rw (is, same, be) y.drawn_size) (rw (is, same, se) y.signals_size) answer

-- bits that are one cycle further
module _ (y : Watch) (z : Trial) (before xs : List Bool) (done : CycleDone y.trial z before xs) (new : List Bool) where
  pub next_registers : length new ≡ registers_of y.trial.bench.circuit → length new ≡ registers_of z.bench.circuit
  next_registers size = rw done.bench_same size

  pub next_signals : length new ≡ signals_of y.trial.bench.circuit → length new ≡ signals_of z.bench.circuit
  next_signals size = rw done.bench_same size

  pub next_run : new ≡ xs → (q : ℕ) → q < registers_of z.bench.circuit → bit_at new q ≡ run_bits (machine_of z) (told_to z) z.done q
  next_run e = rw (e, done.bench_same, done.one_more) done.bits.filled

  pub next_drawn : (c : Circuit) → c ≡ z.bench.circuit → (b zs s s' : List Bool) → b ≡ vec_items y.drawn → Cycled c.gates.now c.registers.now 1 b zs s s' → new ≡ zs →
      (q : ℕ) → q < registers_of z.bench.circuit → bit_at new q ≡ drawing (machine_of z) (told_to z).start z.done q
  next_drawn c same b zs s s' was cycled e =
      let filled = rw (same, done.bench_same, was) at cycled.bits_held in
      rw (e, done.bench_same, done.one_more) (drawn_next y.trial.bench.circuit (told_to y.trial).start y.trial.done (vec_items y.drawn) zs y.as_drawn filled)

-- one cycle further
pub watched : (y y' : Watch) (before after : List Bool) → CycleDone y.trial y'.trial before after → Watched y y'
watched y y' before after done =
    let run = rw (done.bench_same, done.one_more) at y'.as_run in
    let drawn = rw (done.bench_same, done.one_more) at y'.as_drawn in
    record {
      bench_same = done.bench_same;
      one_more = done.one_more;
      gone = done.gone;
      held = record { count = rw done.bench_same at y'.held_size; each = run };
      drawn = record { count = rw done.bench_same at y'.drawn_size; each = drawn };
      passed = λ p q h. run q h ∙ done.drawn p q h ∙ sym (drawn q h);
    }

module _ (y : Watch) where
  abbrev runs : ℕ → Bool
  runs = run_bits (machine_of y.trial) (told_to y.trial) y.trial.done

  abbrev draws : ℕ → Bool
  draws = drawing (machine_of y.trial) (told_to y.trial).start y.trial.done

  -- where the bits differ the run differs from its drawing
  pub differs : (o : Option ℕ) → FirstDifference (min (length (vec_items y.held)) (length (vec_items y.drawn))) (bit_at (vec_items y.held)) (bit_at (vec_items y.drawn)) o → FirstDifference (registers_of y.trial.bench.circuit) runs draws o
  differs None all = λ q h. sym (y.as_run q h) ∙ all q (omega (arith, y.held_size, y.drawn_size)) ∙ y.as_drawn q h
  differs (Some q) (l, other, same) =
      let h : q < registers_of y.trial.bench.circuit = omega (arith, y.held_size, y.drawn_size) in (
        h,
        λ e. other (y.as_run q h ∙ e ∙ sym (y.as_drawn q h)),
        λ p less. let k : p < registers_of y.trial.bench.circuit = omega arith in sym (y.as_run p k) ∙ same p less ∙ y.as_drawn p k,
      )

  -- a passed machine's does not
  pub never : (o : Option ℕ) → FirstDifference (registers_of y.trial.bench.circuit) runs draws o → Passed (machine_of y.trial) → o ≡ None
  never None all passed = refl
  never (Some q) (h, other, same) passed = absurd (other (∥∥₁_elim y.trial.standing (Bool-set _ _) (λ st. drawn_bits _ _ _ _ st.ready passed y.trial.done q h)))
