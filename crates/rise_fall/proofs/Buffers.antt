-- Boards and circuits of one buffer: where weaker rules are wrong, and where times by transition pass more.
use Rattle.std.proofs.Common.{◌≡◌, ℕ, suc, ◌+◌, ◌-◌, ◌<◌, ◌≤◌, Bool, true, false, cond, refl, subst, inl, inr, arith}
use Rattle.std.proofs.Common.{[], ◌∷◌, zero, ◌*◌, eqb, nat_lt}
use Rattle.std.proofs.lemmas.Bool.{cases_lt, le-ltb, cases_eq, lt-ltb, eq-eqb, ne_eqb}
use Rattle.circuit.specs.Circuit.{gate, along}
use Rattle.circuit.specs.Gate.{output}
use Rattle.drawing.specs.Drawing.{ideal}
use Rattle.arrival.specs.Arrival.{arrival}
use Rattle.arrival.specs.Window.{Wave}
use Rattle.board.specs.Board.{Board, since, still_until, Formed, launch_cycle}
use Rattle.rise_fall.specs.Gate.{ago, Sees, RiseFallFollows}
use Rattle.rise_fall.specs.Promise.{sources_in, stable_in}
use Rattle.rise_fall.specs.Times.{delayed, stable}
use Rattle.rise_fall.specs.Weaker.{buffer, slow_fall, LengthMatters, zero_rise, ZeroIsOne}
use Rattle.rise_fall.specs.Widest.{equal_bounds, EqualBoundsPassMore}
use Rattle.rise_fall.proofs.Keeping.{seen_from, seen_until}
use Rattle.rise_fall.proofs.Merging.{each, buffer_between}
use Rattle.rise_fall.proofs.Seeing.{sees_by}

-- the input is 1 at moment 3 only, and the output never
up_once : ℕ → Wave
up_once zero t = eqb t 3
up_once (suc k) t = false

waits : ℕ → ℕ
waits t = cond (eqb t 5) 3 2

waits_within : (t : ℕ) → (2 ≤ waits t) × (waits t ≤ cond (eqb (t - 1) 3) 2 6)
unfolding waits
waits_within t = elim (cases_eq t 5) [
  | inl e ↦ rw e (omega arith, omega arith)
  | inr other ↦ elim (cases_eq (t - 1) 3) [
    | inl e ↦ rw (ne_eqb t 5 other, eq-eqb (t - 1) 3 e) (omega arith, omega arith)
    | inr o ↦ rw (ne_eqb t 5 other, ne_eqb (t - 1) 3 o) (omega arith, omega arith)
  ]
]

unseen : (t : ℕ) → eqb (t - waits t) 3 ≡ false
unfolding waits
unseen t = elim (cases_eq t 5) [
  | inl e ↦ rw e
  | inr other ↦ rw (ne_eqb t 5 other) (ne_eqb (t - 2) 3 (λ e. other (omega arith)))
]

sees_none : (t : ℕ) → Sees slow_fall.one (ago (λ i. up_once 0 0) (up_once 0) t) false
unfolding up_once
sees_none t = subst (λ v. Sees slow_fall.one (ago (λ i. up_once 0 0) (up_once 0) t) v) (unseen t)
    (sees_by slow_fall.one (up_once 0) t (waits t) (waits_within t).0 (waits_within t).1)

follows_none : (k t : ℕ) → k < 1 →
    RiseFallFollows (gate buffer k) slow_fall
    (ago (λ i. up_once (gate buffer k).one 0) (up_once (gate buffer k).one) t)
    (ago (λ i. up_once (gate buffer k).two 0) (up_once (gate buffer k).two) t) (up_once (1 + k) t)
unfolding up_once output
follows_none zero t h =
    record { bit_one = false; bit_two = false; sees_one = sees_none t; sees_two = sees_none t; is = refl }
follows_none (suc k) t h = absurd (omega arith)

pub length_matters : LengthMatters
unfolding up_once ideal along output
length_matters = (
  up_once,
  (λ s i. up_once s 0, follows_none),
  (λ t a z. eq-eqb t 3 (omega arith)),
  omega arith,
  omega arith,
  refl,
  refl,
)

-- the input rises at moment 3, and the output a moment later
up_late : ℕ → Wave
up_late zero t = nat_lt 2 t
up_late (suc k) t = nat_lt 3 t

holds_back : ℕ → ℕ
holds_back t = cond (nat_lt t 4) 1 0

holds_within : (t : ℕ) → (0 ≤ holds_back t) × (holds_back t ≤ cond (nat_lt 2 (t - 1)) 0 5)
unfolding holds_back
holds_within t = elim (cases_lt t 4) [
  | inl h ↦ rw (lt-ltb t 4 h, le-ltb 2 (t - 1) (omega arith)) (omega arith, omega arith)
  | inr h ↦ rw (le-ltb t 4 h, lt-ltb 2 (t - 1) (omega arith)) (omega arith, omega arith)
]

held_back : (t : ℕ) → nat_lt 2 (t - holds_back t) ≡ nat_lt 3 t
unfolding holds_back
held_back t = elim (cases_lt t 4) [
  | inl h ↦ rw (lt-ltb t 4 h, le-ltb 2 (t - 1) (omega arith), le-ltb 3 t (omega arith))
  | inr h ↦ rw (le-ltb t 4 h, lt-ltb 2 (t - 0) (omega arith), lt-ltb 3 t (omega arith))
]

sees_late : (t : ℕ) → Sees zero_rise.one (ago (λ i. up_late 0 0) (up_late 0) t) (nat_lt 3 t)
unfolding up_late
sees_late t = subst (λ v. Sees zero_rise.one (ago (λ i. up_late 0 0) (up_late 0) t) v) (held_back t)
    (sees_by zero_rise.one (up_late 0) t (holds_back t) (holds_within t).0 (holds_within t).1)

passes_on : (v : Bool) → v ≡ output 10 v v
unfolding output
passes_on true = refl
passes_on false = refl

follows_late : (k t : ℕ) → k < 1 →
    RiseFallFollows (gate buffer k) zero_rise
    (ago (λ i. up_late (gate buffer k).one 0) (up_late (gate buffer k).one) t)
    (ago (λ i. up_late (gate buffer k).two 0) (up_late (gate buffer k).two) t) (up_late (1 + k) t)
unfolding up_late
follows_late zero t h = record {
  bit_one = nat_lt 3 t;
  bit_two = nat_lt 3 t;
  sees_one = sees_late t;
  sees_two = sees_late t;
  is = passes_on (nat_lt 3 t);
}
follows_late (suc k) t h = absurd (omega arith)

pub zero_is_one : ZeroIsOne
unfolding up_late ideal along output
zero_is_one = (up_late, (λ s i. up_late s 0, follows_late), (λ t a. lt-ltb 2 t (omega arith)), refl, refl, refl)

-- a register behind a buffer that takes its bit by the first input, after 1 moment; the second input, which the table
-- ignores, takes up to 9 moments, and the period is 4
slow_second : Board
slow_second = record {
  registers = 1;
  circuit = record {
    inputs = 1;
    gates =
        record { one = 0; two = 0; table = 10; least_one = 1; greatest_one = 1; least_two = 1; greatest_two = 9 } ∷ [];
  };
  takes = λ r. 1;
  takes_at = λ r n. true;
  early = λ r. 0;
  late = λ r. 0;
  input_early = λ i. 0;
  input_late = λ i. 0;
  period = 4;
  output_early = 0;
  output_late = 0;
  setup = 0;
  hold = 0;
}

slow_second_formed : Formed slow_second
unfolding slow_second
slow_second_formed = record {
  sources = omega arith;
  sound = record { before = each 1 _ (omega arith); ranges = each 1 _ (omega arith) };
  taken = each 1 _ (omega arith);
  clocked = each 1 _ (omega arith);
  inputs_ordered = λ i a z. absurd (omega arith);
  output_ordered = omega arith;
}

launch_each : (n : ℕ) → launch_cycle slow_second 0 n ≡ n
unfolding slow_second launch_cycle
launch_each zero = refl
launch_each (suc n) = refl

slow_second_stable : (n : ℕ) (b : Bool) →
    ((stable_in slow_second (λ k. equal_bounds (gate slow_second.circuit k)) n 1).from b ≤ n * 4 + 1)
    × (suc n * 4 + 1 ≤ (stable_in slow_second (λ k. equal_bounds (gate slow_second.circuit k)) n 1).until b)
unfolding slow_second stable along since still_until
slow_second_stable n b =
    let g = gate slow_second.circuit 0 in
    let x = sources_in slow_second n 0 in
    let e = launch_each n in
    let between = buffer_between g refl (delayed (equal_bounds g).one x) (delayed (equal_bounds g).two x) b in
    let from = seen_from (equal_bounds g).one x b (n * 4) 1 (λ v. omega arith) (omega arith) in
    let until = seen_until (equal_bounds g).one x b (suc n * 4) 1 (λ v. omega arith) (omega arith) in
    (omega arith, omega arith)

pub equal_bounds_pass_more : EqualBoundsPassMore
unfolding slow_second arrival along since
equal_bounds_pass_more = (
  slow_second,
  record {
    formed = slow_second_formed;
    setup_kept = λ n r h e b. let s = slow_second_stable n b in omega arith;
    hold_kept = λ n. each 1 _ ((λ e b. let s = slow_second_stable n b in omega arith), tt);
  },
  (λ passed. let s = passed.setup_kept 0 0 (omega arith) refl in absurd (omega arith)),
)
