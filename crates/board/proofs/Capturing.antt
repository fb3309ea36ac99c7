-- The sums as the capturing register sees them.
use Rattle.std.proofs.Common.{◌≡◌, ℕ, zero, suc, ◌+◌, ◌*◌, ◌%◌, ◌<◌, ◌≤◌, true, false, eqb, min, max, sym, refl, ap}
use Rattle.std.proofs.Common.{◌∙◌, inl, inr}
use Rattle.std.proofs.Common.{arith}
use Rattle.std.proofs.Math.Nat.{add-mul, mul-add}
use Rattle.std.proofs.lemmas.Bool.{cases_lt, ne_eqb, cases_Bool, true≢false, lt-ltb, le-ltb, eq-eqb, eqb-true}
use Rattle.std.proofs.lemmas.Bool.{cond-true, cond-false}
use Rattle.circuit.specs.Circuit.{signals, Sound}
use Rattle.arrival.specs.declared.edge.Edge.TheVariants.{Late, Early}
use Rattle.arrival.proofs.ArrivalLaws.{shifts, agrees}
use Rattle.board.specs.declared.mark.Mark.{Mark}
use Rattle.board.specs.declared.mark.Mark.TheVariants.{Every, Odd, Even, Second}
use Rattle.board.specs.Board.{Board, Formed, Passed, launch_cycle, until_cycle, since, still_until}
use Rattle.board.specs.Marks.{takes_by, Marked, KeptIn, TwoCycles}
use Rattle.board.specs.Capture.{in_phase, out_of_phase, cycles_before, launch_offset, held_over, late_source}
use Rattle.board.specs.Capture.{early_source}
use Rattle.board.specs.Capture.{late_time, early_time, MetByCapture, TimesOfCycles, PassedByCapture, CaptureTimes}
use Rattle.board.specs.Capture.{LongerPeriod, SecondIsOdd, UnmarkedIsPlain, PlainTimes, MachineTimes, plain_late}
use Rattle.board.specs.Capture.{plain_early}
use Rattle.board.specs.Promise.{board_of, with_period}
use Rattle.promise.specs.Machine as base
use Rattle.board.proofs.Keeping.{since_register, since_input, until_register, until_input, launch_anew, launch_before}
use Rattle.board.proofs.Keeping.{until_next, until_after}
use Rattle.board.proofs.Comparing.{worse_of_two, later, sooner, times_more, launch_by_now, until_past_now}
use Rattle.board.proofs.Cycles.{one_of_two}

-- `Odd` and `Even` take in turn
even_is : (n : ℕ) → takes_by Even (suc n) ≡ eqb (suc n % 2) 0
even_is n = rw (lt-ltb 0 (suc n) (omega arith)) refl

odd_before : (n : ℕ) → takes_by Odd (suc n) ≡ true → takes_by Odd n ≡ false
odd_before n e = let o = eqb-true (suc n % 2) 1 e in ne_eqb (n % 2) 1 (λ z. omega arith)

even_before : (n : ℕ) → takes_by Even (suc n) ≡ true → takes_by Even n ≡ false
even_before zero e = refl
even_before (suc n) e =
    let o = eqb-true (suc (suc n) % 2) 0 (sym (even_is (suc n)) ∙ e) in
    even_is n ∙ ne_eqb (suc n % 2) 0 (λ z. omega arith)

odd_even_before : (n : ℕ) → 1 ≤ n → takes_by Odd (suc n) ≡ true → takes_by Even n ≡ true
odd_even_before zero h e = absurd (omega arith)
odd_even_before (suc n) h e =
    let o = eqb-true (suc (suc n) % 2) 1 e in even_is n ∙ eq-eqb (suc n % 2) 0 (omega arith)

even_odd_before : (n : ℕ) → takes_by Even (suc n) ≡ true → takes_by Odd n ≡ true
even_odd_before n e =
    let o = eqb-true (suc n % 2) 0 (sym (even_is n) ∙ e) in eq-eqb (n % 2) 1 (omega arith)

odd_now : (n : ℕ) → takes_by Odd n ≡ true → takes_by Even n ≡ false
odd_now zero e = refl
odd_now (suc n) e = let o = eqb-true (suc n % 2) 1 e in even_is n ∙ ne_eqb (suc n % 2) 0 (λ z. omega arith)

even_now : (n : ℕ) → takes_by Even n ≡ true → takes_by Odd n ≡ false
even_now zero e = refl
even_now (suc n) e =
    let o = eqb-true (suc n % 2) 0 (sym (even_is n) ∙ e) in ne_eqb (suc n % 2) 1 (λ z. omega arith)

-- a source in phase with a capturing register does not take at the beginning of the cycle of capture
in_phase_before : (c s : Mark) (n : ℕ) → takes_by c (suc n) ≡ true → in_phase c s ≡ true → takes_by s n ≡ false
in_phase_before Odd Odd n e f = odd_before n e
in_phase_before Odd Second n e f = odd_before n e
in_phase_before Second Odd n e f = odd_before n e
in_phase_before Second Second n e f = odd_before n e
in_phase_before Even Even n e f = even_before n e
in_phase_before Every s n e f = absurd (true≢false (sym f))
in_phase_before Odd Every n e f = absurd (true≢false (sym f))
in_phase_before Odd Even n e f = absurd (true≢false (sym f))
in_phase_before Second Every n e f = absurd (true≢false (sym f))
in_phase_before Second Even n e f = absurd (true≢false (sym f))
in_phase_before Even Every n e f = absurd (true≢false (sym f))
in_phase_before Even Odd n e f = absurd (true≢false (sym f))
in_phase_before Even Second n e f = absurd (true≢false (sym f))

-- and if the capturing mark is not `Every`, each other source does
rest_before : (c s : Mark) (n : ℕ) → 1 ≤ n → takes_by c (suc n) ≡ true → cycles_before c ≡ 1 → in_phase c s ≡ false →
    takes_by s n ≡ true
rest_before Every s n h e one f = absurd (omega arith)
rest_before c Every n h e one f = refl
rest_before Odd Even n h e one f = odd_even_before n h e
rest_before Second Even n h e one f = odd_even_before n h e
rest_before Even Odd n h e one f = even_odd_before n e
rest_before Even Second n h e one f = even_odd_before n e
rest_before Odd Odd n h e one f = absurd (true≢false f)
rest_before Odd Second n h e one f = absurd (true≢false f)
rest_before Second Odd n h e one f = absurd (true≢false f)
rest_before Second Second n h e one f = absurd (true≢false f)
rest_before Even Even n h e one f = absurd (true≢false f)

-- a source out of phase with it does not take at the end, and if the capturing mark is not `Every`, each other one does
out_of_phase_now : (c s : Mark) (n : ℕ) → takes_by c n ≡ true → out_of_phase c s ≡ true → takes_by s n ≡ false
out_of_phase_now Odd Even n e f = odd_now n e
out_of_phase_now Second Even n e f = odd_now n e
out_of_phase_now Even Odd n e f = even_now n e
out_of_phase_now Even Second n e f = even_now n e
out_of_phase_now Every s n e f = absurd (true≢false (sym f))
out_of_phase_now Odd Every n e f = absurd (true≢false (sym f))
out_of_phase_now Odd Odd n e f = absurd (true≢false (sym f))
out_of_phase_now Odd Second n e f = absurd (true≢false (sym f))
out_of_phase_now Second Every n e f = absurd (true≢false (sym f))
out_of_phase_now Second Odd n e f = absurd (true≢false (sym f))
out_of_phase_now Second Second n e f = absurd (true≢false (sym f))
out_of_phase_now Even Every n e f = absurd (true≢false (sym f))
out_of_phase_now Even Even n e f = absurd (true≢false (sym f))

rest_now : (c s : Mark) (n : ℕ) → takes_by c n ≡ true → cycles_before c ≡ 1 → out_of_phase c s ≡ false →
    takes_by s n ≡ true
rest_now Every s n e one f = absurd (omega arith)
rest_now c Every n e one f = refl
rest_now Odd Odd n e one f = e
rest_now Odd Second n e one f = e
rest_now Second Odd n e one f = e
rest_now Second Second n e one f = e
rest_now Even Even n e one f = e
rest_now Odd Even n e one f = absurd (true≢false f)
rest_now Second Even n e one f = absurd (true≢false f)
rest_now Even Odd n e one f = absurd (true≢false f)
rest_now Even Second n e one f = absurd (true≢false f)

at_most_one : (c : Mark) → cycles_before c ≤ 1
at_most_one Every = omega arith
at_most_one Odd = omega arith
at_most_one Even = omega arith
at_most_one Second = omega arith

-- a register that captures at the end of cycle 0 is unmarked
first_unmarked : (c : Mark) → takes_by c 0 ≡ true → cycles_before c ≡ 0
first_unmarked Every e = refl
first_unmarked Odd e = absurd (true≢false (sym e))
first_unmarked Even e = absurd (true≢false (sym e))
first_unmarked Second e = absurd (true≢false (sym e))

module _ (m : Board) (mark : ℕ → Mark) (c : Mark) (i : ℕ) where
  pub late_register : i < m.registers →
      late_source m mark c i ≡ launch_offset c (mark i) * m.period + (m.late i + m.output_late)
  late_register h = cond-true _ _ _ (lt-ltb i m.registers h)

  pub late_input : m.registers ≤ i → late_source m mark c i ≡ cycles_before c * m.period + m.input_late i
  late_input h = cond-false _ _ _ (le-ltb i m.registers h)

  pub early_register : i < m.registers →
      early_source m mark c i ≡ held_over c (mark i) * m.period + (m.early i + m.output_early)
  early_register h = cond-true _ _ _ (lt-ltb i m.registers h)

  pub early_input : m.registers ≤ i → early_source m mark c i ≡ m.input_early i
  early_input h = cond-false _ _ _ (le-ltb i m.registers h)

module _ (m : Board) (mark : ℕ → Mark) (marked : Marked m mark) where
  -- no launch is later, in a cycle of capture, than the sums have it
  launch_within : (c : Mark) (n r : ℕ) → takes_by c n ≡ true →
      cycles_before c + launch_cycle m r n ≤ n + launch_offset c (mark r)
  launch_within c zero r e = let f = first_unmarked c e in omega (arith, launch_by_now m r 0)
  launch_within c (suc n) r e = elim (cases_Bool (in_phase c (mark r))) [
    | inl f ↦
        let kept = launch_before m r n (marked r n ∙ in_phase_before c (mark r) n e f) in
        let z : launch_offset c (mark r) ≡ 0 = cond-true (in_phase c (mark r)) 0 (cycles_before c) f in
        omega (arith, launch_by_now m r n, at_most_one c)
    | inr f ↦
        let z : launch_offset c (mark r) ≡ cycles_before c = cond-false (in_phase c (mark r)) 0 (cycles_before c) f in
        omega (arith, launch_by_now m r (suc n))
  ]

  -- and no bit changes sooner
  until_within : (c : Mark) (n r : ℕ) → takes_by c n ≡ true → suc n + held_over c (mark r) ≤ until_cycle m r n
  until_within c n r e = elim (cases_Bool (out_of_phase c (mark r))) [
    | inl f ↦
        let z : held_over c (mark r) ≡ 1 = cond-true (out_of_phase c (mark r)) 1 0 f in
        omega (arith, until_after m r n (marked r n ∙ out_of_phase_now c (mark r) n e f))
    | inr f ↦ let z : held_over c (mark r) ≡ 0 = cond-false (out_of_phase c (mark r)) 1 0 f in
        omega (arith, until_past_now m r n)
  ]

  since_within : (c : Mark) (n i : ℕ) → takes_by c n ≡ true →
      cycles_before c * m.period + since m n i ≤ n * m.period + late_source m mark c i
  since_within c n i e = elim (cases_lt i m.registers) [
    | inl q ↦
        let t = times_more _ _ m.period (launch_within c n i e) in
        omega (
          arith,
          since_register m n i q,
          late_register m mark c i q,
          add-mul (cycles_before c) (launch_cycle m i n) m.period,
          add-mul n (launch_offset c (mark i)) m.period,
        )
    | inr q ↦ omega (arith, since_input m n i q, late_input m mark c i q)
  ]

  still_within : (c : Mark) (n i : ℕ) → takes_by c n ≡ true →
      suc n * m.period + early_source m mark c i ≤ still_until m n i
  still_within c n i e = elim (cases_lt i m.registers) [
    | inl q ↦
        let t = times_more _ _ m.period (until_within c n i e) in
        omega (
          arith,
          until_register m n i q,
          early_register m mark c i q,
          add-mul (suc n) (held_over c (mark i)) m.period,
        )
    | inr q ↦ omega (arith, until_input m n i q, early_input m mark c i q)
  ]

  -- what is right by capture is right in every cycle
  passes : MetByCapture m mark → Passed m
  passes right = record {
    formed = right.formed;
    setup_kept = λ n r h e.
        let c = mark r in
        let now : takes_by c n ≡ true = sym (marked r n) ∙ e in
        let l = later m.circuit right.formed.sound (cycles_before c * m.period) (n * m.period) (since m n)
        (late_source m mark c)
        (λ i _. since_within c n i now) (m.takes r) (right.formed.taken r h) in
        omega (arith, right.setup_met r h);
    hold_kept = λ n r h e.
        let c = mark r in
        let now : takes_by c n ≡ true = sym (marked r n) ∙ e in
        let l = sooner m.circuit right.formed.sound (suc n * m.period) 0 (early_source m mark c) (still_until m n)
        (λ i _. omega (arith, still_within c n i now)) (m.takes r) (right.formed.taken r h) in
        omega (arith, right.hold_met r h);
  }

  -- at a marked capture in cycle 3 or later the times are just these
  launch_at : (c : Mark) (n r : ℕ) → cycles_before c ≡ 1 → 2 ≤ n → takes_by c (suc n) ≡ true →
      launch_cycle m r (suc n) ≡ n + launch_offset c (mark r)
  launch_at c zero r one h e = absurd (omega arith)
  launch_at c (suc n) r one h e = elim (cases_Bool (in_phase c (mark r))) [
    | inl f ↦
        let z : launch_offset c (mark r) ≡ 0 = cond-true (in_phase c (mark r)) 0 (cycles_before c) f in
        let not_now = in_phase_before c (mark r) (suc n) e f in
        elim (one_of_two (mark r) n (omega arith)) [
          | inl g ↦
              omega (arith, launch_before m r (suc n) (marked r (suc n) ∙ not_now), launch_anew m r n (marked r n ∙ g))
          | inr g ↦ absurd (true≢false (sym g ∙ not_now))
        ]
    | inr f ↦
        let z : launch_offset c (mark r) ≡ cycles_before c = cond-false (in_phase c (mark r)) 0 (cycles_before c) f in
        omega (
          arith,
          launch_anew m r (suc n) (marked r (suc n) ∙ rest_before c (mark r) (suc n) (omega arith) e one f),
        )
  ]

  until_at : (c : Mark) (n r : ℕ) → cycles_before c ≡ 1 → takes_by c n ≡ true →
      until_cycle m r n ≡ suc n + held_over c (mark r)
  until_at c n r one e = elim (cases_Bool (out_of_phase c (mark r))) [
    | inl f ↦
        let z : held_over c (mark r) ≡ 1 = cond-true (out_of_phase c (mark r)) 1 0 f in
        omega (arith, until_after m r n (marked r n ∙ out_of_phase_now c (mark r) n e f))
    | inr f ↦
        let z : held_over c (mark r) ≡ 0 = cond-false (out_of_phase c (mark r)) 1 0 f in
        omega (arith, until_next m r n (marked r n ∙ rest_now c (mark r) n e one f))
  ]

  since_at : (c : Mark) (n i : ℕ) → cycles_before c ≡ 1 → 2 ≤ n → takes_by c (suc n) ≡ true →
      since m (suc n) i ≡ n * m.period + late_source m mark c i
  since_at c n i one h e = elim (cases_lt i m.registers) [
    | inl q ↦
        let t = ap (λ (x : ℕ). x * m.period) (launch_at c n i one h e) in
        omega (
          arith,
          since_register m (suc n) i q,
          late_register m mark c i q,
          add-mul n (launch_offset c (mark i)) m.period,
        )
    | inr q ↦
        let t = ap (λ (x : ℕ). x * m.period) one in
        omega (arith, since_input m (suc n) i q, late_input m mark c i q)
  ]

  still_at : (c : Mark) (n i : ℕ) → cycles_before c ≡ 1 → takes_by c n ≡ true →
      still_until m n i ≡ suc n * m.period + early_source m mark c i
  still_at c n i one e = elim (cases_lt i m.registers) [
    | inl q ↦
        let t = ap (λ (x : ℕ). x * m.period) (until_at c n i one e) in
        omega (
          arith,
          until_register m n i q,
          early_register m mark c i q,
          add-mul (suc n) (held_over c (mark i)) m.period,
        )
    | inr q ↦ omega (arith, until_input m n i q, early_input m mark c i q)
  ]

  -- and at an unmarked one the worse of two cycles in a row
  since_every : (n i : ℕ) → 2 ≤ n →
      max (m.period + since m n i) (since m (suc n) i) ≡ suc n * m.period + late_source m mark Every i
  since_every zero i h = absurd (omega arith)
  since_every (suc n) i h =
      let a = since_within Every (suc n) i refl in
      let b = since_within Every (suc (suc n)) i refl in
      elim (cases_lt i m.registers) [
        | inr q ↦ omega (arith, since_input m (suc (suc n)) i q, late_input m mark Every i q)
        | inl q ↦ elim (one_of_two (mark i) n (omega arith)) [
          | inl g ↦
              let t = ap (λ (x : ℕ). x * m.period) (launch_anew m i n (marked i n ∙ g)) in
              omega (arith, since_register m (suc n) i q, late_register m mark Every i q)
          | inr g ↦
              let t = ap (λ (x : ℕ). x * m.period) (launch_anew m i (suc n) (marked i (suc n) ∙ g)) in
              omega (arith, since_register m (suc (suc n)) i q, late_register m mark Every i q)
        ]
      ]

  still_every : (n i : ℕ) → 1 ≤ n →
      min (m.period + still_until m n i) (still_until m (suc n) i) ≡ suc
      (suc n) * m.period + early_source m mark Every i
  still_every n i h =
      let a = still_within Every n i refl in
      let b = still_within Every (suc n) i refl in
      elim (cases_lt i m.registers) [
        | inr q ↦ omega (arith, until_input m (suc n) i q, early_input m mark Every i q)
        | inl q ↦ elim (one_of_two (mark i) n h) [
          | inl g ↦
              let t = ap (λ (x : ℕ). x * m.period) (until_next m i n (marked i n ∙ g)) in
              omega (arith, until_register m n i q, early_register m mark Every i q)
          | inr g ↦
              let t = ap (λ (x : ℕ). x * m.period) (until_next m i (suc n) (marked i (suc n) ∙ g)) in
              omega (arith, until_register m (suc n) i q, early_register m mark Every i q)
        ]
      ]

  times : Sound m.circuit → TimesOfCycles m mark
  times sound = record {
    late_marked = λ c n k h one two e.
        agrees Late m.circuit (since m (suc n)) (λ i. n * m.period + late_source m mark c i) sound
        (λ i _. since_at c n i one two e) k h
        ∙ shifts Late m.circuit (late_source m mark c) (n * m.period) sound k h;
    early_marked = λ c n k h one two e.
        agrees Early m.circuit (still_until m (suc n)) (λ i. suc (suc n) * m.period + early_source m mark c i) sound
        (λ i _. still_at c (suc n) i one e) k h
        ∙ shifts Early m.circuit (early_source m mark c) (suc (suc n) * m.period) sound k h;
    late_unmarked = λ n k h three.
        let a = shifts Late m.circuit (since m n) m.period sound k h in
        let b = worse_of_two Late m.circuit sound (λ i. m.period + since m n i) (since m (suc n)) k h in
        let d = agrees Late m.circuit (λ i. max (m.period + since m n i) (since m (suc n) i))
        (λ i. suc n * m.period + late_source m mark Every i) sound
        (λ i _. since_every n i (omega arith)) k h in
        let e = shifts Late m.circuit (late_source m mark Every) (suc n * m.period) sound k h in
        omega arith;
    early_unmarked = λ n k h three.
        let a = shifts Early m.circuit (still_until m n) m.period sound k h in
        let b = worse_of_two Early m.circuit sound (λ i. m.period + still_until m n i) (still_until m (suc n)) k h in
        let d = agrees Early m.circuit (λ i. min (m.period + still_until m n i) (still_until m (suc n) i))
        (λ i. suc (suc n) * m.period + early_source m mark Every i) sound
        (λ i _. still_every n i (omega arith)) k h in
        let e = shifts Early m.circuit (early_source m mark Every) (suc (suc n) * m.period) sound k h in
        omega arith;
  }

  -- what is right in cycles 3 and 4 is right by capture
  module _ (formed : Formed m) (third : KeptIn m 3) (fourth : KeptIn m 4) where
    setup_of : (c : Mark) (r : ℕ) → r < m.registers → mark r ≡ c →
        late_time m mark c (m.takes r) + m.setup ≤ suc (cycles_before c) * m.period + m.early r
    setup_of Odd r h is =
        let now = ap (λ x. takes_by x 3) is in
        omega (
          arith,
          third.setup_kept r h (marked r 3 ∙ now),
          (times formed.sound).late_marked Odd 2 (m.takes r) (formed.taken r h) refl (omega arith) refl,
        )
    setup_of Second r h is =
        let now = ap (λ x. takes_by x 3) is in
        omega (
          arith,
          third.setup_kept r h (marked r 3 ∙ now),
          (times formed.sound).late_marked Second 2 (m.takes r) (formed.taken r h) refl (omega arith) refl,
        )
    setup_of Even r h is =
        let now = ap (λ x. takes_by x 4) is in
        omega (
          arith,
          fourth.setup_kept r h (marked r 4 ∙ now),
          (times formed.sound).late_marked Even 3 (m.takes r) (formed.taken r h) refl (omega arith) refl,
        )
    setup_of Every r h is =
        let here = ap (λ x. takes_by x 3) is in
        let next = ap (λ x. takes_by x 4) is in
        omega (
          arith,
          third.setup_kept r h (marked r 3 ∙ here),
          fourth.setup_kept r h (marked r 4 ∙ next),
          (times formed.sound).late_unmarked 3 (m.takes r) (formed.taken r h) (omega arith),
        )

    hold_of : (c : Mark) (r : ℕ) → r < m.registers → mark r ≡ c → m.late r + m.hold < early_time m mark c (m.takes r)
    hold_of Odd r h is =
        let now = ap (λ x. takes_by x 3) is in
        omega (
          arith,
          third.hold_kept r h (marked r 3 ∙ now),
          (times formed.sound).early_marked Odd 2 (m.takes r) (formed.taken r h) refl (omega arith) refl,
        )
    hold_of Second r h is =
        let now = ap (λ x. takes_by x 3) is in
        omega (
          arith,
          third.hold_kept r h (marked r 3 ∙ now),
          (times formed.sound).early_marked Second 2 (m.takes r) (formed.taken r h) refl (omega arith) refl,
        )
    hold_of Even r h is =
        let now = ap (λ x. takes_by x 4) is in
        omega (
          arith,
          fourth.hold_kept r h (marked r 4 ∙ now),
          (times formed.sound).early_marked Even 3 (m.takes r) (formed.taken r h) refl (omega arith) refl,
        )
    hold_of Every r h is =
        let here = ap (λ x. takes_by x 3) is in
        let next = ap (λ x. takes_by x 4) is in
        omega (
          arith,
          third.hold_kept r h (marked r 3 ∙ here),
          fourth.hold_kept r h (marked r 4 ∙ next),
          (times formed.sound).early_unmarked 3 (m.takes r) (formed.taken r h) (omega arith),
        )

    right : MetByCapture m mark
    right = record {
      formed = formed;
      setup_met = λ r h. setup_of (mark r) r h refl;
      hold_met = λ r h. hold_of (mark r) r h refl;
    }

pub capture_times : CaptureTimes
capture_times m mark marked sound = times m mark marked sound

pub passed_by_capture : PassedByCapture
passed_by_capture m mark marked = (
  λ passed.
      right m mark marked passed.formed
      (record { setup_kept = passed.setup_kept 3; hold_kept = passed.hold_kept 3 })
      (record { setup_kept = passed.setup_kept 4; hold_kept = passed.hold_kept 4 }),
  passes m mark marked,
)

pub two_cycles : TwoCycles
two_cycles m mark marked formed third fourth = passes m mark marked (right m mark marked formed third fourth)

-- at an unmarked capture no source has a period added
unmarked_launch : (s : Mark) → launch_offset Every s ≡ 0
unmarked_launch Every = refl
unmarked_launch Odd = refl
unmarked_launch Even = refl
unmarked_launch Second = refl

unmarked_held : (s : Mark) → held_over Every s ≡ 0
unmarked_held Every = refl
unmarked_held Odd = refl
unmarked_held Even = refl
unmarked_held Second = refl

plain : (m : Board) (mark : ℕ → Mark) → Sound m.circuit → PlainTimes m mark
plain m mark sound = record {
  late_plain = agrees Late m.circuit (late_source m mark Every) (plain_late m) sound (λ i _. late i);
  early_plain = agrees Early m.circuit (early_source m mark Every) (plain_early m) sound (λ i _. early i);
}
  where
    late : (i : ℕ) → late_source m mark Every i ≡ plain_late m i
    late i =
        let a : 0 * m.period + (m.late i + m.output_late) ≡ m.late i + m.output_late = omega arith in
        let b : 0 * m.period + m.input_late i ≡ m.input_late i = omega arith in
        rw (unmarked_launch (mark i), a, b) refl

    early : (i : ℕ) → early_source m mark Every i ≡ plain_early m i
    early i =
        let a : 0 * m.period + (m.early i + m.output_early) ≡ m.early i + m.output_early = omega arith in
        rw (unmarked_held (mark i), a) refl

machine : (m : base.Machine) (mark : ℕ → Mark) → base.Formed m → MachineTimes m mark
machine m mark formed = record {
  late_machine = λ k h.
      (plain (board_of m) mark formed.sound).late_plain k h
      ∙ agrees Late m.circuit (plain_late (board_of m)) (base.since m) formed.sound
      (λ i q. cond-true _ _ _ (lt-ltb i m.registers (omega (arith, formed.sources)))) k h;
  early_machine = λ k h.
      (plain (board_of m) mark formed.sound).early_plain k h
      ∙ agrees Early m.circuit (plain_early (board_of m)) (base.still_for m) formed.sound
      (λ i q. cond-true _ _ _ (lt-ltb i m.registers (omega (arith, formed.sources)))) k h;
}

pub unmarked_is_plain : UnmarkedIsPlain
unmarked_is_plain = (plain, machine)

-- `Second` captures as `Odd` does
second_launch : (s : Mark) → launch_offset Second s ≡ launch_offset Odd s
second_launch Every = refl
second_launch Odd = refl
second_launch Even = refl
second_launch Second = refl

second_held : (s : Mark) → held_over Second s ≡ held_over Odd s
second_held Every = refl
second_held Odd = refl
second_held Even = refl
second_held Second = refl

pub second_is_odd : SecondIsOdd
second_is_odd m mark sound k h = (
  agrees Late m.circuit (late_source m mark Second) (late_source m mark Odd) sound (λ i _. late i) k h,
  agrees Early m.circuit (early_source m mark Second) (early_source m mark Odd) sound (λ i _. early i) k h,
)
  where
    late : (i : ℕ) → late_source m mark Second i ≡ late_source m mark Odd i
    late i = rw (second_launch (mark i)) refl

    early : (i : ℕ) → early_source m mark Second i ≡ early_source m mark Odd i
    early i = rw (second_held (mark i)) refl

-- a longer period
module _ (m : Board) (mark : ℕ → Mark) (d : ℕ) where
  abbrev new : Board
  new = with_period m (m.period + d)

  offset_less : (c s : Mark) → launch_offset c s ≤ cycles_before c
  offset_less c s = elim (cases_Bool (in_phase c s)) [
    | inl f ↦ let z : launch_offset c s ≡ 0 = cond-true (in_phase c s) 0 (cycles_before c) f in omega arith
    | inr f ↦
        let z : launch_offset c s ≡ cycles_before c = cond-false (in_phase c s) 0 (cycles_before c) f in omega arith
  ]

  held_less : (c s : Mark) → held_over c s ≤ 1
  held_less c s = elim (cases_Bool (out_of_phase c s)) [
    | inl f ↦ let z : held_over c s ≡ 1 = cond-true (out_of_phase c s) 1 0 f in omega arith
    | inr f ↦ let z : held_over c s ≡ 0 = cond-false (out_of_phase c s) 1 0 f in omega arith
  ]

  late_grows : (c : Mark) (i : ℕ) →
      (late_source m mark c i ≤ late_source new mark c i)
      × (late_source new mark c i ≤ cycles_before c * d + late_source m mark c i)
  late_grows c i = elim (cases_lt i m.registers) [
    | inl q ↦
        let a = late_register m mark c i q in
        let b = late_register new mark c i q in
        let e = mul-add (launch_offset c (mark i)) m.period d in
        let t = times_more (launch_offset c (mark i)) (cycles_before c) d (offset_less c (mark i)) in
        (omega arith, omega arith)
    | inr q ↦
        let a = late_input m mark c i q in
        let b = late_input new mark c i q in
        let e = mul-add (cycles_before c) m.period d in
        (omega arith, omega arith)
  ]

  early_grows : (c : Mark) (i : ℕ) →
      (early_source m mark c i ≤ early_source new mark c i) × (early_source new mark c i ≤ d + early_source m mark c i)
  early_grows c i = elim (cases_lt i m.registers) [
    | inl q ↦
        let a = early_register m mark c i q in
        let b = early_register new mark c i q in
        let e = mul-add (held_over c (mark i)) m.period d in
        let t = times_more (held_over c (mark i)) 1 d (held_less c (mark i)) in
        (omega arith, omega arith)
    | inr q ↦ (
      omega (arith, early_input m mark c i q, early_input new mark c i q),
      omega (arith, early_input m mark c i q, early_input new mark c i q),
    )
  ]

module _ (m : Board) (mark : ℕ → Mark) (d : ℕ) (sound : Sound m.circuit) (c : Mark) (k : ℕ)
    (h : k < signals m.circuit) where
  late_time_grows : (late_time m mark c k ≤ late_time (new m mark d) mark c k)
      × (late_time (new m mark d) mark c k ≤ cycles_before c * d + late_time m mark c k)
  late_time_grows =
      let a = later m.circuit sound 0 0 (late_source m mark c) (late_source (new m mark d) mark c)
      (λ i _. omega (arith, (late_grows m mark d c i).0)) k h in
      let b = later m.circuit sound 0 (cycles_before c * d) (late_source (new m mark d) mark c) (late_source m mark c)
      (λ i _. omega (arith, (late_grows m mark d c i).1)) k h in
      (omega arith, omega arith)

  early_time_grows : (early_time m mark c k ≤ early_time (new m mark d) mark c k)
      × (early_time (new m mark d) mark c k ≤ d + early_time m mark c k)
  early_time_grows =
      let a = sooner m.circuit sound 0 0 (early_source m mark c) (early_source (new m mark d) mark c)
      (λ i _. omega (arith, (early_grows m mark d c i).0)) k h in
      let b = sooner m.circuit sound 0 d (early_source (new m mark d) mark c) (early_source m mark c)
      (λ i _. omega (arith, (early_grows m mark d c i).1)) k h in
      (omega arith, omega arith)

pub longer_period : LongerPeriod
longer_period m mark d formed = record {
  late_grows = λ c k h. late_time_grows m mark d formed.sound c k h;
  early_grows = λ c k h. early_time_grows m mark d formed.sound c k h;
  slack_grows = λ r x h slack.
      let g = late_time_grows m mark d formed.sound (mark r) (m.takes r) (formed.taken r h) in
      let e = mul-add (cycles_before (mark r)) m.period d in
      omega arith;
  slack_grows_at_most = λ r x h slack.
      let g = late_time_grows m mark d formed.sound (mark r) (m.takes r) (formed.taken r h) in
      let e = mul-add (cycles_before (mark r)) m.period d in
      omega arith;
  hold_stays = λ r h met.
      let g = early_time_grows m mark d formed.sound (mark r) (m.takes r) (formed.taken r h) in
      omega arith;
}
