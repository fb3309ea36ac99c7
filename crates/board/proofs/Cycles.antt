-- How launches repeat from cycle to cycle where registers take by marks.
use Rattle.std.proofs.Common.{◌≡◌, ℕ, zero, suc, ◌+◌, ◌*◌, ◌%◌, ◌≤◌, ◌⊎◌, true, false, max, sym, refl, ◌∙◌, inl}
use Rattle.std.proofs.Common.{inr, arith}
use Rattle.std.proofs.lemmas.Bool.{cases_lt, cases_eq, cases_Bool, true≢false, lt-ltb, eq-eqb}
use Rattle.board.specs.declared.mark.Mark.{Mark}
use Rattle.board.specs.declared.mark.Mark.TheVariants.{Every, Odd, Even, Second}
use Rattle.board.specs.Board.{Board, launch_cycle, until_cycle, since, still_until}
use Rattle.board.specs.Marks.{takes_by, Marked, KeptIn, OneCycle}
use Rattle.board.proofs.Keeping.{since_register, since_input, until_register, until_input, launch_anew, launch_before}
use Rattle.board.proofs.Keeping.{until_next, until_after}
use Rattle.board.proofs.Comparing.{as_in, launch_by_now}

-- from the second cycle on a mark's schedule repeats every two cycles
repeats : (x : Mark) (n : ℕ) → 1 ≤ n → takes_by x (suc (suc n)) ≡ takes_by x n
repeats Every n h = refl
repeats Odd n h = let e : suc (suc n) % 2 ≡ n % 2 = omega arith in rw e
repeats Second n h = let e : suc (suc n) % 2 ≡ n % 2 = omega arith in rw e
repeats Even n h =
    let e : suc (suc n) % 2 ≡ n % 2 = omega arith in rw (e, lt-ltb 0 (suc (suc n)) (omega arith), lt-ltb 0 n h)

-- a register that takes at the end of cycle 0 takes at the end of every cycle
first_takers : (x : Mark) → takes_by x 0 ≡ true → (n : ℕ) → takes_by x n ≡ true
first_takers Every e n = refl
first_takers Odd e n = absurd (true≢false (sym e))
first_takers Second e n = absurd (true≢false (sym e))
first_takers Even e n = absurd (true≢false (sym e))

-- a register takes at the end of one at least of two cycles in a row
pub one_of_two : (x : Mark) (n : ℕ) → 1 ≤ n → (takes_by x n ≡ true) ⊎ (takes_by x (suc n) ≡ true)
one_of_two Every n h = inl refl
one_of_two Odd n h = elim (cases_eq (n % 2) 1) [ inl e ↦ inl (eq-eqb _ _ e) | inr e ↦ inr (eq-eqb _ _ (omega arith)) ]
one_of_two Second n h =
    elim (cases_eq (n % 2) 1) [ inl e ↦ inl (eq-eqb _ _ e) | inr e ↦ inr (eq-eqb _ _ (omega arith)) ]
one_of_two Even n h = elim (cases_eq (n % 2) 0) [
  | inl e ↦ inl (rw (lt-ltb 0 n h) (eq-eqb _ _ e))
  | inr e ↦ let z : suc n % 2 ≡ 0 = omega arith in inr (rw (lt-ltb 0 (suc n) (omega arith)) (eq-eqb _ _ z))
]

module _ (m : Board) (mark : ℕ → Mark) (marked : Marked m mark) where
  pub repeats_at : (r n : ℕ) → 1 ≤ n → m.takes_at r (suc (suc n)) ≡ m.takes_at r n
  repeats_at r n h = marked r (suc (suc n)) ∙ repeats (mark r) n h ∙ sym (marked r n)

  -- two cycles on a register has launched two cycles later, or in the first cycles later still
  pub launch_on : (r n : ℕ) → 1 ≤ n → launch_cycle m r n + 2 ≤ launch_cycle m r (suc (suc n))
  launch_on r n h = elim (one_of_two (mark r) n h) [
    | inl e ↦
        let t : m.takes_at r n ≡ true = marked r n ∙ e in
        elim (cases_Bool (m.takes_at r (suc n))) [
          | inl f ↦ omega (arith, launch_anew m r (suc n) f, launch_by_now m r n)
          | inr f ↦ omega (arith, launch_before m r (suc n) f, launch_anew m r n t, no_earlier r n h f)
        ]
    | inr e ↦ let t : m.takes_at r (suc n) ≡ true = marked r (suc n) ∙ e in
        omega (arith, launch_anew m r (suc n) t, launch_by_now m r n)
  ]
    where
      -- a register that does not take at the end of the next cycle did not at the end of the one before
      no_earlier : (r n : ℕ) → 1 ≤ n → m.takes_at r (suc n) ≡ false → launch_cycle m r n + 1 ≤ n
      no_earlier r zero h f = absurd (omega arith)
      no_earlier r (suc zero) h f = elim (cases_Bool (m.takes_at r 0)) [
        | inl e ↦ absurd (true≢false (sym (marked r 2 ∙ first_takers (mark r) (sym (marked r 0) ∙ e) 2) ∙ f))
        | inr e ↦ let z = launch_by_now m r 0 in omega (arith, launch_before m r 0 e)
      ]
      no_earlier r (suc (suc n)) h f =
          let e : m.takes_at r (suc n) ≡ false = sym (repeats_at r (suc n) (omega arith)) ∙ f in
          omega (arith, launch_before m r (suc n) e, launch_by_now m r (suc n))

  -- from cycle 3 on just two cycles later
  pub launch_later : (r n : ℕ) → 3 ≤ n → launch_cycle m r (suc (suc n)) ≤ launch_cycle m r n + 2
  launch_later r zero h = absurd (omega arith)
  launch_later r (suc n) h = elim (one_of_two (mark r) n (omega arith)) [
    | inl e ↦
        let t : m.takes_at r n ≡ true = marked r n ∙ e in
        omega (arith, launch_anew m r n t, launch_by_now m r (suc (suc (suc n))))
    | inr e ↦ elim (cases_Bool (m.takes_at r n)) [
      | inl t ↦ omega (arith, launch_anew m r n t, launch_by_now m r (suc (suc (suc n))))
      | inr t ↦ earlier r n (omega arith) t
    ]
  ]
    where
      earlier : (r n : ℕ) → 2 ≤ n → m.takes_at r n ≡ false →
          launch_cycle m r (suc (suc (suc n))) ≤ launch_cycle m r (suc n) + 2
      earlier r zero h t = absurd (omega arith)
      earlier r (suc n) h t =
          let t' : m.takes_at r (suc (suc (suc n))) ≡ false = repeats_at r (suc n) (omega arith) ∙ t in
          elim (one_of_two (mark r) n (omega arith)) [
            | inl e ↦
                let u : m.takes_at r n ≡ true = marked r n ∙ e in
                omega (
                  arith,
                  launch_before m r (suc (suc (suc n))) t',
                  launch_before m r (suc n) t,
                  launch_anew m r n u,
                  launch_by_now m r (suc (suc (suc n))),
                )
            | inr e ↦ absurd (true≢false (sym (marked r (suc n) ∙ e) ∙ t))
          ]

  pub until_on : (r n : ℕ) → 1 ≤ n → until_cycle m r (suc (suc n)) ≡ until_cycle m r n + 2
  until_on r n h = elim (cases_Bool (m.takes_at r n)) [
    | inl e ↦ omega (arith, until_next m r n e, until_next m r (suc (suc n)) (repeats_at r n h ∙ e))
    | inr e ↦ omega (arith, until_after m r n e, until_after m r (suc (suc n)) (repeats_at r n h ∙ e))
  ]

-- cycle 0, at whose beginning every register launches, compared with cycles 3 and 4
module _ (m : Board) (mark : ℕ → Mark) (marked : Marked m mark) where
  pub takes_later : (r n : ℕ) → m.takes_at r 0 ≡ true → m.takes_at r n ≡ true
  takes_later r n e = marked r n ∙ first_takers (mark r) (sym (marked r 0) ∙ e) n

  pub since_first : (i : ℕ) → 4 * m.period + since m 0 i ≤ max (m.period + since m 3 i) (since m 4 i)
  since_first i = elim (cases_lt i m.registers) [
    | inr q ↦ omega (arith, since_input m 0 i q, since_input m 4 i q)
    | inl q ↦ elim (one_of_two (mark i) 2 (omega arith)) [
      | inl e ↦
          let b : launch_cycle m i 3 ≡ 3 = launch_anew m i 2 (marked i 2 ∙ e) in
          let z : launch_cycle m i 0 ≡ 0 = omega (arith, launch_by_now m i 0) in
          let s0 = rw z at (since_register m 0 i q) in
          let s3 = rw b at (since_register m 3 i q) in
          omega arith
      | inr e ↦
          let b : launch_cycle m i 4 ≡ 4 = launch_anew m i 3 (marked i 3 ∙ e) in
          let z : launch_cycle m i 0 ≡ 0 = omega (arith, launch_by_now m i 0) in
          let s0 = rw z at (since_register m 0 i q) in
          let s4 = rw b at (since_register m 4 i q) in
          omega arith
    ]
  ]

  -- no bit of cycle n changes sooner, counted from the cycle, than that of cycle 0
  pub still_first : (n i : ℕ) → still_until m n i ≤ n * m.period + still_until m 0 i
  still_first n i = elim (cases_lt i m.registers) [
    | inr q ↦ omega (arith, until_input m 0 i q, until_input m n i q)
    | inl q ↦ elim (cases_Bool (m.takes_at i 0)) [
      | inl e ↦
          let a = rw (until_next m i 0 e) at (until_register m 0 i q) in
          let b = rw (until_next m i n (takes_later i n e)) at (until_register m n i q) in
          omega arith
      | inr e ↦
          let a = rw (until_after m i 0 e) at (until_register m 0 i q) in
          elim (cases_Bool (m.takes_at i n)) [
            | inl f ↦ let b = rw (until_next m i n f) at (until_register m n i q) in omega arith
            | inr f ↦ let b = rw (until_after m i n f) at (until_register m n i q) in omega arith
          ]
    ]
  ]

pub one_cycle : OneCycle
one_cycle m all formed first = record {
  formed = formed;
  setup_kept = λ n r h e. (each n).setup_kept r h e;
  hold_kept = λ n r h e. (each n).hold_kept r h e;
}
  where
    now : (r n : ℕ) → launch_cycle m r n ≡ n
    now r zero = omega (arith, launch_by_now m r 0)
    now r (suc n) = launch_anew m r n (all r n)

    each : (n : ℕ) → KeptIn m n
    each n = as_in m 0 n formed (λ r q e. all r 0) (λ r q. omega (arith, now r n, now r 0))
        (λ r q. omega (arith, until_next m r 0 (all r 0), until_next m r n (all r n))) first
