-- Small circuits that weaker tests let through, and runs in which they go wrong.
use Rattle.std.proofs.Common.{◌≡◌, ℕ, zero, suc, ◌+◌, ◌-◌, ◌*◌, ◌%◌, ◌<◌, ◌≤◌, Bool, true, false, not, eqb, ltb, cond, List, [], ◌∷◌, sym, refl, ◌∙◌, ap, ap₂, inl, inr, arith}
use Rattle.std.proofs.lemmas.Bool.{lt-ltb, le-ltb, eq-eqb, ne_eqb, cases_eq, cases_lt, true≢false}
use Rattle.circuit.specs.Gate.{output}
use Rattle.circuit.specs.Circuit.{along}
use Rattle.circuit.specs.Lent.{gates_in}
use Rattle.circuit.specs.Whole.{Whole}
use Rattle.drawing.specs.Drawing.{ideal, held}
use Rattle.arrival.specs.Arrival.{arrival}
use Rattle.arrival.specs.Window.{Wave, Moves}
use Rattle.promise.specs.Machine.{Machine, machine_in, drawing}
use Rattle.promise.specs.Promise.{Delays, MovesBy}
use Rattle.promise.specs.Run.{Clocks, Run}
use Rattle.values.specs.Examples.{GoesWrong}
use Rattle.values.proofs.Examples.{each, whole_by, follows}
use Rattle.worked.specs.Weaker.{AtMost, OneClock, KeptDelays, greatest_early, GreatestEarly, PeriodLessLate, WeakerTestsFail}

-- two registers that exchange their bits with no gate between them
abbrev exchange_registers : List ℕ
exchange_registers = 1 ∷ 0 ∷ 1 ∷ 0 ∷ 0 ∷ 1 ∷ []

abbrev exchange_times : List ℕ
exchange_times = 4 ∷ 1 ∷ 1 ∷ 0 ∷ 0 ∷ []

exchange : Machine
exchange = machine_in [] exchange_registers exchange_times

exchange_whole : Whole [] exchange_registers exchange_times
exchange_whole = whole_by _ _ _ (omega arith)

-- register 0 is clocked early and register 1 late in every cycle, so that 1 takes what 0 has just got
exchange_goes_wrong : GoesWrong exchange
unfolding exchange gates_in held ideal along
exchange_goes_wrong = (start, clock, holds, w, run, (1, 1, omega arith, λ e. true≢false (sym e)))
  where
    start : ℕ → Bool
    start r = eqb r 0

    clock : ℕ → ℕ → ℕ
    clock n r = n * 4 + r

    holds : ℕ → ℕ → Bool
    holds n r = eqb (n + r) 0

    w : ℕ → Wave
    w zero t = ltb t 5
    w (suc r) t = false

    clocks : Clocks exchange clock
    clocks n zero h = (omega arith, omega arith)
    clocks n (suc zero) h = (omega arith, omega arith)
    clocks n (suc (suc r)) h = absurd (omega arith)

    shows : (n r t : ℕ) → r < 2 → clock n r + 1 ≤ t → t < clock (suc n) r + 1 → w r t ≡ holds n r
    shows zero zero t h a z = lt-ltb t 5 (omega arith)
    shows (suc n) zero t h a z = le-ltb t 5 (omega arith) ∙ sym (ne_eqb (suc n + 0) 0 (λ e. omega arith))
    shows n (suc r) t h a z = sym (ne_eqb (n + suc r) 0 (λ e. omega arith))

    takes : (n r : ℕ) (b : Bool) → r < 2 →
        ((t : ℕ) → clock (suc n) r ≤ t + 0 → t ≤ clock (suc n) r + 0 → w (exchange.takes r) t ≡ b) → holds (suc n) r ≡ b
    takes n zero b h all = ne_eqb (suc n + 0) 0 (λ e. omega arith) ∙ all (clock (suc n) 0) (omega arith) (omega arith)
    takes n (suc zero) b h all =
        ne_eqb (suc n + 1) 0 (λ e. omega arith) ∙ sym (le-ltb (clock (suc n) 1) 5 (omega arith))
        ∙ all (clock (suc n) 1) (omega arith) (omega arith)
    takes n (suc (suc r)) b h all = absurd (omega arith)

    run : Run exchange start clock holds w
    run = record {
      clocks = clocks;
      gates = λ k t h. absurd (omega arith);
      starts = each 2 _ (refl, (refl, tt));
      shows = shows;
      takes = takes;
    }

at_most_fails : AtMost exchange
unfolding exchange gates_in arrival along
at_most_fails = each 2 _ (omega arith)

one_clock_fails : OneClock exchange
unfolding exchange gates_in arrival along
one_clock_fails = each 2 _ (omega arith)

-- a bit that is 0 and 1 in turn, for 20 moments each, with a change at moment p, before which it is the other
turns : ℕ → Wave
turns p t = not (ltb ((t + 40 - p) % 40) 20)

-- and what it is in cycle n of 20 moments
in_turn : ℕ → Bool
in_turn n = eqb (n % 2) 1

in_cycle : (p n t : ℕ) → p ≤ 20 → n * 20 + p ≤ t → t < n * 20 + 20 + p → turns p t ≡ in_turn n
unfolding turns in_turn
in_cycle p n t le a z = elim (cases_eq (n % 2) 1) [
  | inl odd ↦ ap not (le-ltb ((t + 40 - p) % 40) 20 (omega arith)) ∙ sym (eq-eqb (n % 2) 1 odd)
  | inr even ↦ ap not (lt-ltb ((t + 40 - p) % 40) 20 (omega arith)) ∙ sym (ne_eqb (n % 2) 1 even)
]

-- in the next cycle it is the other
turned : (n : ℕ) → in_turn (suc n) ≡ not (in_turn n)
unfolding in_turn
turned n = elim (cases_eq (n % 2) 1) [
  | inl odd ↦ ne_eqb (suc n % 2) 1 (λ e. omega arith) ∙ sym (ap not (eq-eqb (n % 2) 1 odd))
  | inr even ↦
      let next : suc n % 2 ≡ 1 = omega arith in
      eq-eqb (suc n % 2) 1 next ∙ sym (ap not (ne_eqb (n % 2) 1 even))
]

nor_self : (b : Bool) → output 1 b b ≡ not b
unfolding output
nor_self true = refl
nor_self false = refl

first_is : (a b : Bool) → output 10 a b ≡ a
unfolding output
first_is true true = refl
first_is true false = refl
first_is false true = refl
first_is false false = refl

-- and in the cycle before as in the next
in_cycle_before : (p n t : ℕ) → p ≤ 20 → n * 20 + p ≤ t + 20 → t < n * 20 + p → turns p t ≡ in_turn (suc n)
unfolding turns in_turn
in_cycle_before p n t le a z = elim (cases_eq (n % 2) 1) [
  | inl odd ↦ ap not (lt-ltb ((t + 40 - p) % 40) 20 (omega arith)) ∙ sym (ne_eqb (suc n % 2) 1 (λ e. omega arith))
  | inr even ↦
      let next : suc n % 2 ≡ 1 = omega arith in
      ap not (le-ltb ((t + 40 - p) % 40) 20 (omega arith)) ∙ sym (eq-eqb (suc n % 2) 1 next)
]

xor_same : (b : Bool) → output 6 b b ≡ false
unfolding output
xor_same true = refl
xor_same false = refl

xor_other : (b : Bool) → output 6 b (not b) ≡ true
unfolding output
xor_other true = refl
xor_other false = refl

other_xor : (b : Bool) → output 6 (not b) b ≡ true
unfolding output
other_xor true = refl
other_xor false = refl

and_false : (a : Bool) → output 8 a false ≡ false
unfolding output
and_false true = refl
and_false false = refl

false_and : (b : Bool) → output 8 false b ≡ false
unfolding output
false_and true = refl
false_and false = refl

-- a register that turns its bit round; a gate that passes this on; one that sees it change; and a register that takes
-- whether it changed at two moments in a row
abbrev glitch_gates : List ℕ
glitch_gates =
    0 ∷ 0 ∷ 10 ∷ 0 ∷ 2 ∷ 0 ∷ 2 ∷ 2 ∷ 2 ∷ 6 ∷ 0 ∷ 0 ∷ 1 ∷ 1 ∷ 3 ∷ 3 ∷ 8 ∷ 0 ∷ 0 ∷ 1 ∷ 1 ∷ 0 ∷ 0 ∷ 1 ∷ 5 ∷ 5 ∷ 5 ∷ 5 ∷ []

abbrev glitch_registers : List ℕ
glitch_registers = 5 ∷ 0 ∷ 0 ∷ 4 ∷ 0 ∷ 0 ∷ []

abbrev glitch_times : List ℕ
glitch_times = 20 ∷ 0 ∷ 0 ∷ 0 ∷ 2 ∷ []

glitch : Machine
glitch = machine_in glitch_gates glitch_registers glitch_times

glitch_whole : Whole glitch_gates glitch_registers glitch_times
glitch_whole = whole_by _ _ _ (omega arith)

module _ (one two : ℕ → ℕ) (within : Delays glitch.circuit (λ k t. one k) (λ k t. two k)) (start : ℕ → Bool)
    (clock : ℕ → ℕ → ℕ) (holds : ℕ → ℕ → Bool) (w : ℕ → Wave) (run : Run glitch start clock holds w)
    (by : MovesBy glitch.circuit (λ k t. one k) (λ k t. two k) w) where
  -- with delays that are kept the first gate shows the register's bit some time ago, always by as much
  passes_on : (t : ℕ) → 2 ≤ t → w 2 t ≡ w 0 (t - one 0)
  unfolding glitch gates_in
  passes_on t h = by 0 t (omega arith) (omega arith) (omega arith) ∙ first_is _ _

  -- so that the second gate shows 0 where the register shows the same bit at the two moments that it sees
  sees_none : (t : ℕ) (b : Bool) → 3 ≤ t → w 0 (t - one 1 - one 0) ≡ b → w 0 (t - two 1 - one 0) ≡ b → w 3 t ≡ false
  unfolding glitch gates_in
  sees_none t b h now before =
      let d = within.one_within 1 t (omega arith) in
      let e = within.two_within 1 t (omega arith) in
      by 1 t (omega arith) (omega arith) (omega arith)
      ∙ ap₂ (output 6) (passes_on (t - one 1) (omega arith) ∙ now) (passes_on (t - two 1) (omega arith) ∙ before)
      ∙ xor_same b

  -- and it does not show 1 twice in a row
  takes_none : (n t : ℕ) → clock (suc n) 1 ≤ t → t ≤ clock (suc n) 1 + 2 → w 4 t ≡ false
  unfolding glitch gates_in
  takes_none n t a z =
      let c = run.clocks n 0 (omega arith) in
      let c' = run.clocks (suc n) 0 (omega arith) in
      let c2 = run.clocks (suc (suc n)) 0 (omega arith) in
      let c1 = run.clocks (suc n) 1 (omega arith) in
      let d = within.one_within 0 t (omega arith) in
      let d1 = within.one_within 1 t (omega arith) in
      let e1 = within.two_within 1 t (omega arith) in
      let d2 = within.one_within 2 t (omega arith) in
      let e2 = within.two_within 2 t (omega arith) in
      by 2 t (omega arith) (omega arith) (omega arith)
      ∙ elim (cases_lt (t - 1 - one 0) (clock (suc n) 0)) [
        | inl below ↦
            ap (λ b. output 8 (w 3 (t - one 2)) b)
            (sees_none (t - two 2) (holds n 0) (omega arith)
            (run.shows n 0 (t - two 2 - one 1 - one 0) (omega arith) (omega arith) (omega arith))
            (run.shows n 0 (t - two 2 - two 1 - one 0) (omega arith) (omega arith) (omega arith)))
            ∙ and_false _
        | inr above ↦
            ap (λ b. output 8 b (w 3 (t - two 2)))
            (sees_none (t - one 2) (holds (suc n) 0) (omega arith)
            (run.shows (suc n) 0 (t - one 2 - one 1 - one 0) (omega arith) (omega arith) (omega arith))
            (run.shows (suc n) 0 (t - one 2 - two 1 - one 0) (omega arith) (omega arith) (omega arith)))
            ∙ false_and _
      ]

  turns_round : (n t : ℕ) → clock (suc n) 0 ≤ t → t ≤ clock (suc n) 0 + 2 → w 5 t ≡ output 1 (holds n 0) (holds n 0)
  unfolding glitch gates_in
  turns_round n t a z =
      let c = run.clocks n 0 (omega arith) in
      let c' = run.clocks (suc n) 0 (omega arith) in
      let d = within.one_within 3 t (omega arith) in
      let e = within.two_within 3 t (omega arith) in
      by 3 t (omega arith) (omega arith) (omega arith)
      ∙ ap₂ (output 1) (run.shows n 0 (t - one 3) (omega arith) (omega arith) (omega arith))
      (run.shows n 0 (t - two 3) (omega arith) (omega arith) (omega arith))

  as_drawn : (n r : ℕ) → r < 2 → holds n r ≡ drawing glitch start n r
  unfolding glitch gates_in held ideal along
  as_drawn zero r h = run.starts r h
  as_drawn (suc n) zero h =
      run.takes n 0 (output 1 (holds n 0) (holds n 0)) h (λ t a z. turns_round n t (omega arith) (omega arith))
      ∙ ap₂ (output 1) (as_drawn n 0 h) (as_drawn n 0 h)
  as_drawn (suc n) (suc zero) h =
      run.takes n 1 false h (λ t a z. takes_none n t (omega arith) (omega arith))
      ∙ sym (ap₂ (output 8) (xor_same _) (xor_same _) ∙ and_false false)
  as_drawn (suc n) (suc (suc r)) h = absurd (omega arith)

kept_delays_fail : KeptDelays glitch
unfolding glitch
kept_delays_fail one two within start clock holds w run by = as_drawn one two within start clock holds w run by

-- with a delay that is longer at one moment the second gate shows 1 twice in a row
glitch_goes_wrong : GoesWrong glitch
unfolding glitch gates_in held ideal along output turns in_turn
glitch_goes_wrong = (start, clock, holds, w, run, (1, 1, omega arith, λ e. true≢false e))
  where
    start : ℕ → Bool
    start r = false

    clock : ℕ → ℕ → ℕ
    clock n r = n * 20

    holds : ℕ → ℕ → Bool
    holds n zero = in_turn n
    holds n (suc r) = not (eqb n 0)

    delay : ℕ → ℕ
    delay t = cond (eqb (t % 20) 1) 2 0

    passed : Wave
    passed t = output 10 (turns 0 (t - delay t)) (turns 0 (t - delay t))

    seen : Wave
    seen t = output 6 (passed (t - 0)) (passed (t - 1))

    w : ℕ → Wave
    w zero t = turns 0 t
    w (suc zero) t = not (ltb t 20)
    w (suc (suc zero)) t = passed t
    w (suc (suc (suc zero))) t = seen t
    w (suc (suc (suc (suc zero)))) t = output 8 (seen (t - 0)) (seen (t - 1))
    w (suc (suc (suc (suc (suc k))))) t = output 1 (turns 0 (t - 5)) (turns 0 (t - 5))

    short : (t : ℕ) → delay t ≤ 2
    short t = elim (cases_eq (t % 20) 1) [
      | inl e ↦ rw (eq-eqb (t % 20) 1 e) (omega arith)
      | inr e ↦ rw (ne_eqb (t % 20) 1 e) (omega arith)
    ]

    passed_late : (t : ℕ) → t % 20 ≡ 1 → passed t ≡ turns 0 (t - 2)
    passed_late t e = rw (eq-eqb (t % 20) 1 e) (first_is _ _)

    passed_now : (t : ℕ) → (t % 20 ≡ 1 → ⊥) → passed t ≡ turns 0 (t - 0)
    passed_now t e = rw (ne_eqb (t % 20) 1 e) (first_is _ _)

    shows : (n r t : ℕ) → r < 2 → clock n r + 0 ≤ t → t < clock (suc n) r + 0 → w r t ≡ holds n r
    shows n zero t h a z = in_cycle 0 n t (omega arith) (omega arith) (omega arith)
    shows zero (suc zero) t h a z = ap not (lt-ltb t 20 (omega arith))
    shows (suc n) (suc zero) t h a z = ap not (le-ltb t 20 (omega arith) ∙ sym (ne_eqb (suc n) 0 (λ e. omega arith)))
    shows n (suc (suc r)) t h a z = absurd (omega arith)

    takes : (n r : ℕ) (b : Bool) → r < 2 →
        ((t : ℕ) → clock (suc n) r ≤ t + 0 → t ≤ clock (suc n) r + 2 → w (glitch.takes r) t ≡ b) → holds (suc n) r ≡ b
    takes n zero b h all =
        let t : ℕ = clock (suc n) 0 in
        let now : turns 0 (t - 5) ≡ in_turn n = in_cycle 0 n (t - 5) (omega arith) (omega arith) (omega arith) in
        turned n ∙ sym (nor_self (in_turn n)) ∙ sym (ap₂ (output 1) now now) ∙ all t (omega arith) (omega arith)
    takes n (suc zero) b h all =
        let t : ℕ = clock (suc n) 1 + 1 in
        let at = t - 0 - 0 in
        let on = t - 0 - 1 in
        let on' = t - 1 - 0 in
        let before = t - 1 - 1 in
        let at_is : passed at ≡ in_turn n =
        passed_late at (omega arith) ∙ in_cycle 0 n (at - 2) (omega arith) (omega arith) (omega arith) in
        let on_is : passed on ≡ not (in_turn n) =
        passed_now on (λ e. omega arith)
        ∙ in_cycle 0 (suc n) (on - 0) (omega arith) (omega arith) (omega arith) ∙ turned n in
        let on'_is : passed on' ≡ not (in_turn n) =
        passed_now on' (λ e. omega arith)
        ∙ in_cycle 0 (suc n) (on' - 0) (omega arith) (omega arith) (omega arith) ∙ turned n in
        let before_is : passed before ≡ in_turn n =
        passed_now before (λ e. omega arith) ∙ in_cycle 0 n (before - 0) (omega arith) (omega arith) (omega arith) in
        let one : seen (t - 0) ≡ true = ap₂ (output 6) at_is on_is ∙ xor_other (in_turn n) in
        let two : seen (t - 1) ≡ true = ap₂ (output 6) on'_is before_is ∙ other_xor (in_turn n) in
        ap not (ne_eqb (suc n) 0 (λ e. omega arith)) ∙ sym (ap₂ (output 8) one two) ∙ all t (omega arith) (omega arith)
    takes n (suc (suc r)) b h all = absurd (omega arith)

    clocks : Clocks glitch clock
    clocks n zero h = (omega arith, omega arith)
    clocks n (suc zero) h = (omega arith, omega arith)
    clocks n (suc (suc r)) h = absurd (omega arith)

    gates : Moves glitch.circuit w
    gates zero t h a b = follows _ _ _ _ t (delay t) (delay t) (omega arith, short t, omega arith, short t) refl
    gates (suc zero) t h a b = follows _ _ _ _ t 0 1 (omega arith) refl
    gates (suc (suc zero)) t h a b = follows _ _ _ _ t 0 1 (omega arith) refl
    gates (suc (suc (suc zero))) t h a b = follows _ _ _ _ t 5 5 (omega arith) refl
    gates (suc (suc (suc (suc k)))) t h a b = absurd (omega arith)

    run : Run glitch start clock holds w
    run = record {
      clocks = clocks;
      gates = gates;
      starts = each 2 _ (refl, (refl, tt));
      shows = shows;
      takes = takes;
    }

-- a register that turns its bit round, and one that follows it, clocked up to 2 later, through a gate that passes its
-- first input on at once and has 5 for the second
abbrev followed_gates : List ℕ
followed_gates = 0 ∷ 0 ∷ 1 ∷ 3 ∷ 3 ∷ 3 ∷ 3 ∷ 0 ∷ 0 ∷ 10 ∷ 0 ∷ 0 ∷ 5 ∷ 5 ∷ []

abbrev followed_registers : List ℕ
followed_registers = 2 ∷ 0 ∷ 0 ∷ 3 ∷ 0 ∷ 2 ∷ []

abbrev followed_times : List ℕ
followed_times = 20 ∷ 1 ∷ 1 ∷ 1 ∷ 0 ∷ []

followed : Machine
followed = machine_in followed_gates followed_registers followed_times

followed_whole : Whole followed_gates followed_registers followed_times
followed_whole = whole_by _ _ _ (omega arith)

greatest_early_fails : GreatestEarly followed
unfolding followed gates_in arrival greatest_early along
greatest_early_fails = each 2 _ (omega arith)

-- register 1 takes what register 0 has just got
followed_goes_wrong : GoesWrong followed
unfolding followed gates_in held ideal along output turns in_turn
followed_goes_wrong = (start, clock, holds, w, run, (1, 1, omega arith, λ e. true≢false e))
  where
    start : ℕ → Bool
    start r = false

    clock : ℕ → ℕ → ℕ
    clock n r = n * 20 + 2 * r

    holds : ℕ → ℕ → Bool
    holds n r = in_turn n

    w : ℕ → Wave
    w zero t = turns 1 t
    w (suc zero) t = turns 3 t
    w (suc (suc zero)) t = output 1 (turns 1 (t - 3)) (turns 1 (t - 3))
    w (suc (suc (suc k))) t = output 10 (turns 1 (t - 0)) (turns 1 (t - 5))

    shows : (n r t : ℕ) → r < 2 → clock n r + 1 ≤ t → t < clock (suc n) r + 1 → w r t ≡ holds n r
    shows n zero t h a z = in_cycle 1 n t (omega arith) (omega arith) (omega arith)
    shows n (suc zero) t h a z = in_cycle 3 n t (omega arith) (omega arith) (omega arith)
    shows n (suc (suc r)) t h a z = absurd (omega arith)

    takes : (n r : ℕ) (b : Bool) → r < 2 →
        ((t : ℕ) → clock (suc n) r ≤ t + 1 → t ≤ clock (suc n) r + 0 → w (followed.takes r) t ≡ b) → holds (suc n) r ≡ b
    takes n zero b h all =
        let t : ℕ = clock (suc n) 0 in
        let now : turns 1 (t - 3) ≡ in_turn n = in_cycle 1 n (t - 3) (omega arith) (omega arith) (omega arith) in
        turned n ∙ sym (nor_self (in_turn n)) ∙ sym (ap₂ (output 1) now now) ∙ all t (omega arith) (omega arith)
    takes n (suc zero) b h all =
        let t : ℕ = clock (suc n) 1 in
        let now : turns 1 (t - 0) ≡ in_turn (suc n) = in_cycle 1 (suc n) (t - 0) (omega arith) (omega arith) (omega arith) in
        sym (first_is _ _ ∙ now) ∙ all t (omega arith) (omega arith)
    takes n (suc (suc r)) b h all = absurd (omega arith)

    clocks : Clocks followed clock
    clocks n zero h = (omega arith, omega arith)
    clocks n (suc zero) h = (omega arith, omega arith)
    clocks n (suc (suc r)) h = absurd (omega arith)

    gates : Moves followed.circuit w
    gates zero t h a b = follows _ _ _ _ t 3 3 (omega arith) refl
    gates (suc zero) t h a b = follows _ _ _ _ t 0 5 (omega arith) refl
    gates (suc (suc k)) t h a b = absurd (omega arith)

    run : Run followed start clock holds w
    run = record {
      clocks = clocks;
      gates = gates;
      starts = each 2 _ (refl, (refl, tt));
      shows = shows;
      takes = takes;
    }

-- a register that turns its bit round, clocked up to 4 late, and one that follows it
abbrev launched_gates : List ℕ
launched_gates = 0 ∷ 0 ∷ 1 ∷ 5 ∷ 5 ∷ 5 ∷ 5 ∷ 0 ∷ 0 ∷ 10 ∷ 1 ∷ 17 ∷ 1 ∷ 17 ∷ []

abbrev launched_registers : List ℕ
launched_registers = 2 ∷ 0 ∷ 4 ∷ 3 ∷ 0 ∷ 0 ∷ []

abbrev launched_times : List ℕ
launched_times = 20 ∷ 1 ∷ 1 ∷ 1 ∷ 0 ∷ []

launched : Machine
launched = machine_in launched_gates launched_registers launched_times

launched_whole : Whole launched_gates launched_registers launched_times
launched_whole = whole_by _ _ _ (omega arith)

period_less_late_fails : PeriodLessLate launched
unfolding launched gates_in arrival along
period_less_late_fails = each 2 _ (omega arith)

-- register 1 takes what register 0 had a cycle before
launched_goes_wrong : GoesWrong launched
unfolding launched gates_in held ideal along output turns in_turn
launched_goes_wrong = (start, clock, holds, w, run, (1, 1, omega arith, λ e. true≢false e))
  where
    start : ℕ → Bool
    start r = false

    clock : ℕ → ℕ → ℕ
    clock n zero = n * 20 + 4
    clock n (suc r) = n * 20

    holds : ℕ → ℕ → Bool
    holds n r = in_turn n

    w : ℕ → Wave
    w zero t = turns 5 t
    w (suc zero) t = turns 1 t
    w (suc (suc zero)) t = output 1 (turns 5 (t - 5)) (turns 5 (t - 5))
    w (suc (suc (suc k))) t = output 10 (turns 5 (t - 17)) (turns 5 (t - 17))

    shows : (n r t : ℕ) → r < 2 → clock n r + 1 ≤ t → t < clock (suc n) r + 1 → w r t ≡ holds n r
    shows n zero t h a z = in_cycle 5 n t (omega arith) (omega arith) (omega arith)
    shows n (suc zero) t h a z = in_cycle 1 n t (omega arith) (omega arith) (omega arith)
    shows n (suc (suc r)) t h a z = absurd (omega arith)

    takes : (n r : ℕ) (b : Bool) → r < 2 →
        ((t : ℕ) → clock (suc n) r ≤ t + 1 → t ≤ clock (suc n) r + 0 → w (launched.takes r) t ≡ b) → holds (suc n) r ≡ b
    takes n zero b h all =
        let t : ℕ = clock (suc n) 0 in
        let now : turns 5 (t - 5) ≡ in_turn n = in_cycle 5 n (t - 5) (omega arith) (omega arith) (omega arith) in
        turned n ∙ sym (nor_self (in_turn n)) ∙ sym (ap₂ (output 1) now now) ∙ all t (omega arith) (omega arith)
    takes n (suc zero) b h all =
        let t : ℕ = clock (suc n) 1 in
        let old : turns 5 (t - 17) ≡ in_turn (suc n) = in_cycle_before 5 n (t - 17) (omega arith) (omega arith) (omega arith) in
        sym (first_is _ _ ∙ old) ∙ all t (omega arith) (omega arith)
    takes n (suc (suc r)) b h all = absurd (omega arith)

    clocks : Clocks launched clock
    clocks n zero h = (omega arith, omega arith)
    clocks n (suc zero) h = (omega arith, omega arith)
    clocks n (suc (suc r)) h = absurd (omega arith)

    gates : Moves launched.circuit w
    gates zero t h a b = follows _ _ _ _ t 5 5 (omega arith) refl
    gates (suc zero) t h a b = follows _ _ _ _ t 17 17 (omega arith) refl
    gates (suc (suc k)) t h a b = absurd (omega arith)

    run : Run launched start clock holds w
    run = record {
      clocks = clocks;
      gates = gates;
      starts = each 2 _ (refl, (refl, tt));
      shows = shows;
      takes = takes;
    }

pub weaker_tests_fail : WeakerTestsFail
unfolding exchange glitch followed launched
weaker_tests_fail = (
  ([], exchange_registers, exchange_times, exchange_whole, (at_most_fails, exchange_goes_wrong)),
  ([], exchange_registers, exchange_times, exchange_whole, (one_clock_fails, exchange_goes_wrong)),
  (glitch_gates, glitch_registers, glitch_times, glitch_whole, (kept_delays_fail, glitch_goes_wrong)),
  (followed_gates, followed_registers, followed_times, followed_whole, (greatest_early_fails, followed_goes_wrong)),
  (launched_gates, launched_registers, launched_times, launched_whole, (period_less_late_fails, launched_goes_wrong)),
)
