-- Two circuits that are passed with exceptions, and runs in which they go wrong; and with what period they would not.
use Rattle.std.proofs.Common.{◌≡◌, ℕ, zero, suc, ◌+◌, ◌-◌, ◌*◌, ◌%◌, ◌<◌, ◌≤◌, Bool, true, false, not, eqb, ltb, List, [], ◌∷◌, sym, refl, ap, ◌∙◌, ◌⊎◌, inl, inr, arith}
use Rattle.std.proofs.lemmas.Bool.{lt-ltb, le-ltb, eq-eqb, ne_eqb, cases_eq, cases_lt, true≢false}
use Rattle.circuit.specs.Gate.{output}
use Rattle.circuit.specs.Circuit.{Circuit, along}
use Rattle.circuit.specs.Lent.{gates_in}
use Rattle.circuit.specs.Whole.{Whole}
use Rattle.drawing.specs.Drawing.{ideal, held}
use Rattle.arrival.specs.declared.edge.Edge.TheVariants.{Late}
use Rattle.arrival.specs.Arrival.{arrival}
use Rattle.arrival.specs.Window.{Wave, Moves}
use Rattle.path.specs.Path.{Steps, Leads, sum}
use Rattle.path.proofs.Telling.{told_is_first}
use Rattle.promise.specs.Machine.{Machine, machine_in, since, last_change}
use Rattle.promise.specs.Run.{Clocks, Run}
use Rattle.values.specs.FalsePath.{Sensitizes, IsFalsePath, Violates}
use Rattle.values.specs.Examples.{GoesWrong}
use Rattle.values.specs.Exceptions.{PassedWithExceptions, TwoExceptionsFail, OneExceptionFails, PassedWithLonger}
use Rattle.values.proofs.Examples.{each, whole_by, formed_of, follows}

-- a path is launched by a source
launched : (c : Circuit) (i k : ℕ) (p : Steps) → Leads c i p k → i < c.inputs
unfolding Leads
launched c i k [] leads = leads.1
launched c i k ((g, second) ∷ p) leads = launched c i _ p leads.2

-- a register that takes its bit together with itself, up to 20 late, without its bit as it is: 0 when nothing takes
-- time
abbrev pulse_gates : List ℕ
pulse_gates = 0 ∷ 0 ∷ 8 ∷ 0 ∷ 20 ∷ 0 ∷ 20 ∷ 1 ∷ 0 ∷ 2 ∷ 0 ∷ 0 ∷ 0 ∷ 0 ∷ []

abbrev pulse_registers : List ℕ
pulse_registers = 2 ∷ 0 ∷ 0 ∷ []

abbrev pulse_times : List ℕ
pulse_times = 20 ∷ 1 ∷ 1 ∷ 0 ∷ 0 ∷ []

pulse : Machine
pulse = machine_in pulse_gates pulse_registers pulse_times

pulse_whole : Whole pulse_gates pulse_registers pulse_times
pulse_whole = whole_by _ _ _ (omega arith)

-- the paths that end at the register: from it by the second input of the second gate, or through both gates
short : Steps
short = (1, true) ∷ []

through : Bool → Steps
through second = (1, false) ∷ (0, second) ∷ []

all_paths : (i : ℕ) (p : Steps) → Leads pulse.circuit i p 2 → (p ≡ short) ⊎ ((p ≡ through false) ⊎ (p ≡ through true))
unfolding pulse gates_in Leads short through
all_paths i [] leads = absurd (omega (arith, leads))
all_paths i ((zero, x) ∷ p) leads = absurd (omega (arith, leads.0))
all_paths i ((suc (suc g), x) ∷ p) leads = absurd (omega (arith, leads.0))
all_paths i ((suc zero, true) ∷ []) leads = inl refl
all_paths i ((suc zero, true) ∷ (f, x) ∷ p) leads = absurd (omega (arith, leads.2.0))
all_paths i ((suc zero, false) ∷ []) leads = absurd (omega (arith, leads.2))
all_paths i ((suc zero, false) ∷ (suc f, x) ∷ p) leads = absurd (omega (arith, leads.2.0))
all_paths i ((suc zero, false) ∷ (zero, false) ∷ []) leads = inr (inl refl)
all_paths i ((suc zero, false) ∷ (zero, true) ∷ []) leads = inr (inr refl)
all_paths i ((suc zero, false) ∷ (zero, false) ∷ (e, y) ∷ p) leads = absurd (omega (arith, leads.2.2.0))
all_paths i ((suc zero, false) ∷ (zero, true) ∷ (e, y) ∷ p) leads = absurd (omega (arith, leads.2.2.0))

short_in_time : (r i : ℕ) (p : Steps) → p ≡ short → Violates pulse r i p → ⊥
unfolding pulse gates_in sum short
short_in_time zero zero p e late = late.2 (rw e (omega arith))
short_in_time zero (suc i) p e late = absurd (omega (arith, launched _ (suc i) _ p late.1))
short_in_time (suc r) i p e late = absurd (omega (arith, late.0))

violating : (r i : ℕ) (p : Steps) → Violates pulse r i p →
    (r ≡ 0) × (i ≡ 0) × ((p ≡ through false) ⊎ (p ≡ through true))
unfolding pulse gates_in
violating zero i p late =
    let source = launched _ i _ p late.1 in
    (refl, omega arith, elim (all_paths i p late.1) [ inl e ↦ absurd (short_in_time zero i p e late) | inr e ↦ e ])
violating (suc r) i p late = absurd (omega (arith, late.0))

-- the second gate depends on its first input only with 0 at the register, the first on either of its own only with 1
false_both : (x a : Bool) → Sensitizes pulse.circuit (λ i. a) (through x) → ⊥
unfolding pulse gates_in Sensitizes through ideal along output
false_both false false l = true≢false (sym l.1.0)
false_both true false l = true≢false (sym l.1.0)
false_both false true l = true≢false (sym l.0)
false_both true true l = true≢false (sym l.0)

false_through : (x : Bool) → IsFalsePath pulse.circuit (through x)
unfolding pulse gates_in Sensitizes through ideal along
false_through false b l = false_both false (b 0) l
false_through true b l = false_both true (b 0) l

pulse_excepted : PassedWithExceptions 2 1 pulse
unfolding pulse gates_in arrival along sum through
pulse_excepted = record {
  formed = formed_of _ _ _ pulse_whole;
  hold_kept = each 1 _ (omega arith);
  excepted = (
    λ k. (0, through (eqb k 1)),
    λ r i p late.
        let l = violating r i p late in
        elim l.2 [ inl e ↦ (0, omega arith, rw (l.0, e) refl) | inr e ↦ (1, omega arith, rw (l.0, e) refl) ],
  );
  are_false = λ r i p late.
      elim (violating r i p late).2 [ inl e ↦ rw e (false_through false) | inr e ↦ rw e (false_through true) ];
  late_by = λ r i p late.
      let l = violating r i p late in
      elim l.2 [ inl e ↦ rw (l.0, l.1, e) (omega arith) | inr e ↦ rw (l.0, l.1, e) (omega arith) ];
}

-- begun with 1, the register turns its bit round in every cycle, where the drawing has 0 from the first cycle on
pulse_goes_wrong : GoesWrong pulse
unfolding pulse gates_in held ideal along output
pulse_goes_wrong = (start, clock, holds, w, run, (2, 0, omega arith, λ e. true≢false e))
  where
    start : ℕ → Bool
    start r = true

    clock : ℕ → ℕ → ℕ
    clock n r = n * 20

    holds : ℕ → ℕ → Bool
    holds n r = eqb (n % 2) 0

    shown : Wave
    shown t = ltb ((t + 39) % 40) 20

    w : ℕ → Wave
    w zero t = shown t
    w (suc zero) t = output 8 (shown (t - 20)) (shown (t - 20))
    w (suc (suc k)) t = output 2 (output 8 (shown (t - 0 - 20)) (shown (t - 0 - 20))) (shown (t - 0))

    shows : (n r t : ℕ) → r < 1 → clock n r + 1 ≤ t → t < clock (suc n) r + 1 → w r t ≡ holds n r
    shows n zero t h a z = elim (cases_eq (n % 2) 0) [
      | inl even ↦ rw (lt-ltb ((t + 39) % 40) 20 (omega arith), eq-eqb (n % 2) 0 even) refl
      | inr odd ↦ rw (le-ltb ((t + 39) % 40) 20 (omega arith), ne_eqb (n % 2) 0 odd) refl
    ]
    shows n (suc r) t h a z = absurd (omega arith)

    taken : (n : ℕ) → w 2 (clock (suc n) 0) ≡ holds (suc n) 0
    taken n = elim (cases_eq (n % 2) 0) [
      | inl even ↦
          let t : ℕ = clock (suc n) 0 in
          let old : shown (t - 0 - 20) ≡ false = le-ltb ((t - 0 - 20 + 39) % 40) 20 (omega arith) in
          let now : shown (t - 0) ≡ true = lt-ltb ((t - 0 + 39) % 40) 20 (omega arith) in
          rw (old, now, ne_eqb (suc n % 2) 0 (λ e. omega arith)) refl
      | inr odd ↦
          let t : ℕ = clock (suc n) 0 in
          let old : shown (t - 0 - 20) ≡ true = lt-ltb ((t - 0 - 20 + 39) % 40) 20 (omega arith) in
          let now : shown (t - 0) ≡ false = le-ltb ((t - 0 + 39) % 40) 20 (omega arith) in
          let even : suc n % 2 ≡ 0 = omega arith in
          rw (old, now, eq-eqb (suc n % 2) 0 even) refl
    ]

    clocks : Clocks pulse clock
    clocks n zero h = (omega arith, omega arith)
    clocks n (suc r) h = absurd (omega arith)

    takes : (n r : ℕ) (b : Bool) → r < 1 →
        ((t : ℕ) → clock (suc n) r ≤ t + 0 → t ≤ clock (suc n) r + 0 → w (pulse.takes r) t ≡ b) → holds (suc n) r ≡ b
    takes n (suc r) b h all = absurd (omega arith)
    takes n zero b h all = sym (taken n) ∙ all (clock (suc n) 0) (omega arith) (omega arith)

    gates : Moves pulse.circuit w
    gates zero t h a b = follows _ _ _ _ t 20 20 (omega arith) refl
    gates (suc zero) t h a b = follows _ _ _ _ t 0 0 (omega arith) refl
    gates (suc (suc k)) t h a b = absurd (omega arith)

    run : Run pulse start clock holds w
    run = record {
      clocks = clocks;
      gates = gates;
      starts = each 1 _ (refl, tt);
      shows = shows;
      takes = takes;
    }

pub two_exceptions_fail : TwoExceptionsFail
unfolding pulse
two_exceptions_fail = (pulse_gates, pulse_registers, pulse_times, pulse_whole, (refl, pulse_excepted, pulse_goes_wrong))

-- a register that takes its own bit again, through a gate that passes its first input on and has 21 for the second,
-- with a period of 20 a register that takes its own bit again, through a gate that passes its first input on and has
-- 21 for the second, with a period of 20
abbrev slow_gates : List ℕ
slow_gates = 0 ∷ 0 ∷ 10 ∷ 1 ∷ 1 ∷ 1 ∷ 21 ∷ []

abbrev slow_registers : List ℕ
slow_registers = 1 ∷ 0 ∷ 0 ∷ []

abbrev slow_times : List ℕ
slow_times = 20 ∷ 0 ∷ 0 ∷ 0 ∷ 0 ∷ []

slow : Machine
slow = machine_in slow_gates slow_registers slow_times

slow_whole : Whole slow_gates slow_registers slow_times
slow_whole = whole_by _ _ _ (omega arith)

by : Bool → Steps
by second = (0, second) ∷ []

slow_paths : (i : ℕ) (p : Steps) → Leads slow.circuit i p 1 → (p ≡ by false) ⊎ (p ≡ by true)
unfolding slow gates_in Leads by
slow_paths i [] leads = absurd (omega (arith, leads))
slow_paths i ((suc g, x) ∷ p) leads = absurd (omega (arith, leads.0))
slow_paths i ((zero, false) ∷ []) leads = inl refl
slow_paths i ((zero, true) ∷ []) leads = inr refl
slow_paths i ((zero, false) ∷ (f, x) ∷ p) leads = absurd (omega (arith, leads.2.0))
slow_paths i ((zero, true) ∷ (f, x) ∷ p) leads = absurd (omega (arith, leads.2.0))

first_in_time : (r i : ℕ) (p : Steps) → p ≡ by false → Violates slow r i p → ⊥
unfolding slow gates_in sum by
first_in_time zero zero p e late = late.2 (rw e (omega arith))
first_in_time zero (suc i) p e late = absurd (omega (arith, launched _ (suc i) _ p late.1))
first_in_time (suc r) i p e late = absurd (omega (arith, late.0))

slow_late : (r i : ℕ) (p : Steps) → Violates slow r i p → (r ≡ 0) × (i ≡ 0) × (p ≡ by true)
unfolding slow gates_in
slow_late zero i p late =
    let source = launched _ i _ p late.1 in
    (refl, omega arith, elim (slow_paths i p late.1) [ inl e ↦ absurd (first_in_time zero i p e late) | inr e ↦ e ])
slow_late (suc r) i p late = absurd (omega (arith, late.0))

false_second : (a : Bool) → Sensitizes slow.circuit (λ i. a) (by true) → ⊥
unfolding slow gates_in Sensitizes by ideal along output
false_second false l = true≢false (sym l.0)
false_second true l = true≢false (sym l.0)

false_by : IsFalsePath slow.circuit (by true)
unfolding slow gates_in Sensitizes by ideal along output
false_by b l = false_second (b 0) l

slow_excepted : PassedWithExceptions 1 1 slow
unfolding slow gates_in arrival along sum by
slow_excepted = record {
  formed = formed_of _ _ _ slow_whole;
  hold_kept = each 1 _ (omega arith);
  excepted = (λ k. (0, by true), λ r i p late. let l = slow_late r i p late in (0, omega arith, rw (l.0, l.2) refl));
  are_false = λ r i p late. rw (slow_late r i p late).2 false_by;
  late_by = λ r i p late. let l = slow_late r i p late in rw (l.0, l.1, l.2) (omega arith);
}

-- at the clock of cycle 1 its greatest delay has not passed, and nothing is said of the gate
slow_goes_wrong : GoesWrong slow
unfolding slow gates_in held ideal along output
slow_goes_wrong = ((λ r. false), clock, holds, w, run, (1, 0, omega arith, λ e. true≢false e))
  where
    clock : ℕ → ℕ → ℕ
    clock n r = n * 20

    holds : ℕ → ℕ → Bool
    holds n r = not (eqb n 0)

    shown : Wave
    shown t = not (ltb t 20)

    w : ℕ → Wave
    w zero t = shown t
    w (suc k) t = true

    shows : (n r t : ℕ) → r < 1 → clock n r + 0 ≤ t → t < clock (suc n) r + 0 → w r t ≡ holds n r
    shows zero zero t h a z = rw (lt-ltb t 20 (omega arith)) refl
    shows (suc n) zero t h a z = rw (le-ltb t 20 (omega arith), ne_eqb (suc n) 0 (λ e. omega arith)) refl
    shows n (suc r) t h a z = absurd (omega arith)

    clocks : Clocks slow clock
    clocks n zero h = (omega arith, omega arith)
    clocks n (suc r) h = absurd (omega arith)

    takes : (n r : ℕ) (b : Bool) → r < 1 →
        ((t : ℕ) → clock (suc n) r ≤ t + 0 → t ≤ clock (suc n) r + 0 → w (slow.takes r) t ≡ b) → holds (suc n) r ≡ b
    takes n (suc r) b h all = absurd (omega arith)
    takes n zero b h all = rw (ne_eqb (suc n) 0 (λ e. omega arith)) (all (clock (suc n) 0) (omega arith) (omega arith))

    gates : Moves slow.circuit w
    gates zero t h a b =
        let on : shown (t - 1) ≡ true = ap not (le-ltb (t - 1) 20 (omega arith)) in
        follows _ _ _ _ t 1 1 (omega arith) (rw on refl)
    gates (suc k) t h a b = absurd (omega arith)

    run : Run slow (λ r. false) clock holds w
    run = record {
      clocks = clocks;
      gates = gates;
      starts = each 1 _ (refl, tt);
      shows = shows;
      takes = takes;
    }

pub one_exception_fails : OneExceptionFails
unfolding slow
one_exception_fails = (slow_gates, slow_registers, slow_times, slow_whole, (refl, slow_excepted, slow_goes_wrong))

pub passed_with_longer : PassedWithLonger
passed_with_longer m n d p excepted le =
    let f = excepted.formed in
    record {
      formed = record {
        sources = f.sources;
        sound = f.sound;
        taken = f.taken;
        clocked = f.clocked;
        output_ordered = f.output_ordered;
      };
      setup_kept = λ r h.
          let path = told_is_first Late m.circuit (since m) (m.takes r) f.sound (f.taken r h) in
          elim (cases_lt (m.period + m.early r) (last_change m (m.takes r) + m.setup)) [
            | inl above ↦
                let late = excepted.late_by r _ _ (h, path.leads, λ in_time. omega (arith, path.reaches)) in
                omega (arith, path.reaches)
            | inr below ↦ omega arith
          ];
      hold_kept = excepted.hold_kept;
    }
