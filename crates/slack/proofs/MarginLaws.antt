-- Laws of margins, over integers.
use Rattle.std.proofs.Common.{◌≡◌, ◌≢◌, ℕ, ◌+◌, ◌*◌, ◌<◌, ◌↔◌, List, length, set, inl, inr, ◌∙◌, arith, ℤ, pos, ◌≤ℤ◌, ◌<ℤ◌}
use Rattle.std.proofs.lemmas.Bool.{cases_eq}
use Rattle.std.proofs.lemmas.Int.{ints}
use Rattle.std.proofs.lemmas.List.{get_or-set_same, get_or-set_other}
use Rattle.std.proofs.Math.ListN.{length-set}
use Rattle.arrival.specs.declared.edge.Edge.{Edge}
use Rattle.arrival.specs.declared.edge.Edge.TheVariants.{Late, Early}
use Rattle.promise.specs.Machine.{Machine, Formed}
use Rattle.slack.specs.Margin.{margin_of, Enough, Kept, PassedByMargins, MarginIsExact, MarginGrows, PassedWithNeeds, MarginsIn, IsWorst, AreSmallest}
use Rattle.slack.specs.Required.{MarginIsBetween}
use Rattle.slack.specs.declared.worst.Worst.{Worst}
use Rattle.slack.specs.declared.worst.Smallest.{Smallest}

pub is_between : MarginIsBetween
is_between m r = (omega (arith, ints), omega (arith, ints))

pub is_exact : MarginIsExact
is_exact Late m r t = (λ kept. omega (arith, ints), λ at_most. omega (arith, ints))
is_exact Early m r t = (λ kept. omega (arith, ints), λ at_most. omega (arith, ints))

pub grows : MarginGrows
grows e m r t is = ((is_exact e m r t).1 (omega (arith, ints)), λ kept. let more = (is_exact e m r (t + 1)).0 kept in absurd (omega (arith, ints)))

-- a sum is right exactly if its margin is not below 0
pub kept_enough : (e : Edge) (m : Machine) (r : ℕ) → Kept e m r ↔ Enough e m r
kept_enough Late m r = (λ kept. omega (arith, ints), λ enough. omega (arith, ints))
kept_enough Early m r = (λ kept. omega (arith, ints), λ enough. omega (arith, ints))

pub by_margins : PassedByMargins
by_margins m = (
  λ passed. (passed.formed, λ e. enough passed.setup_kept passed.hold_kept e),
  λ (formed, all). record {
    formed = formed;
    setup_kept = λ r h. (kept_enough Late m r).1 (all Late r h);
    hold_kept = λ r h. (kept_enough Early m r).1 (all Early r h);
  },
)
  where
    enough : ((r : ℕ) → r < m.registers → Kept Late m r) → ((r : ℕ) → r < m.registers → Kept Early m r) → (e : Edge) (r : ℕ) → r < m.registers → Enough e m r
    enough setup hold Late r h = (kept_enough Late m r).0 (setup r h)
    enough setup hold Early r h = (kept_enough Early m r).0 (hold r h)

-- of one register the smallest margin is its own
pub alone : (e : Edge) (m : Machine) (x : ℤ) → x ≡ margin_of e m 0 → IsWorst e m 1 (record { register = 0; margin = x })
alone e m x is = record {
  inside = omega arith;
  has = is;
  smallest = λ q h. let first : q ≡ 0 = omega arith in rw first (omega (arith, ints));
  first = λ q h. absurd (omega arith);
}

-- the next register has a smaller margin than all before it
pub smaller : (e : Edge) (m : Machine) (n : ℕ) (w : Worst) (x : ℤ) → IsWorst e m n w → x ≡ margin_of e m n → x <ℤ w.margin → IsWorst e m (n + 1) (record { register = n; margin = x })
smaller e m n w x sofar is below = record {
  inside = omega arith;
  has = is;
  smallest = λ q h. elim (cases_eq q n) [
    | inl same ↦ rw same (omega (arith, ints))
    | inr other ↦ omega (arith, ints, sofar.smallest q (omega arith))
  ];
  first = λ q h. omega (arith, ints, sofar.smallest q h);
}

-- and one that has none
pub no_smaller : (e : Edge) (m : Machine) (n : ℕ) (w : Worst) (x : ℤ) → IsWorst e m n w → x ≡ margin_of e m n → w.margin ≤ℤ x → IsWorst e m (n + 1) w
no_smaller e m n w x sofar is above = record {
  inside = omega (arith, sofar.inside);
  has = sofar.has;
  smallest = λ q h. elim (cases_eq q n) [
    | inl same ↦ rw same (omega (arith, ints))
    | inr other ↦ omega (arith, ints, sofar.smallest q (omega arith))
  ];
  first = sofar.first;
}

pub both_smallest : (m : Machine) (s : Smallest) → Formed m → IsWorst Late m m.registers s.setup → IsWorst Early m m.registers s.hold → AreSmallest m s
both_smallest m s formed setup hold = record {
  setup = setup;
  hold = hold;
  passed = (
    λ passed. (
      omega (arith, ints, setup.has, (kept_enough Late m s.setup.register).0 (passed.setup_kept _ setup.inside)),
      omega (arith, ints, hold.has, (kept_enough Early m s.hold.register).0 (passed.hold_kept _ hold.inside)),
    ),
    λ none. (by_margins m).1 (formed, enough none.0 none.1),
  );
}
  where
    enough : pos 0 ≤ℤ s.setup.margin → pos 0 ≤ℤ s.hold.margin → (e : Edge) (r : ℕ) → r < m.registers → Enough e m r
    enough some_setup some_hold Late r h = omega (arith, ints, setup.smallest r h)
    enough some_setup some_hold Early r h = omega (arith, ints, hold.smallest r h)

pub with_needs : PassedWithNeeds
with_needs m s a b formed smallest = (
  λ passed. (
    omega (arith, ints, smallest.setup.has, (is_exact Late m s.setup.register a).0 (passed.setup_kept _ smallest.setup.inside)),
    omega (arith, ints, smallest.hold.has, (is_exact Early m s.hold.register b).0 (passed.hold_kept _ smallest.hold.inside)),
  ),
  λ (setup, hold). record {
    formed = record { sources = formed.sources; sound = formed.sound; taken = formed.taken; clocked = formed.clocked; output_ordered = formed.output_ordered };
    setup_kept = λ r h. (is_exact Late m r a).1 (omega (arith, ints, smallest.setup.smallest r h));
    hold_kept = λ r h. (is_exact Early m r b).1 (omega (arith, ints, smallest.hold.smallest r h));
  },
)

-- both margins of the next register are written
pub both_more : (m : Machine) (n : ℕ) (before now : List ℤ) (a b : ℤ) → MarginsIn m n before now → 2 * n + 1 < length now → a ≡ margin_of Late m n → b ≡ margin_of Early m n →
    MarginsIn m (n + 1) before (set (set now (2 * n) a) (2 * n + 1) b)
both_more m n before now a b sofar room is_a is_b = record {
  setup = λ r h.
      let apart : 2 * r ≢ 2 * n + 1 = omega arith in
      get_or-set_other _ (2 * n + 1) (2 * r) b (pos 0) apart ∙ elim (cases_eq r n) [
        | inl same ↦ rw same (get_or-set_same now (2 * n) a (pos 0) (omega arith) ∙ is_a)
        | inr other ↦ let ne : 2 * r ≢ 2 * n = omega arith in get_or-set_other now (2 * n) (2 * r) a (pos 0) ne ∙ sofar.setup r (omega arith)
      ];
  hold = λ r h. elim (cases_eq r n) [
    | inl same ↦ rw same (get_or-set_same (set now (2 * n) a) (2 * n + 1) b (pos 0) (omega (arith, length-set {A = ℤ})) ∙ is_b)
    | inr other ↦
        let far : 2 * r + 1 ≢ 2 * n + 1 = omega arith in
        let apart : 2 * r + 1 ≢ 2 * n = omega arith in
        get_or-set_other _ (2 * n + 1) (2 * r + 1) b (pos 0) far ∙ get_or-set_other now (2 * n) (2 * r + 1) a (pos 0) apart ∙ sofar.hold r (omega arith)
  ];
  rest = λ k h.
      let far : k ≢ 2 * n + 1 = omega arith in
      let apart : k ≢ 2 * n = omega arith in
      get_or-set_other _ (2 * n + 1) k b (pos 0) far ∙ get_or-set_other now (2 * n) k a (pos 0) apart ∙ sofar.rest k (omega arith);
}
