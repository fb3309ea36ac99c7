-- The first of the worst paths, and the first that ends at a register.
use Rattle.std.proofs.Common.{◌≡◌, ℕ, zero, suc, ◌+◌, ◌<◌, Bool, true, false, ◌⊎◌, List, [], ◌∷◌, length, get_or, sym, refl, ap, ◌∙◌, inl, inr, arith, ◌≤ℤ◌, ◌<ℤ◌}
use Rattle.std.proofs.lemmas.Int.{ints}
use Rattle.arrival.specs.declared.edge.Edge.{Edge}
use Rattle.arrival.specs.declared.edge.Edge.TheVariants.{Late, Early}
use Rattle.arrival.specs.Arrival.{arrival, NoWorse}
use Rattle.path.specs.Path.{Steps, Leads, Ahead, sum, told, Told}
use Rattle.path.proofs.Telling.{none_worse, told_is_first}
use Rattle.promise.specs.Machine.{Machine, Formed}
use Rattle.slack.specs.Margin.{margin_of, IsWorst}
use Rattle.slack.proofs.MarginLaws.{both_smallest}
use Rattle.worst_paths.specs.WorstPaths.{RegisterPath, IsPath, launch_time, slack_at, slack_of, Precedes, IsBefore, WorstPaths, EachOnce, PrecedesIsAhead, FirstIsWorst, IsFirstAtRegister, FirstAtRegister, PassedByPaths}
use Rattle.std.proofs.lemmas.Bool.{cases_lt}
use Rattle.std.proofs.lemmas.List.{get_or_default}
use Rattle.worst_paths.proofs.Firsts.{Firsts, firsts_of}
use Rattle.worst_paths.proofs.Order.{precedes_total, order_anti, path_from}

ahead_same : (p : Steps) → Ahead p p
unfolding Ahead
ahead_same [] = tt
ahead_same (x ∷ p) = inr (refl, ahead_same p)

ahead_of : (p q : Steps) → Precedes p q → Ahead p q
unfolding Ahead Precedes
ahead_of [] q s = absurd s
ahead_of (x ∷ p) [] s = s
ahead_of (x ∷ p) (y ∷ q) (inl s) = inl s
ahead_of (x ∷ p) (y ∷ q) (inr s) = inr (s.0, ahead_of p q s.1)

no_both : {b : Bool} → b ≡ false → b ≡ true → ⊥
no_both f t = cc

not_after : (p q : Steps) → Ahead p q → Precedes q p → ⊥
unfolding Ahead Precedes
not_after [] [] a s = s
not_after [] (y ∷ q) a s = s
not_after (x ∷ p) [] a s = a
not_after (x ∷ p) (y ∷ q) (inl a) (inl s) = no_both a.0 s.1
not_after (x ∷ p) (y ∷ q) (inl a) (inr s) = no_both a.0 (sym s.0 ∙ a.1)
not_after (x ∷ p) (y ∷ q) (inr a) (inl s) = no_both s.0 (sym a.0 ∙ s.1)
not_after (x ∷ p) (y ∷ q) (inr a) (inr s) = not_after p q a.1 s.1

pub precedes_is_ahead : PrecedesIsAhead
precedes_is_ahead c i j p q k l r = (
  λ a. elim (precedes_total c i j p q k l r) [
    | inl same ↦ inl same.1
    | inr (inl s) ↦ inr s
    | inr (inr s) ↦ absurd (not_after p q a s)
  ],
  λ z. elim z [ inl same ↦ rw same (ahead_same q) | inr s ↦ ahead_of p q s ],
)

-- a margin is the slack where the signal comes at its own time
margin_is : (e : Edge) (m : Machine) (r : ℕ) → margin_of e m r ≡ slack_at e m r (arrival e m.circuit (launch_time e m) (m.takes r))
margin_is Late m r = omega (arith, ints)
margin_is Early m r = omega (arith, ints)

more_slack : (e : Edge) (m : Machine) (r t a : ℕ) → NoWorse e t a → slack_at e m r a ≤ℤ slack_at e m r t
more_slack Late m r t a h = omega (arith, ints)
more_slack Early m r t a h = omega (arith, ints)

same_slack : (e : Edge) (m : Machine) (r t a : ℕ) → slack_at e m r t ≡ slack_at e m r a → t ≡ a
same_slack Late m r t a h = omega (arith, ints)
same_slack Early m r t a h = omega (arith, ints)

module _ (e : Edge) (m : Machine) (formed : Formed m) where
  -- the path that is written of a register's signal
  told_path : ℕ → RegisterPath
  told_path r = path_from r (told e m.circuit (launch_time e m) (m.takes r)).0 (told e m.circuit (launch_time e m) (m.takes r)).1

  is_told : (r : ℕ) → r < m.registers → Told e m.circuit (launch_time e m) (m.takes r) (told_path r).source (told_path r).steps
  unfolding told_path
  is_told r h = told_is_first e m.circuit (launch_time e m) (m.takes r) formed.sound (formed.taken r h)

  told_is_path : (r : ℕ) → r < m.registers → IsPath m (told_path r)
  unfolding told_path
  told_is_path r h = (h, (is_told r h).leads)

  told_register : (r : ℕ) → (told_path r).register ≡ r
  unfolding told_path
  told_register r = refl

  told_slack : (r : ℕ) → r < m.registers → slack_of e m (told_path r) ≡ margin_of e m r
  unfolding told_path
  told_slack r h = ap (slack_at e m r) (is_told r h).reaches ∙ sym (margin_is e m r)

  -- no path has less slack than its register's margin
  no_less : (w : RegisterPath) → IsPath m w → margin_of e m w.register ≤ℤ slack_of e m w
  no_less w is = rw (margin_is e m w.register) (more_slack e m w.register _ _ (none_worse e m.circuit (launch_time e m) formed.sound w.source w.steps (m.takes w.register) is.1))

  -- w comes before every other path to its register
  module _ (w : RegisterPath) (is : IsPath m w) (first : (v : RegisterPath) → IsPath m v → v.register ≡ w.register → (v ≡ w) ⊎ IsBefore e m w v) where
    pub has : slack_of e m w ≡ margin_of e m w.register
    has =
        let a = no_less w is in
        let s = told_slack w.register is.0 in
        elim (first (told_path w.register) (told_is_path w.register is.0) (told_register w.register)) [
          | inl same ↦ rw same at s
          | inr (inl less) ↦ omega (arith, ints)
          | inr (inr same) ↦ let t = same.0 in omega (arith, ints)
        ]

    ahead : (j : ℕ) (q : Steps) → Leads m.circuit j q (m.takes w.register) → launch_time e m j + sum e m.circuit q ≡ arrival e m.circuit (launch_time e m) (m.takes w.register) → Ahead w.steps q
    ahead j q l reaches = elim (first (path_from w.register j q) (is.0, l) refl) [
      | inl same ↦ let z : q ≡ w.steps = ap (λ (v : RegisterPath). v.steps) same in rw z (ahead_same w.steps)
      | inr (inl less) ↦ let s : slack_of e m (path_from w.register j q) ≡ margin_of e m w.register = ap (slack_at e m w.register) reaches ∙ sym (margin_is e m w.register) in let h = has in absurd (omega (arith, ints))
      | inr (inr (same, inl lower)) ↦ absurd (omega arith)
      | inr (inr (same, inr (level, precedes))) ↦ ahead_of w.steps q precedes
    ]

    pub is_first : Told e m.circuit (launch_time e m) (m.takes w.register) w.source w.steps
    is_first = record {
      leads = is.1;
      reaches = same_slack e m w.register _ _ (has ∙ margin_is e m w.register);
      first = ahead;
    }

  -- w comes before every other path
  module _ (w : RegisterPath) (is : IsPath m w) (first : (v : RegisterPath) → IsPath m v → (v ≡ w) ⊎ IsBefore e m w v) where
    at_most : (v : RegisterPath) → IsPath m v → slack_of e m w ≤ℤ slack_of e m v
    at_most v h = elim (first v h) [
      | inl same ↦ rw same (omega (arith, ints))
      | inr (inl less) ↦ omega (arith, ints)
      | inr (inr same) ↦ let s = same.0 in omega (arith, ints)
    ]

    below : (q : ℕ) → q < w.register → slack_of e m w <ℤ margin_of e m q
    below q h =
        let inside : q < m.registers = omega (arith, is.0) in
        let s = told_slack q inside in
        let r = told_register q in
        elim (first (told_path q) (told_is_path q inside)) [
          | inl same ↦ let z : q ≡ w.register = sym r ∙ ap (λ (v : RegisterPath). v.register) same in absurd (omega arith)
          | inr (inl less) ↦ rw s at less
          | inr (inr (same, inl lower)) ↦ absurd (omega arith)
          | inr (inr (same, inr (level, precedes))) ↦ absurd (omega arith)
        ]

    pub is_worst : IsWorst e m m.registers (record { register = w.register; margin = slack_of e m w })
    is_worst = record {
      inside = is.0;
      has = has w is (λ v p _. first v p);
      smallest = λ q h. rw (← told_slack q h) (at_most (told_path q) (told_is_path q h));
      first = below;
    }

pub first_is_worst : FirstIsWorst
unfolding Firsts
first_is_worst e m zero w ws formed worst = absurd (omega (arith, worst.few))
first_is_worst e m (suc k) w ws formed worst =
    let f = firsts_of (IsBefore e m) (IsPath m) (suc k) (w ∷ ws) (λ x b. order_anti e m x x b b) worst in
    (is_worst e m formed w f.0 f.1, is_first e m formed w f.0 (λ v p _. f.1 v p))

pub each_once : EachOnce
each_once e m k i j d xs worst hi hj same = elim (cases_lt i j) [
  | inl l ↦ let b = rw same at (worst.ordered i j d l hj) in absurd (order_anti e m _ _ b b)
  | inr g ↦ elim (cases_lt j i) [
    | inl l ↦ let b = rw same at (worst.ordered j i d l hi) in absurd (order_anti e m _ _ b b)
    | inr h ↦ omega arith
  ]
]

-- any other path to the register of the first that ends there comes behind it
first_of : (e : Edge) (m : Machine) (k i : ℕ) (d p : RegisterPath) (xs : List RegisterPath) → WorstPaths e m k xs → IsFirstAtRegister xs i d p →
    (v : RegisterPath) → IsPath m v → v.register ≡ p.register → (v ≡ p) ⊎ IsBefore e m p v
first_of e m k i d p xs worst here v is level =
    elim (worst.rest v is) [
      | inl (j, h, at) ↦ elim (cases_lt i j) [
        | inl l ↦ inr (rw (here.is, at_j j h at) at (worst.ordered i j d l h))
        | inr g ↦ elim (cases_lt j i) [
          | inl l ↦ absurd (here.first j l (ap (λ (q : RegisterPath). q.register) (at_j j h at) ∙ level))
          | inr f ↦ let same : j ≡ i = omega arith in inl (sym (at_j j h at) ∙ rw same here.is)
        ]
      ]
      | inr (l, all) ↦ inr (rw here.is at (all i d here.inside))
    ]
  where
    at_j : (j : ℕ) → j < length xs → get_or xs j v ≡ v → get_or xs j d ≡ v
    at_j j h at = get_or_default xs j d v h ∙ at

pub first_at_register : FirstAtRegister
first_at_register e m k i d p xs formed worst here =
    let is : IsPath m p = rw here.is at (worst.each i d here.inside) in
    let first = first_of e m k i d p xs worst here in
    (has e m formed p is first, is_first e m formed p is first)

pub passed_by_paths : PassedByPaths
passed_by_paths m j k v w vs ws formed late early =
    (both_smallest m (record { setup = record { register = v.register; margin = slack_of Late m v }; hold = record { register = w.register; margin = slack_of Early m w } }) formed
    (first_is_worst Late m j v vs formed late).0 (first_is_worst Early m k w ws formed early).0).passed
