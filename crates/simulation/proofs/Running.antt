-- A simulated run is one that the machine can make.
use Rattle.std.proofs.Common.{◌≡◌, ℕ, zero, suc, ◌+◌, ◌-◌, ◌<◌, ◌≤◌, Bool, true, false, ◌&&◌, leb, ◌⊎◌, Option, Some, None, unwrap_or, length, sym, refl, ap, ◌∙◌, ap₂, inl, inr, arith}
use Rattle.std.proofs.lemmas.Bool.{ne_eqb, eq-eqb, cases_lt, cases_eq, le-leb, lt-ltb, leb-true, leb-false, cases_Bool, and_from, and_left, and_right}
use Rattle.circuit.specs.Gate.{output}
use Rattle.circuit.specs.Circuit.{Circuit, gate, signals, Sound}
use Rattle.circuit.proofs.Signals.{all_in, all_at, each_signal}
use Rattle.arrival.specs.Window.{Wave, Moves}
use Rattle.promise.specs.Machine.{Machine}
use Rattle.promise.specs.Run.{Run}
use Rattle.promise.specs.Promise.{Delays}
use Rattle.promise.proofs.Going.{in_order}
use Rattle.promise.proofs.Keeping.{promise_kept}
use Rattle.simulation.specs.Simulated.{Told, waves, agrees, steady, still, settled, first_seen, end_seen, bits, cycle, shown_of, shows_at, shown_before, run_waves, run_bits, MayTell, Runnable}
use Rattle.simulation.specs.Theorems.{SimulatedIsRun, SimulatedAsDrawn}

-- a source's wave is as given
pub waves_in : (c : Circuit) → Sound c → (d e : ℕ → ℕ → ℕ) (s : ℕ → Wave) (i t : ℕ) → i < c.inputs → waves c d e s i t ≡ s i t
unfolding waves
waves_in c sound d e s i t h = ap (λ (x : Wave). x t) (all_in (λ n g a b t. output g.table (a (t - d (n - c.inputs) t)) (b (t - e (n - c.inputs) t))) c sound s i h)

-- a gate's wave, at every moment
pub waves_at : (c : Circuit) → Sound c → (d e : ℕ → ℕ → ℕ) (s : ℕ → Wave) (k t : ℕ) → k < length c.gates →
    waves c d e s (c.inputs + k) t ≡ output (gate c k).table (waves c d e s (gate c k).one (t - d k t)) (waves c d e s (gate c k).two (t - e k t))
unfolding waves
waves_at c sound d e s k t h = let n : c.inputs + k - c.inputs ≡ k = omega arith in
    rw n at (ap (λ (x : Wave). x t) (all_at (λ n g a b t. output g.table (a (t - d (n - c.inputs) t)) (b (t - e (n - c.inputs) t))) c sound s k h))

-- and so gates follow their inputs
waves_move : (c : Circuit) → Sound c → (d e : ℕ → ℕ → ℕ) → Delays c d e → (s : ℕ → Wave) → Moves c (waves c d e s)
waves_move c sound d e within s k t h _ _ = record {
  delay_one = d k t;
  delay_two = e k t;
  one_least = (within.one_within k t h).0;
  one_greatest = (within.one_within k t h).1;
  two_least = (within.two_within k t h).0;
  two_greatest = (within.two_within k t h).1;
  is = waves_at c sound d e s k t h;
}

-- waves go by what the sources were so far
pub waves_same : (c : Circuit) → Sound c → (d e : ℕ → ℕ → ℕ) (s z : ℕ → Wave) (t : ℕ) →
    ((r u : ℕ) → r < c.inputs → u < t → s r u ≡ z r u) →
    (k : ℕ) → k < signals c → (u : ℕ) → u < t → waves c d e s k u ≡ waves c d e z k u
waves_same c sound d e s z t same = each_signal c sound (λ k. (u : ℕ) → u < t → waves c d e s k u ≡ waves c d e z k u)
    (λ i h u l. waves_in c sound d e s i u h ∙ same i u h l ∙ sym (waves_in c sound d e z i u h))
    (λ k h p q u l. waves_at c sound d e s k u h
    ∙ ap₂ (output (gate c k).table) (p (u - d k u) (omega arith)) (q (u - e k u) (omega arith))
    ∙ sym (waves_at c sound d e z k u h))

pub agrees_same : (b x : Bool) → x ≡ b → agrees b x ≡ true
agrees_same true x e = e
agrees_same false true e = sym e
agrees_same false false e = refl

-- steady: what it sees, and that it sees no more
pub steady_same : (f g : Wave) (b : Bool) (a n : ℕ) → ((u : ℕ) → a ≤ u → u < a + n → f u ≡ g u) → steady f b a n ≡ steady g b a n
unfolding steady
steady_same f g b a zero same = refl
steady_same f g b a (suc n) same = ap₂ ◌&&◌ (steady_same f g b a n (λ u l h. same u l (omega arith))) (ap (agrees b) (same (a + n) (omega arith) (omega arith)))

pub steady_all : (f : Wave) (b : Bool) (a n : ℕ) → ((u : ℕ) → a ≤ u → u < a + n → f u ≡ b) → steady f b a n ≡ true
unfolding steady
steady_all f b a zero all = refl
steady_all f b a (suc n) all = and_from _ _ (steady_all f b a n (λ u l h. all u l (omega arith))) (agrees_same b (f (a + n)) (all (a + n) (omega arith) (omega arith)))

-- what is settled goes by the moments from a until before e
pub still_same : (f g : Wave) (a e : ℕ) → a < e → ((u : ℕ) → a ≤ u → u < e → f u ≡ g u) → still f a e ≡ still g a e
unfolding still
still_same f g a e some same =
    let at_a : f a ≡ g a = same a (omega arith) (omega arith) in
    let st : steady f (f a) a (e - a) ≡ steady g (f a) a (e - a) = steady_same f g _ _ _ (λ u l h. same u (omega arith) (omega arith)) in
    rw (st, at_a)

settled_same : (f g : Wave) (a e : ℕ) (told : Bool) → a < e → ((u : ℕ) → a ≤ u → u < e → f u ≡ g u) → settled f a e told ≡ settled g a e told
unfolding settled
settled_same f g a e told some same = ap (λ (b : Option Bool). unwrap_or b told) (still_same f g a e some same)

-- a wave that stays what it was at first
pub still_kept : (f : Wave) (a e : ℕ) → ((u : ℕ) → a ≤ u → u < e → f u ≡ f a) → still f a e ≡ Some (f a)
unfolding still
still_kept f a e all = let st : steady f (f a) a (e - a) ≡ true = steady_all f (f a) a (e - a) (λ u l h. all u l (omega arith)) in rw st

settled_kept : (f : Wave) (a e : ℕ) (told : Bool) → ((u : ℕ) → a ≤ u → u < e → f u ≡ f a) → settled f a e told ≡ f a
unfolding settled
settled_kept f a e told all = ap (λ (b : Option Bool). unwrap_or b told) (still_kept f a e all)

pub settled_all : (f : Wave) (a e : ℕ) (told b : Bool) → a < e → ((u : ℕ) → a ≤ u → u < e → f u ≡ b) → settled f a e told ≡ b
settled_all f a e told b some all =
    let at_a : f a ≡ b = all a (omega arith) some in
    settled_kept f a e told (λ u l h. all u l h ∙ sym at_a) ∙ at_a

pub agrees_not : (b x : Bool) → (x ≡ b → ⊥) → agrees b x ≡ false
agrees_not true true ne = absurd (ne refl)
agrees_not true false ne = refl
agrees_not false true ne = refl
agrees_not false false ne = absurd (ne refl)

steady_not : (f : Wave) (b : Bool) (a n u : ℕ) → a ≤ u → u < a + n → (f u ≡ b → ⊥) → steady f b a n ≡ false
unfolding steady
steady_not f b a zero u l h ne = absurd (omega arith)
steady_not f b a (suc n) u l h ne = elim (cases_eq u (a + n)) [
  | inl e ↦ and_right (steady f b a n) _ (agrees_not b (f (a + n)) (rw e at ne))
  | inr o ↦ and_left _ _ (steady_not f b a n u l (omega (arith, o)) ne)
]

pub still_not : (f : Wave) (a e u : ℕ) → a ≤ u → u < e → (f u ≡ f a → ⊥) → still f a e ≡ None
unfolding still
still_not f a e u l h ne = let st : steady f (f a) a (e - a) ≡ false = steady_not f (f a) a (e - a) u l (omega arith) ne in rw st

-- numbers each of which is above the one before it
module _ (f : ℕ → ℕ) (up : (n : ℕ) → f n < f (suc n)) where
  apart : (n d : ℕ) → f n + d ≤ f (n + d)
  apart n zero = let e : n + 0 ≡ n = omega arith in rw e (omega arith)
  apart n (suc d) = let e : n + suc d ≡ suc (n + d) = omega arith in rw e (omega (arith, apart n d, up (n + d)))

  pub later : (n k : ℕ) → n ≤ k → f n + (k - n) ≤ f k
  later n k l = let e : n + (k - n) ≡ k = omega arith in rw e at (apart n (k - n))

module _ (m : Machine) (x : Told) (ok : Runnable m) (may : MayTell m x) where
  abbrev c : Circuit
  c = m.circuit

  -- the cycle that a register shows
  pub cycle_until : (r t : ℕ) → r < m.registers → t ≤ x.clock (suc (cycle m x r t)) r + m.output_late
  unfolding cycle
  cycle_until r zero h = omega arith
  cycle_until r (suc t) h = elim (cases_Bool (leb (x.clock (suc (cycle m x r t)) r + m.output_late) t)) [
    | inl q ↦ rw q (omega (arith, may.in_turn (suc (cycle m x r t)) r h, cycle_until r t h))
    | inr q ↦ rw q (omega (arith, leb-false _ _ q))
  ]

  pub cycle_from : (r t : ℕ) → r < m.registers → (cycle m x r t ≡ 0) ⊎ (x.clock (cycle m x r t) r + m.output_late < t)
  unfolding cycle
  cycle_from r zero h = inl refl
  cycle_from r (suc t) h = elim (cases_Bool (leb (x.clock (suc (cycle m x r t)) r + m.output_late) t)) [
    | inl q ↦ rw q (inr (omega (arith, leb-true _ _ q)))
    | inr q ↦ rw q (elim (cycle_from r t h) [ inl z ↦ inl z | inr l ↦ inr (omega arith) ])
  ]

  pub clocks_later : (r n k : ℕ) → r < m.registers → n ≤ k → x.clock n r + (k - n) ≤ x.clock k r
  clocks_later r n k h = later (λ (i : ℕ). x.clock i r) (λ i. may.in_turn i r h) n k

  pub cycle_is : (r n t : ℕ) → r < m.registers → x.clock n r + m.output_late ≤ t → t < x.clock (suc n) r + m.output_late → cycle m x r (suc t) ≡ n
  cycle_is r n t h a z = elim (cases_lt (cycle m x r (suc t)) n) [
    | inl l ↦ absurd (omega (arith, cycle_until r (suc t) h, clocks_later r (suc (cycle m x r (suc t))) n h (omega arith)))
    | inr g ↦ elim (cases_eq (cycle m x r (suc t)) n) [
      | inl e ↦ e
      | inr ne ↦ elim (cycle_from r (suc t) h) [
        | inl e ↦ omega arith
        | inr l ↦ absurd (let less : n < cycle m x r (suc t) = omega (arith, ne) in omega (arith, clocks_later r (suc n) (cycle m x r (suc t)) h less))
      ]
    ]
  ]

  clock_later : (n r : ℕ) → r < m.registers → 0 < x.clock (suc n) r
  clock_later n r h = omega (arith, may.in_turn n r h)

  -- some moment is seen
  pub some_seen : (n r : ℕ) → r < m.registers → first_seen m (x.clock (suc n) r) < end_seen m (x.clock (suc n) r)
  some_seen n r h = omega (arith, ok.some_moment, clock_later n r h)

  abbrev w : ℕ → Wave
  w = run_waves m x

  before_is : (t r u : ℕ) → u < t → shown_before m x t r u ≡ shown_before m x (suc u) r u
  unfolding shown_before
  before_is zero r u l = absurd (omega arith)
  before_is (suc t) r u l = elim (cases_eq u t) [
    | inl e ↦ rw e
    | inr ne ↦ rw (ne_eqb u t ne) (before_is t r u (omega (arith, ne)))
  ]

  -- the waves so far are the run's
  so_far : (t k u : ℕ) → k < signals c → u < t → waves c x.one x.two (shown_before m x t) k u ≡ w k u
  unfolding run_waves
  so_far t k u h l = waves_same c ok.formed.sound x.one x.two _ _ t (λ r u q l. before_is t r u l) k h u l

  bits_same : (v z : ℕ → Wave) (n r t : ℕ) → r < m.registers → x.clock n r + m.output_late ≤ t →
      ((k u : ℕ) → k < signals c → u < t → v k u ≡ z k u) → bits m x v n r ≡ bits m x z n r
  unfolding bits
  bits_same v z zero r t h l same = refl
  bits_same v z (suc n) r t h l same = settled_same _ _ _ _ _ (some_seen n r h) (λ u a q. same _ u (ok.formed.taken r h) (omega arith))

  pub register_shows : (r t : ℕ) → r < m.registers → w r t ≡ shows_at m x w r t
  unfolding run_waves shown_before shows_at
  register_shows r t h =
      waves_in c ok.formed.sound x.one x.two _ r t (omega (arith, ok.formed.sources))
      ∙ rw (eq-eqb t t refl) (elim (cases_Bool (leb (x.clock (cycle m x r (suc t)) r + m.output_late) t)) [
        | inl q ↦ ap (λ (b : Bool). shown_of m (x.clock (cycle m x r (suc t)) r) (x.clock (suc (cycle m x r (suc t))) r) t b (x.show r t))
            (bits_same _ _ (cycle m x r (suc t)) r t h (leb-true _ _ q) (so_far t))
        | inr q ↦ rw q
      ])

  pub gate_moves : (k t : ℕ) → k < length c.gates →
      w (c.inputs + k) t ≡ output (gate c k).table (w (gate c k).one (t - x.one k t)) (w (gate c k).two (t - x.two k t))
  unfolding run_waves
  gate_moves k t h = waves_at c ok.formed.sound x.one x.two _ k t h

  pub goes : Run m x.start x.clock (run_bits m x) w
  unfolding run_waves bits shows_at
  goes = record {
    clocks = may.clocks;
    gates = waves_move c ok.formed.sound x.one x.two may.delays _;
    starts = λ r h. refl;
    shows = λ n r t h a z.
        let e : cycle m x r (suc t) ≡ n = cycle_is r n t h a (omega (arith, ok.formed.output_ordered)) in
        register_shows r t h ∙ rw (e, le-leb _ _ a, lt-ltb _ _ z);
    takes = λ n r b h all. settled_all _ _ _ _ b (some_seen n r h) (λ u a q. all u (omega arith) (omega arith));
  }

pub simulated_is_run : SimulatedIsRun
simulated_is_run m x ok may = goes m x ok may

pub simulated_as_drawn : SimulatedAsDrawn
simulated_as_drawn m x passed some delays clocks =
    promise_kept m passed x.start x.clock (run_bits m x) (run_waves m x)
    (goes m x (record { formed = passed.formed; some_moment = some })
    (record { delays = delays; clocks = clocks; in_turn = λ n r h. omega (arith, in_order m passed r h, clocks n r h, clocks (suc n) r h) }))
