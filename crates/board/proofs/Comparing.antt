-- Windows of sources that are no worse, and what they mean for the sums.
use Rattle.std.proofs.Common.{min, max, ◌≡◌, ℕ, zero, suc, ◌+◌, ◌-◌, ◌*◌, ◌<◌, ◌≤◌, Bool, true, sym, refl, ap, ◌∙◌}
use Rattle.std.proofs.Common.{inl, inr}
use Rattle.std.proofs.Common.{arith}
use Rattle.std.proofs.Math.Nat.{mul-le-mul_right, add-mul, mul-add}
use Rattle.std.proofs.lemmas.Bool.{cases_lt, cases_Bool, cond-true, cond-false}
use Rattle.circuit.specs.Circuit.{Circuit, signals, Sound}
use Rattle.circuit.proofs.Signals.{each_signal}
use Rattle.arrival.specs.declared.edge.Edge.{Edge}
use Rattle.arrival.specs.declared.edge.Edge.TheVariants.{Late, Early}
use Rattle.arrival.specs.Arrival.{CircuitWithin, arrival, choose, latest, earliest}
use Rattle.arrival.proofs.ArrivalLaws.{arrival_in, arrival_at, monotone, shifts}
use Rattle.board.specs.Board.{Board, Formed, launch_cycle, until_cycle, since, still_until}
use Rattle.board.specs.Promise.{with_schedule, with_period, FewerTakes, CountedToFirst, Within, Narrower, Slower}
use Rattle.board.specs.Marks.{KeptIn}
use Rattle.board.proofs.Keeping.{since_register, since_input, until_register, until_input, until_next, until_after}

pub within_self : (c : Circuit) → CircuitWithin c c
within_self c = record {
  inputs_same = refl;
  gates_same = refl;
  gates_within = λ k h. record {
    one_same = refl;
    two_same = refl;
    one_least = omega arith;
    one_greatest = omega arith;
    two_least = omega arith;
    two_greatest = omega arith;
  };
}

-- a time over the worse of two sources' times each is the worse of two times
pub worse_of_two : (e : Edge) (c : Circuit) → Sound c → (u v : ℕ → ℕ) → (k : ℕ) → k < signals c →
    arrival e c (λ i. choose e (u i) (v i)) k ≡ choose e (arrival e c u k) (arrival e c v k)
worse_of_two Late c sound u v = each_signal c sound
    (λ k. latest c (λ i. max (u i) (v i)) k ≡ max (latest c u k) (latest c v k))
    (λ i h.
    omega (
      arith,
      arrival_in Late c sound (λ i. max (u i) (v i)) i h,
      arrival_in Late c sound u i h,
      arrival_in Late c sound v i h,
    ))
    (λ k h p q.
    omega (
      arith,
      arrival_at Late c sound (λ i. max (u i) (v i)) k h,
      arrival_at Late c sound u k h,
      arrival_at Late c sound v k h,
    ))
worse_of_two Early c sound u v = each_signal c sound
    (λ k. earliest c (λ i. min (u i) (v i)) k ≡ min (earliest c u k) (earliest c v k))
    (λ i h.
    omega (
      arith,
      arrival_in Early c sound (λ i. min (u i) (v i)) i h,
      arrival_in Early c sound u i h,
      arrival_in Early c sound v i h,
    ))
    (λ k h p q.
    omega (
      arith,
      arrival_at Early c sound (λ i. min (u i) (v i)) k h,
      arrival_at Early c sound u k h,
      arrival_at Early c sound v k h,
    ))

-- sources no worse than others and a shift, on both sides
module _ (c : Circuit) (sound : Sound c) (a b : ℕ) (s u : ℕ → ℕ) where
  pub later : ((i : ℕ) → i < c.inputs → a + s i ≤ b + u i) → (k : ℕ) → k < signals c →
      a + latest c s k ≤ b + latest c u k
  later less k h =
      omega (
        arith,
        monotone Late c c (λ i. a + s i) (λ i. b + u i) sound sound (within_self c) less k h,
        shifts Late c s a sound k h,
        shifts Late c u b sound k h,
      )

  pub sooner : ((i : ℕ) → i < c.inputs → a + s i ≤ b + u i) → (k : ℕ) → k < signals c →
      a + earliest c s k ≤ b + earliest c u k
  sooner less k h =
      omega (
        arith,
        monotone Early c c (λ i. b + u i) (λ i. a + s i) sound sound (within_self c) less k h,
        shifts Early c s a sound k h,
        shifts Early c u b sound k h,
      )

-- a register took no later than the cycle's beginning
pub launch_by_now : (m : Board) (r n : ℕ) → launch_cycle m r n ≤ n
unfolding launch_cycle
launch_by_now m r zero = omega arith
launch_by_now m r (suc n) = elim (cases_Bool (m.takes_at r n)) [
  | inl e ↦ rw (cond-true _ (suc n) (launch_cycle m r n) e) (omega arith)
  | inr e ↦ rw (cond-false _ (suc n) (launch_cycle m r n) e) (omega (arith, launch_by_now m r n))
]

pub until_past_now : (m : Board) (r n : ℕ) → suc n ≤ until_cycle m r n
until_past_now m r n = elim (cases_Bool (m.takes_at r n)) [
  | inl e ↦ omega (arith, until_next m r n e)
  | inr e ↦ omega (arith, until_after m r n e)
]

pub times_more : (x y p : ℕ) → x ≤ y → x * p ≤ y * p
times_more x y p h = mul-le-mul_right p h

-- a source's window in cycle b, moved to cycle a
pub since_in : (m : Board) (a b : ℕ) → ((r : ℕ) → r < m.registers → a + launch_cycle m r b ≤ b + launch_cycle m r a) →
    (i : ℕ) → a * m.period + since m b i ≤ b * m.period + since m a i
since_in m a b begins i = elim (cases_lt i m.registers) [
  | inl q ↦
      let t = times_more (a + launch_cycle m i b) (b + launch_cycle m i a) m.period (begins i q) in
      omega (
        arith,
        since_register m a i q,
        since_register m b i q,
        add-mul a (launch_cycle m i b) m.period,
        add-mul b (launch_cycle m i a) m.period,
      )
  | inr q ↦ omega (arith, since_input m a i q, since_input m b i q)
]

pub until_in : (m : Board) (a b : ℕ) → ((r : ℕ) → r < m.registers → b + until_cycle m r a ≤ a + until_cycle m r b) →
    (i : ℕ) → b * m.period + still_until m a i ≤ a * m.period + still_until m b i
until_in m a b ending i = elim (cases_lt i m.registers) [
  | inl q ↦
      let t = times_more (b + until_cycle m i a) (a + until_cycle m i b) m.period (ending i q) in
      omega (
        arith,
        until_register m a i q,
        until_register m b i q,
        add-mul b (until_cycle m i a) m.period,
        add-mul a (until_cycle m i b) m.period,
      )
  | inr q ↦ omega (arith, until_input m a i q, until_input m b i q)
]

-- what is right in cycle a is right in cycle b, if all registers that take in b take in a, and none launches later or
-- changes sooner in b, counted from the cycle
pub as_in : (m : Board) (a b : ℕ) → Formed m →
    ((r : ℕ) → r < m.registers → m.takes_at r b ≡ true → m.takes_at r a ≡ true) →
    ((r : ℕ) → r < m.registers → a + launch_cycle m r b ≤ b + launch_cycle m r a) →
    ((r : ℕ) → r < m.registers → b + until_cycle m r a ≤ a + until_cycle m r b) → KeptIn m a → KeptIn m b
as_in m a b formed takers begins ending kept = record {
  setup_kept = λ r h e.
      let p = suc_times a m.period in
      let q = suc_times b m.period in
      omega (
        arith,
        kept.setup_kept r h (takers r h e),
        later m.circuit formed.sound (a * m.period) (b * m.period) (since m b) (since m a)
            (λ i _. since_in m a b begins i) (m.takes r) (formed.taken r h),
      );
  hold_kept = λ r h e.
      let p = suc_times a m.period in
      let q = suc_times b m.period in
      omega (
        arith,
        kept.hold_kept r h (takers r h e),
        sooner m.circuit formed.sound (b * m.period) (a * m.period) (still_until m a) (still_until m b)
            (λ i _. until_in m a b ending i) (m.takes r) (formed.taken r h),
      );
}
  where
    suc_times : (n p : ℕ) → suc n * p ≡ p + n * p
    suc_times n p = omega arith

-- registers that take in fewer cycles launch no later and change no sooner
module _ (m : Board) (more : ℕ → ℕ → Bool) (sub : (r n : ℕ) → m.takes_at r n ≡ true → more r n ≡ true) where
  launch_less : (r n : ℕ) → launch_cycle m r n ≤ launch_cycle (with_schedule m more) r n
  unfolding launch_cycle
  launch_less r zero = omega arith
  launch_less r (suc n) = elim (cases_Bool (m.takes_at r n)) [
    | inl e ↦ rw (
      cond-true _ (suc n) (launch_cycle m r n) e,
      cond-true _ (suc n) (launch_cycle (with_schedule m more) r n) (sub r n e),
    ) (omega arith)
    | inr e ↦ elim (cases_Bool (more r n)) [
      | inl f ↦ rw (
        cond-false _ (suc n) (launch_cycle m r n) e,
        cond-true _ (suc n) (launch_cycle (with_schedule m more) r n) f,
      ) (omega (arith, launch_by_now m r n))
      | inr f ↦ rw (
        cond-false _ (suc n) (launch_cycle m r n) e,
        cond-false _ (suc n) (launch_cycle (with_schedule m more) r n) f,
      ) (launch_less r n)
    ]
  ]

  until_cycle_more : (r n : ℕ) → until_cycle (with_schedule m more) r n ≤ until_cycle m r n
  until_cycle_more r n = elim (cases_Bool (m.takes_at r n)) [
    | inl e ↦ omega (arith, until_next m r n e, until_next (with_schedule m more) r n (sub r n e))
    | inr e ↦ elim (cases_Bool (more r n)) [
      | inl f ↦ omega (arith, until_after m r n e, until_next (with_schedule m more) r n f)
      | inr f ↦ omega (arith, until_after m r n e, until_after (with_schedule m more) r n f)
    ]
  ]

  pub since_less : (n i : ℕ) → since m n i ≤ since (with_schedule m more) n i
  since_less n i = elim (cases_lt i m.registers) [
    | inl q ↦
        let t = times_more (launch_cycle m i n) (launch_cycle (with_schedule m more) i n) m.period (launch_less i n) in
        omega (arith, since_register m n i q, since_register (with_schedule m more) n i q)
    | inr q ↦ omega (arith, since_input m n i q, since_input (with_schedule m more) n i q)
  ]

  pub until_more : (n i : ℕ) → still_until (with_schedule m more) n i ≤ still_until m n i
  until_more n i = elim (cases_lt i m.registers) [
    | inl q ↦
        let t = times_more (until_cycle (with_schedule m more) i n) (until_cycle m i n) m.period
        (until_cycle_more i n) in
        omega (arith, until_register m n i q, until_register (with_schedule m more) n i q)
    | inr q ↦ omega (arith, until_input m n i q, until_input (with_schedule m more) n i q)
  ]

pub fewer_takes : FewerTakes
fewer_takes m more sub passed =
    let f = passed.formed in
    record {
      formed = record {
        sources = f.sources;
        sound = f.sound;
        taken = f.taken;
        clocked = f.clocked;
        inputs_ordered = f.inputs_ordered;
        output_ordered = f.output_ordered;
      };
      setup_kept = λ n r h e.
          omega (
            arith,
            passed.setup_kept n r h (sub r n e),
            later m.circuit f.sound 0 0 (since m n) (since (with_schedule m more) n)
                (λ i _. omega (arith, since_less m more sub n i)) (m.takes r) (f.taken r h),
          );
      hold_kept = λ n r h e.
          omega (
            arith,
            passed.hold_kept n r h (sub r n e),
            sooner m.circuit f.sound 0 0 (still_until (with_schedule m more) n) (still_until m n)
                (λ i _. omega (arith, until_more m more sub n i)) (m.takes r) (f.taken r h),
          );
    }

pub counted_to_first : CountedToFirst
counted_to_first m passed = fewer_takes m (λ r n. true) (λ r n e. refl) passed

-- one schedule gives one list of launch cycles
pub same_schedule : (m o : Board) (r : ℕ) → ((n : ℕ) → m.takes_at r n ≡ o.takes_at r n) → (n : ℕ) →
    launch_cycle m r n ≡ launch_cycle o r n
unfolding launch_cycle
same_schedule m o r same zero = refl
same_schedule m o r same (suc n) = rw (same n, same_schedule m o r same n)

-- bounds within the old ones, and a longer period
module _ (new old : Board) (v : Within new old) where
  longer : (n : ℕ) → n * new.period ≡ n * old.period + n * (new.period - old.period)
  longer n =
      let e : new.period ≡ old.period + (new.period - old.period) = omega (arith, v.period_within) in
      ap (λ (x : ℕ). n * x) e ∙ mul-add n old.period (new.period - old.period)

  pub narrower_since : (n i : ℕ) → i < old.circuit.inputs →
      since new n i ≤ n * (new.period - old.period) + since old n i
  narrower_since n i h = elim (cases_lt i old.registers) [
    | inl r ↦
        let r' : i < new.registers = omega (arith, v.registers_same) in
        let t = times_more (launch_cycle old i n) n (new.period - old.period) (launch_by_now old i n) in
        rw (
          since_register new n i r',
          since_register old n i r,
          same_schedule new old i (λ x. v.schedule_same i x r) n,
          longer (launch_cycle old i n),
        )
        (omega (arith, v.clock_within i r, v.output_within))
    | inr r ↦
        let r' : new.registers ≤ i = omega (arith, v.registers_same) in
        rw (since_input new n i r', since_input old n i r, longer n) (omega (arith, v.inputs_within i r h))
  ]

  pub narrower_until : (n i : ℕ) → i < old.circuit.inputs →
      suc n * (new.period - old.period) + still_until old n i ≤ still_until new n i
  narrower_until n i h = elim (cases_lt i old.registers) [
    | inl r ↦
        let r' : i < new.registers = omega (arith, v.registers_same) in
        let t = times_more (suc n) (until_cycle old i n) (new.period - old.period) (until_past_now old i n) in
        rw (until_register new n i r', until_register old n i r, v.schedule_same i n r, longer (until_cycle old i n))
        (omega (arith, v.clock_within i r, v.output_within))
    | inr r ↦
        let r' : new.registers ≤ i = omega (arith, v.registers_same) in
        rw (until_input new n i r', until_input old n i r, longer (suc n)) (omega (arith, v.inputs_within i r h))
  ]

pub narrower : Narrower
narrower new old v passed = record {
  formed = v.formed;
  setup_kept = λ n r h e.
      let q : r < old.registers = omega (arith, v.registers_same) in
      let old_kept = passed.setup_kept n r q (sym (v.schedule_same r n q) ∙ e) in
      let k = passed.formed.taken r q in
      rw (v.takes_same r q)
      (omega (
        arith,
        v.clock_within r q,
        v.setup_within,
        longer new old v (suc n),
        times_more n (suc n) (new.period - old.period) (omega arith),
        shifts Late old.circuit (since old n) (n * (new.period - old.period)) passed.formed.sound (old.takes r) k,
        monotone Late new.circuit old.circuit (since new n)
            (λ i. n * (new.period - old.period) + since old n i) v.formed.sound passed.formed.sound v.circuit_within
            (narrower_since new old v n) (old.takes r) k,
      ));
  hold_kept = λ n r h e.
      let q : r < old.registers = omega (arith, v.registers_same) in
      let old_kept = passed.hold_kept n r q (sym (v.schedule_same r n q) ∙ e) in
      let k = passed.formed.taken r q in
      rw (v.takes_same r q)
      (omega (
        arith,
        v.clock_within r q,
        v.hold_within,
        longer new old v (suc n),
        shifts Early old.circuit (still_until old n) (suc n * (new.period - old.period)) passed.formed.sound
            (old.takes r) k,
        monotone Early new.circuit old.circuit (still_until new n)
            (λ i. suc n *
            (new.period - old.period) + still_until old n i) v.formed.sound passed.formed.sound v.circuit_within
            (narrower_until new old v n) (old.takes r) k,
      ));
}

pub slower : Slower
slower m p longer passed =
    let f = passed.formed in
    narrower (with_period m p) m
    (record {
      registers_same = refl;
      circuit_within = within_self m.circuit;
      formed = record {
        sources = f.sources;
        sound = f.sound;
        taken = f.taken;
        clocked = f.clocked;
        inputs_ordered = f.inputs_ordered;
        output_ordered = f.output_ordered;
      };
      takes_same = λ r h. refl;
      schedule_same = λ r n h. refl;
      clock_within = λ r h. (omega arith, omega arith);
      inputs_within = λ i h q. (omega arith, omega arith);
      output_within = (omega arith, omega arith);
      setup_within = omega arith;
      hold_within = omega arith;
      period_within = longer;
    })
    passed
