-- A passed board can go.
use Rattle.std.proofs.Common.{◌≡◌, ℕ, zero, suc, ◌+◌, ◌-◌, ◌*◌, ◌<◌, ◌≤◌, Bool, true, cond, leb, nat_lt, sym, refl, ap}
use Rattle.std.proofs.Common.{◌∙◌, inl, inr, mul-le-mul_left, arith}
use Rattle.std.proofs.lemmas.Bool.{cases_eq, cases_lt, cases_Bool, leb-true, leb-false, lt-ltb, le-ltb, cond-true}
use Rattle.std.proofs.lemmas.Bool.{cond-false}
use Rattle.circuit.specs.Gate.{output}
use Rattle.circuit.specs.Circuit.{Circuit, signals, Sound, along}
use Rattle.circuit.proofs.Signals.{all_in, all_at, each_signal}
use Rattle.drawing.specs.Drawing.{ideal}
use Rattle.arrival.specs.declared.edge.Edge.TheVariants.{Late, Early}
use Rattle.arrival.specs.Window.{Wave, Moves}
use Rattle.arrival.proofs.ArrivalLaws.{arrival_in, arrival_at}
use Rattle.promise.specs.Promise.{Delays, MovesBy}
use Rattle.board.specs.Board.{Board, Passed, Formed, reference, launch_cycle, until_cycle, since, still_until}
use Rattle.board.specs.Board.{last_change, first_change}
use Rattle.board.specs.Run.{Clocks, SourcesBehave, Trace}
use Rattle.board.specs.Promise.{InOrder, CanGo}
use Rattle.board.proofs.Keeping.{Show, Shown, since_register, since_input, until_register, until_input, launch_anew}
use Rattle.board.proofs.Keeping.{launch_before, reference_starts, reference_takes, reference_keeps, source_shows}
use Rattle.board.proofs.Keeping.{signal_shows}
use Rattle.board.proofs.Comparing.{launch_by_now}

-- with the period 0 no source has a window
pub no_period : (m : Board) → Formed m → m.period ≡ 0 → (n i : ℕ) → i < m.circuit.inputs →
    still_until m n i ≤ since m n i
no_period m formed none n i h = elim (cases_lt i m.registers) [
  | inl r ↦
      let a = ap (λ (p : ℕ). until_cycle m i n * p) none in
      omega (arith, since_register m n i r, until_register m n i r, formed.clocked i r, formed.output_ordered)
  | inr r ↦
      let a = ap (λ (p : ℕ). suc n * p) none in
      omega (arith, since_input m n i r, until_input m n i r, formed.inputs_ordered i r h)
]

-- and no signal has one
ordered : (m : Board) → Formed m → m.period ≡ 0 → (n k : ℕ) → k < signals m.circuit →
    first_change m n k ≤ last_change m n k
ordered m formed none n = each_signal m.circuit formed.sound (λ k. first_change m n k ≤ last_change m n k)
    (λ i h. rw (
      arrival_in Early m.circuit formed.sound (still_until m n) i h,
      arrival_in Late m.circuit formed.sound (since m n) i h,
    ) (no_period m formed none n i h))
    (λ k h p q.
    omega (
      arith,
      arrival_at Early m.circuit formed.sound (still_until m n) k h,
      arrival_at Late m.circuit formed.sound (since m n) k h,
      formed.sound.ranges k h,
    ))

-- where a register takes the period is not 0
pub positive : (m : Board) → Passed m → (r n : ℕ) → r < m.registers → m.takes_at r n ≡ true → 1 ≤ m.period
positive m passed r n h e = elim (cases_eq m.period 0) [
  | inr some ↦ omega arith
  | inl none ↦
      let a = ap (λ (p : ℕ). suc n * p) none in
      absurd (omega (
        arith,
        passed.setup_kept n r h e,
        passed.hold_kept n r h e,
        ordered m passed.formed none n (m.takes r) (passed.formed.taken r h),
        passed.formed.clocked r h,
      ))
]

-- a launch cycle's number is at most its moment, as cycles take time where registers take
launch_soon : (m : Board) → ((r n : ℕ) → r < m.registers → m.takes_at r n ≡ true → 1 ≤ m.period) → (r n : ℕ) →
    r < m.registers → launch_cycle m r n ≤ launch_cycle m r n * m.period
launch_soon m pos r zero h = let z = launch_by_now m r 0 in omega arith
launch_soon m pos r (suc n) h = elim (cases_Bool (m.takes_at r n)) [
  | inl e ↦ let p = pos r n h e in let q = mul-le-mul_left (launch_cycle m r (suc n)) p in omega arith
  | inr e ↦ rw (launch_before m r n e) (launch_soon m pos r n h)
]

-- the last cycle, up to b, whose clock came d moments before t or earlier
cycle_at : (c : ℕ → ℕ) (d b t : ℕ) → ℕ
cycle_at c d zero t = 0
cycle_at c d (suc b) t = cond (leb (c (suc b) + d) t) (suc b) (cycle_at c d b t)

cycle_between : (c : ℕ → ℕ) → ((j : ℕ) → c j ≤ c (suc j)) → (d b t a n : ℕ) → a ≤ b → a ≤ n → c a + d ≤ t →
    t < c (suc n) + d →
    (a ≤ cycle_at c d b t) × (cycle_at c d b t ≤ n)
unfolding cycle_at
cycle_between c order d zero t a n le launched now next = (omega arith, omega arith)
cycle_between c order d (suc b) t a n le launched now next = elim (cases_Bool (leb (c (suc b) + d) t)) [
  | inl e ↦
      let came = leb-true _ _ e in
      rw e (elim (cases_lt n (suc b)) [
        | inl past ↦ absurd (omega (arith, grows (suc b - suc n) (suc n) (suc b) (omega arith)))
        | inr within ↦ (le, within)
      ])
  | inr e ↦
      let not_yet = leb-false _ _ e in
      rw e (elim (cases_eq a (suc b)) [
        | inl same ↦ absurd (let now' = rw same at now in omega arith)
        | inr other ↦ cycle_between c order d b t a n (omega arith) launched now next
      ])
]
  where
    grows : (z j k : ℕ) → k ≡ j + z → c j ≤ c k
    grows zero j k e = let e' : k ≡ j = omega arith in rw e' (omega arith)
    grows (suc z) j k e =
        let e' : k ≡ suc (j + z) = omega arith in rw e' (omega (arith, grows z j (j + z) refl, order (j + z)))

-- the waves of a circuit whose delays are given, from those of its sources
pub waves : Circuit → (one two : ℕ → ℕ → ℕ) → (ℕ → Wave) → (ℕ → Wave)
waves c one two s =
    along (λ n g a b t. output g.table (a (t - one (n - c.inputs) t)) (b (t - two (n - c.inputs) t))) c.inputs c.gates s

waves_in : (c : Circuit) → Sound c → (one two : ℕ → ℕ → ℕ) (s : ℕ → Wave) (i t : ℕ) → i < c.inputs →
    waves c one two s i t ≡ s i t
unfolding waves
waves_in c sound one two s i t h = ap (λ (x : Wave). x t)
    (all_in (λ n g a b t. output g.table (a (t - one (n - c.inputs) t)) (b (t - two (n - c.inputs) t))) c sound s i h)

waves_by : (c : Circuit) → Sound c → (one two : ℕ → ℕ → ℕ) (s : ℕ → Wave) → MovesBy c one two (waves c one two s)
unfolding waves
waves_by c sound one two s k t h _ _ =
    let n : c.inputs + k - c.inputs ≡ k = omega arith in
    rw n at (ap (λ (x : Wave). x t)
    (all_at (λ n g a b t. output g.table (a (t - one (n - c.inputs) t))
    (b (t - two (n - c.inputs) t))) c sound s k h))

by_moves : (c : Circuit) (one two : ℕ → ℕ → ℕ) (w : ℕ → Wave) → Delays c one two → MovesBy c one two w → Moves c w
by_moves c one two w within by k t h a b = record {
  delay_one = one k t;
  delay_two = two k t;
  one_least = (within.one_within k t h).0;
  one_greatest = (within.one_within k t h).1;
  two_least = (within.two_within k t h).0;
  two_greatest = (within.two_within k t h).1;
  is = by k t h a b;
}

module _ (m : Board) (start : ℕ → Bool) (outside : ℕ → ℕ → Bool) (clock : ℕ → ℕ → ℕ) (f : Formed m)
    (pos : (r n : ℕ) → r < m.registers → m.takes_at r n ≡ true → 1 ≤ m.period) (clocks : Clocks m clock)
    (order : InOrder m clock) where
  -- a register shows the reference's bit of the last cycle whose clock came the latest output time ago, an input the
  -- bit of the last cycle whose latest time is over
  pub sources : ℕ → Wave
  sources i t = cond (nat_lt i m.registers)
      (reference m start outside (cycle_at (λ n. clock n i) m.output_late t t) i)
      (outside (cycle_at (λ n. n * m.period) (m.input_late i) t t) i)

  -- the reference's bit stays as it is from a register's launch on
  from_launch : (r n j : ℕ) → r < m.registers → launch_cycle m r n ≤ j → j ≤ n →
      reference m start outside n r ≡ reference m start outside j r
  from_launch r zero j h a z = let e : j ≡ 0 = omega arith in rw e
  from_launch r (suc n) j h a z = elim (cases_eq j (suc n)) [
    | inl e ↦ rw e
    | inr e ↦ elim (cases_Bool (m.takes_at r n)) [
      | inl f ↦ absurd (omega (arith, launch_anew m r n f))
      | inr f ↦ reference_keeps m start outside n r h f
          ∙ from_launch r n j h (rw (launch_before m r n f) at a) (omega arith)
    ]
  ]

  module _ (w : ℕ → Wave) (is : (i t : ℕ) → i < m.circuit.inputs → w i t ≡ sources i t) where
    shows : (n r t : ℕ) → r < m.registers → clock (launch_cycle m r n) r + m.output_late ≤ t →
        t < clock (suc n) r + m.output_early → w r t ≡ reference m start outside n r
    unfolding sources
    shows n r t h a z =
        let soon = launch_soon m pos r n h in
        let came = (clocks (launch_cycle m r n) r h).0 in
        let between = cycle_between (λ n. clock n r) (λ j. order j r h) m.output_late t t (launch_cycle m r n) n
        (omega arith) (launch_by_now m r n) a (omega (arith, f.output_ordered)) in
        is r t (omega (arith, f.sources)) ∙ cond-true _ _ _ (lt-ltb r m.registers h)
        ∙ sym (from_launch r n (cycle_at (λ n. clock n r) m.output_late t t) h between.0 between.1)

    comes : (n i t : ℕ) → m.registers ≤ i → i < m.circuit.inputs → n * m.period + m.input_late i ≤ t →
        t < suc n * m.period + m.input_early i → w i t ≡ outside n i
    unfolding sources
    comes n i t h q a z =
        let o = f.inputs_ordered i h q in
        let le : n ≤ n * m.period = soon in
        let between = cycle_between (λ n. n * m.period) (λ j. omega arith) (m.input_late i) t t n n (omega arith)
        (omega arith) a (omega arith) in
        let e : cycle_at (λ n. n * m.period) (m.input_late i) t t ≡ n = omega arith in
        is i t q ∙ cond-false _ _ _ (le-ltb i m.registers h) ∙ ap (λ (x : ℕ). outside x i) e
      where
        soon : n ≤ n * m.period
        soon = elim (cases_eq m.period 0) [
          | inl none ↦
              let x = ap (λ (p : ℕ). suc n * p) none in
              let y = ap (λ (p : ℕ). n * p) none in
              absurd (omega (arith, f.inputs_ordered i h q))
          | inr some ↦ let one : 1 ≤ m.period = omega arith in let y = mul-le-mul_left n one in omega arith
        ]

    abbrev pub trace : Trace
    trace = record { start = start; outside = outside; clock = clock; holds = reference m start outside; waves = w }

    shown : Shown m trace
    shown = record {
      clocks = clocks;
      comes = comes;
      shows = shows;
      keeps = λ n r h e. reference_keeps m start outside n r h e;
    }

    -- such waves are those of a run, if what registers take is the reference's bit at their clocks
    pub behave : ((n r : ℕ) → r < m.registers → m.takes_at r n ≡ true →
        Show m w n (reference m start outside n) →
        w (m.takes r) (clock (suc n) r) ≡ ideal m.circuit (reference m start outside n) (m.takes r)) →
        SourcesBehave m trace
    behave right = record {
      clocks = clocks;
      starts = λ r h. reference_starts m start outside r h;
      comes = comes;
      shows = shows;
      takes = λ n r b h e all.
          reference_takes m start outside n r h e
          ∙ sym (right n r h e (source_shows m trace shown n (λ r q. refl)))
          ∙ all (clock (suc n) r) (omega arith) (omega arith);
      keeps = λ n r h e. reference_keeps m start outside n r h e;
    }

pub can_go : CanGo
can_go m start outside clock one two passed within clocks order =
    let c = m.circuit in
    let f = passed.formed in
    let pos = positive m passed in
    let s = sources m start outside clock f pos clocks order in
    let w = waves c one two s in
    let by = waves_by c f.sound one two s in
    let moves = by_moves c one two w within by in (
      reference m start outside,
      w,
      record {
        sources = behave m start outside clock f pos clocks order w (λ i t h. waves_in c f.sound one two s i t h)
            (λ n r h e shown.
            let at_clock = clocks (suc n) r h in
            signal_shows m w f.sound moves n (reference m start outside n) shown (m.takes r) (clock (suc n) r)
            (f.taken r h)
            (omega (arith, passed.setup_kept n r h e)) (omega (arith, passed.hold_kept n r h e)));
        gates = moves;
      },
      by,
    )
