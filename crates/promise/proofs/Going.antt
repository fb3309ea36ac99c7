-- A passed machine can go.
use Rattle.std.proofs.Common.{◌≡◌, ℕ, zero, suc, ◌+◌, ◌-◌, ◌*◌, ◌<◌, ◌≤◌, Bool, cond, leb, sym, refl, ap, ◌∙◌, inl, inr, mul-le-mul_left, arith}
use Rattle.std.proofs.lemmas.Bool.{cases_eq, le-leb, lt-leb}
use Rattle.circuit.specs.Gate.{output}
use Rattle.circuit.specs.Circuit.{Circuit, signals, Sound, along}
use Rattle.circuit.proofs.Signals.{all_in, all_at, each_signal}
use Rattle.drawing.specs.Drawing.{held}
use Rattle.arrival.specs.declared.edge.Edge.TheVariants.{Late, Early}
use Rattle.arrival.specs.Window.{Wave, Moves}
use Rattle.arrival.proofs.ArrivalLaws.{arrival_in, arrival_at}
use Rattle.promise.specs.Machine.{Machine, Passed, Formed, drawing, since, still_for, last_change, first_change}
use Rattle.promise.specs.Run.{Clocks}
use Rattle.promise.specs.Promise.{Delays, MovesBy, CanGo}
use Rattle.promise.proofs.Keeping.{carries}

-- no signal changes first after it changed last
pub ordered : (m : Machine) → Formed m → (k : ℕ) → k < signals m.circuit → first_change m k ≤ last_change m k
ordered m formed = each_signal m.circuit formed.sound (λ k. first_change m k ≤ last_change m k)
    (λ i h.
    let r : i < m.registers = omega (arith, formed.sources) in
    omega (arith, arrival_in Early m.circuit formed.sound (still_for m) i h, arrival_in Late m.circuit formed.sound (since m) i h, formed.clocked i r, formed.output_ordered))
    (λ k h p q.
    omega (arith, arrival_at Early m.circuit formed.sound (still_for m) k h, arrival_at Late m.circuit formed.sound (since m) k h, formed.sound.ranges k h))

-- clocks of one register come in order: its latest clock is before the next cycle's earliest
pub in_order : (m : Machine) → Passed m → (r : ℕ) → r < m.registers → m.late r < m.period + m.early r
in_order m passed r h =
    omega (arith, ordered m passed.formed (m.takes r) (passed.formed.taken r h), passed.setup_kept r h, passed.hold_kept r h)

-- the last cycle, up to b, whose clock came d before t or earlier
cycle_at : (c : ℕ → ℕ) (d b t : ℕ) → ℕ
cycle_at c d zero t = 0
cycle_at c d (suc b) t = cond (leb (c (suc b) + d) t) (suc b) (cycle_at c d b t)

cycle_is : (c : ℕ → ℕ) (d b t n : ℕ) → n ≤ b → c n + d ≤ t → ((j : ℕ) → n < j → t < c j + d) → cycle_at c d b t ≡ n
unfolding cycle_at
cycle_is c d zero t n le now later = omega arith
cycle_is c d (suc b) t n le now later =
    elim (cases_eq n (suc b)) [
      | inl same ↦ let h : c (suc b) + d ≤ t = rw same at now in rw (le-leb _ _ h) (sym same)
      | inr other ↦
          let lt : n < suc b = omega arith in
          rw (lt-leb _ _ (later (suc b) lt)) (cycle_is c d b t n (omega arith) now later)
    ]

-- the waves of a circuit whose delays are given, from those of its sources
waves : Circuit → (one two : ℕ → ℕ → ℕ) → (ℕ → Wave) → (ℕ → Wave)
waves c one two s = along (λ n g a b t. output g.table (a (t - one (n - c.inputs) t)) (b (t - two (n - c.inputs) t))) c.inputs c.gates s

waves_in : (c : Circuit) → Sound c → (one two : ℕ → ℕ → ℕ) (s : ℕ → Wave) (i t : ℕ) → i < c.inputs → waves c one two s i t ≡ s i t
unfolding waves
waves_in c sound one two s i t h = ap (λ (x : Wave). x t) (all_in (λ n g a b t. output g.table (a (t - one (n - c.inputs) t)) (b (t - two (n - c.inputs) t))) c sound s i h)

waves_by : (c : Circuit) → Sound c → (one two : ℕ → ℕ → ℕ) (s : ℕ → Wave) → MovesBy c one two (waves c one two s)
unfolding waves
waves_by c sound one two s k t h _ _ =
    let n : c.inputs + k - c.inputs ≡ k = omega arith in
    rw n at (ap (λ (x : Wave). x t) (all_at (λ n g a b t. output g.table (a (t - one (n - c.inputs) t)) (b (t - two (n - c.inputs) t))) c sound s k h))

-- delays within their bounds are some that a gate may follow by
by_moves : (c : Circuit) (one two : ℕ → ℕ → ℕ) (w : ℕ → Wave) → Delays c one two → MovesBy c one two w → Moves c w
by_moves c one two w within by k t h a b = record {
  delay_one = one k t;
  delay_two = two k t;
  one_least = (within.one_within k t h).0;
  one_greatest = (within.one_within k t h).1;
  two_least = (within.two_within k t h).0;
  two_greatest = (within.two_within k t h).1;
  is = by k t h a b;
}

waves_move : (c : Circuit) → Sound c → (one two : ℕ → ℕ → ℕ) → Delays c one two → (s : ℕ → Wave) → Moves c (waves c one two s)
waves_move c sound one two within s = by_moves c one two (waves c one two s) within (waves_by c sound one two s)

module _ (m : Machine) (start : ℕ → Bool) (one two : ℕ → ℕ → ℕ) (clock : ℕ → ℕ → ℕ) (passed : Passed m) (within : Delays m.circuit one two) (clocks : Clocks m clock) where
  -- a register shows the drawing's bit of the last cycle whose clock came the latest output time ago
  shown : ℕ → Wave
  shown r t = drawing m start (cycle_at (λ n. clock n r) m.output_late t t) r

  wave : ℕ → Wave
  wave = waves m.circuit one two shown

  later_clocks : (n r j : ℕ) → r < m.registers → suc n < j → clock (suc n) r ≤ clock j r
  later_clocks n r j h lt =
      let i = j - suc (suc n) in
      let e : j ≡ suc (suc n) + (j - suc (suc n)) = omega arith in
      let late = (clocks (suc n) r h).1 in
      let early = rw e at (clocks j r h).0 in
      let o = in_order m passed r h in
      rw e (omega arith)

  shows : (n r t : ℕ) → r < m.registers → clock n r + m.output_late ≤ t → t < clock (suc n) r + m.output_early → wave r t ≡ drawing m start n r
  unfolding shown wave
  shows n r t h a z =
      let i : r < m.circuit.inputs = omega (arith, passed.formed.sources) in
      let o = in_order m passed r h in
      let u = passed.formed.clocked r h in
      let p : 1 ≤ m.period = omega arith in
      let le : n * 1 ≤ n * m.period = mul-le-mul_left n p in
      waves_in m.circuit passed.formed.sound one two shown r t i
      ∙ ap (λ x. drawing m start x r)
      (cycle_is (λ n. clock n r) m.output_late t t n (omega (arith, clocks n r h)) a
      (λ j lt. elim (cases_eq j (suc n)) [
        | inl same ↦ rw same (omega (arith, passed.formed.output_ordered))
        | inr other ↦ omega (arith, passed.formed.output_ordered, later_clocks n r j h (omega arith))
      ]))

  takes : (n r : ℕ) (b : Bool) → r < m.registers →
      ((t : ℕ) → clock (suc n) r ≤ t + m.setup → t ≤ clock (suc n) r + m.hold → wave (m.takes r) t ≡ b) → drawing m start (suc n) r ≡ b
  unfolding held wave
  takes n r b h all =
      let at_clock = clocks (suc n) r h in
      sym (carries m wave passed.formed.sound (waves_move m.circuit passed.formed.sound one two within shown) n (drawing m start n)
      (λ i t q a z.
      let s : i < m.registers = omega (arith, passed.formed.sources) in
      shows n i t s (omega (arith, clocks n i s)) (omega (arith, clocks (suc n) i s)))
      (m.takes r) (clock (suc n) r) (passed.formed.taken r h) (omega (arith, passed.setup_kept r h)) (omega (arith, passed.hold_kept r h)))
      ∙ all (clock (suc n) r) (omega arith) (omega arith)

pub can_go : CanGo
unfolding held wave
can_go m start one two clock passed within clocks = (
  drawing m start,
  wave m start one two clock passed within clocks,
  record {
    clocks = clocks;
    gates = waves_move m.circuit passed.formed.sound one two within (shown m start one two clock passed within clocks);
    starts = λ r h. refl;
    shows = shows m start one two clock passed within clocks;
    takes = takes m start one two clock passed within clocks;
  },
  waves_by m.circuit passed.formed.sound one two (shown m start one two clock passed within clocks),
)
