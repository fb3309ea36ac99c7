-- Times by transition over sources and bounds within others.
use Rattle.std.proofs.Common.{◌≡◌, ℕ, suc, ◌+◌, ◌-◌, ◌<◌, ◌≤◌, Bool, true, false, cond, min, max, leb, length, sym}
use Rattle.std.proofs.Common.{refl, ◌∙◌, inl, inr, arith, zero, ◌*◌, ap}
use Rattle.std.proofs.Math.Nat.{mul-add}
use Rattle.std.proofs.lemmas.Bool.{cases_lt, cases_Bool, cond-true, cond-false, le-leb, lt-leb}
use Rattle.circuit.proofs.Signals.{each_signal}
use Rattle.circuit.specs.Circuit.{Circuit, gate, signals, Sound}
use Rattle.circuit.specs.declared.gate.Gate.{Gate}
use Rattle.board.proofs.Comparing.{times_more, since_less, until_more, since_in, until_in, narrower_since}
use Rattle.board.proofs.Comparing.{narrower_until, within_self}
use Rattle.board.proofs.Cycles.{repeats_at, launch_on, launch_later, until_on, takes_later, since_first, still_first}
use Rattle.board.proofs.Going.{sources}
use Rattle.board.proofs.Keeping.{launch_anew, until_next}
use Rattle.board.specs.Board.{Board, since, still_until, Formed, launch_cycle, until_cycle}
use Rattle.board.specs.Promise.{with_schedule, with_period}
use Rattle.rise_fall.specs.Cycles.{RiseFallKeptIn, RiseFallTwoCycles, RiseFallOneCycle, RiseFallFewerTakes}
use Rattle.rise_fall.specs.Gate.{Bounds, GateBounds}
use Rattle.rise_fall.specs.Paths.{side}
use Rattle.rise_fall.specs.Promise.{sources_in, stable_in, SetupKept, HoldKept}
use Rattle.rise_fall.specs.Times.{longest, Stable, delay_late, from_by, until_by, delayed, has_arc, gate_stable}
use Rattle.rise_fall.specs.Times.{stable}
use Rattle.rise_fall.specs.Within.{BoundsWithin, GateBoundsWithin, RiseFallWithin, SetupNarrower, HoldNarrower}
use Rattle.rise_fall.specs.Within.{RiseFallNarrower, TimesSlower, SetupSlower, RiseFallSlower}
use Rattle.rise_fall.proofs.Keeping.{stable_source, stable_gate}
use Rattle.rise_fall.proofs.Merging.{merged_from, merged_until}
use Rattle.rise_fall.proofs.Times.{late_at, late_below, late_some}

-- S is stable no later than T and for no less, where S is moved by a and T by b at the beginning, by x and y at the
-- end, which is not moved less
pub record Inside (a b x y : ℕ) (S T : Stable) : Type 0 where
  pub begins : (v : Bool) → a + S.from v ≤ b + T.from v
  pub ends : (v : Bool) → y + T.until v ≤ x + S.until v

module _ (a b x y : ℕ) (order : b + x ≤ y + a) where
  from_inside : (d e : Bounds) (S T : Stable) → BoundsWithin d e → Inside a b x y S T → (v : Bool) →
      a + from_by d S v ≤ b + from_by e T v
  unfolding from_by delay_late
  from_inside d e S T within i v =
      let gv = within.greatest_within v in
      let gt = within.greatest_within true in
      let gf = within.greatest_within false in
      let l = i.begins v in
      let u = i.ends v in
      elim (cases_lt (T.until v) (T.from v + longest e)) [
        | inl q ↦
            let t = cond-false (leb (T.from v + longest e) (T.until v)) (min (longest e) (max 1 (e.greatest v)))
            (longest e) (lt-leb _ _ q) in
            elim (cases_Bool (leb (S.from v + longest d) (S.until v))) [
              | inl r ↦ omega (
                arith,
                cond-true (leb (S.from v + longest d) (S.until v))
                    (min (longest d) (max 1 (d.greatest v))) (longest d) r,
              )
              | inr r ↦ omega (
                arith,
                cond-false (leb (S.from v + longest d) (S.until v))
                    (min (longest d) (max 1 (d.greatest v))) (longest d) r,
              )
            ]
        | inr q ↦
            omega (
              arith,
              cond-true (leb (T.from v + longest e) (T.until v)) (min (longest e) (max 1 (e.greatest v))) (longest e)
                  (le-leb _ _ q),
              cond-true (leb (S.from v + longest d) (S.until v)) (min (longest d) (max 1 (d.greatest v))) (longest d)
                  (le-leb _ _ (omega arith)),
            )
      ]

  until_inside : (d e : Bounds) (S T : Stable) → BoundsWithin d e → Inside a b x y S T → (v : Bool) →
      y + until_by e T v ≤ x + until_by d S v
  unfolding until_by
  until_inside d e S T within i v = omega (arith, within.least_within true, within.least_within false, i.ends v)

  gate_inside : (g h : Gate) → g.table ≡ h.table → (d e : GateBounds) (S T X Y : Stable) → GateBoundsWithin d e →
      Inside a b x y S X → Inside a b x y T Y →
      Inside a b x y (gate_stable d g S T) (gate_stable e h X Y)
  gate_inside g h table d e S T X Y within sx ty = record {
    begins = merged_from g h table a b (delayed d.one S) (delayed d.two T) (delayed e.one X) (delayed e.two Y)
        (from_inside d.one e.one S X within.one_within sx) (from_inside d.two e.two T Y within.two_within ty);
    ends = merged_until h g (sym table) y x (delayed e.one X) (delayed e.two Y) (delayed d.one S) (delayed d.two T)
        (until_inside d.one e.one S X within.one_within sx) (until_inside d.two e.two T Y within.two_within ty);
  }

  -- every signal
  pub stable_inside : (new old : Circuit) → Sound new → Sound old → new.inputs ≡ old.inputs →
      length new.gates ≡ length old.gates →
      ((k : ℕ) → k < length old.gates → ((gate new k).one ≡ (gate old k).one) × ((gate new k).two ≡ (gate old k).two)
      × ((gate new k).table ≡ (gate old k).table)) →
      (d e : ℕ → GateBounds) → ((k : ℕ) → k < length old.gates → GateBoundsWithin (d k) (e k)) → (s u : ℕ → Stable) →
      ((i : ℕ) → i < old.inputs → Inside a b x y (s i) (u i)) →
      (k : ℕ) → k < signals old → Inside a b x y (stable new d s k) (stable old e u k)
  stable_inside new old sound_new sound_old inputs gates gate_same d e within s u sources =
      each_signal old sound_old (λ k. Inside a b x y (stable new d s k) (stable old e u k))
      (λ i h. let j : i < new.inputs = omega (arith, inputs) in
      rw (stable_source new d sound_new s i j, stable_source old e sound_old u i h) (sources i h))
      (λ k h p q.
      let g = gate_same k h in
      let j : old.inputs + k ≡ new.inputs + k = omega (arith, inputs) in
      let l : k < length new.gates = omega (arith, gates) in
      rw (ap (stable new d s) j ∙ stable_gate new d sound_new s k l, stable_gate old e sound_old u k h, g.0, g.1)
      (gate_inside (gate new k) (gate old k) g.2 (d k) (e k) _ _ _ _ (within k h) p q))

pub all_within_self : (d : GateBounds) → GateBoundsWithin d d
all_within_self d = record {
  one_within = record { least_within = λ b. omega arith; greatest_within = λ b. omega arith };
  two_within = record { least_within = λ b. omega arith; greatest_within = λ b. omega arith };
}

-- one board and its bounds, in other cycles or by another schedule
module _ (c : Circuit) (sound : Sound c) (d : ℕ → GateBounds) (a b x y : ℕ) (order : b + x ≤ y + a) (s u : ℕ → Stable)
    (sources : (i : ℕ) → i < c.inputs → Inside a b x y (s i) (u i)) where
  pub stable_moved : (k : ℕ) → k < signals c → Inside a b x y (stable c d s k) (stable c d u k)
  stable_moved = stable_inside a b x y order c c sound sound refl refl (λ k h. (refl, refl, refl)) d d
      (λ k h. all_within_self (d k)) s u sources

pub kept_as_in : (m : Board) (d : ℕ → GateBounds) (a b : ℕ) → Formed m →
    ((r : ℕ) → r < m.registers → m.takes_at r b ≡ true → m.takes_at r a ≡ true) →
    ((r : ℕ) → r < m.registers → a + launch_cycle m r b ≤ b + launch_cycle m r a) →
    ((r : ℕ) → r < m.registers → b + until_cycle m r a ≤ a + until_cycle m r b) → RiseFallKeptIn m d a →
    RiseFallKeptIn m d b
kept_as_in m d a b formed takers begins ending kept = record {
  setup_kept = λ r h e v.
      let i = inside (m.takes r) (formed.taken r h) in
      let p = suc_times a m.period in
      let q = suc_times b m.period in
      omega (arith, kept.setup_kept r h (takers r h e) v, i.begins v);
  hold_kept = λ r h e v.
      let i = inside (m.takes r) (formed.taken r h) in
      let p = suc_times a m.period in
      let q = suc_times b m.period in
      omega (arith, kept.hold_kept r h (takers r h e) v, i.ends v);
}
  where
    suc_times : (n p : ℕ) → suc n * p ≡ p + n * p
    suc_times n p = omega arith

    inside : (k : ℕ) → k < signals m.circuit →
        Inside (a * m.period) (b * m.period) (a * m.period) (b * m.period) (stable_in m d b k) (stable_in m d a k)
    inside = stable_moved m.circuit formed.sound d (a * m.period) (b * m.period) (a * m.period) (b * m.period)
        (omega arith) (sources_in m b)
        (sources_in m a)
        (λ i h. record { begins = λ v. since_in m a b begins i; ends = λ v. until_in m a b ending i })

-- S is stable no later than one of T and U, moved by x and y from a, and for no less than either
record Between (a x y : ℕ) (S T U : Stable) : Type 0 where
  begins : (v : Bool) → a + S.from v ≤ max (x + T.from v) (y + U.from v)
  first : (v : Bool) → x + T.until v ≤ a + S.until v
  second : (v : Bool) → y + U.until v ≤ a + S.until v

module _ (a x y : ℕ) where
  from_between : (d : Bounds) (S T U : Stable) → Between a x y S T U → (v : Bool) →
      a + from_by d S v ≤ max (x + from_by d T v) (y + from_by d U v)
  unfolding from_by delay_late
  from_between d S T U b v =
      let l = b.begins v in
      let f = b.first v in
      let s = b.second v in
      let own = min (longest d) (max 1 (d.greatest v)) in
      elim (cases_lt (S.until v) (S.from v + longest d)) [
        | inr long ↦ let e = cond-true (leb (S.from v + longest d) (S.until v)) own (longest d) (le-leb _ _ long) in
            omega (
              arith,
              at_least (leb (T.from v + longest d) (T.until v)) own (longest d) (omega arith),
              at_least (leb (U.from v + longest d) (U.until v)) own (longest d) (omega arith),
            )
        | inl short ↦
            let e = cond-false (leb (S.from v + longest d) (S.until v)) own (longest d) (lt-leb _ _ short) in
            elim (cases_lt (y + U.from v) (x + T.from v)) [
              | inl first ↦ omega (
                arith,
                cond-false (leb (T.from v + longest d) (T.until v)) own (longest d)
                    (lt-leb _ _ (omega arith)),
              )
              | inr second ↦ omega (
                arith,
                cond-false (leb (U.from v + longest d) (U.until v)) own (longest d)
                    (lt-leb _ _ (omega arith)),
              )
            ]
      ]
    where
      at_least : (t : Bool) (m n : ℕ) → m ≤ n → m ≤ cond t m n
      at_least true m n h = omega arith
      at_least false m n h = h

  stable_between : (c : Circuit) → Sound c → (d : ℕ → GateBounds) (s t u : ℕ → Stable) →
      ((i : ℕ) → i < c.inputs → Between a x y (s i) (t i) (u i)) →
      (k : ℕ) → k < signals c → Between a x y (stable c d s k) (stable c d t k) (stable c d u k)
  stable_between c sound d s t u sources =
      each_signal c sound (λ k. Between a x y (stable c d s k) (stable c d t k) (stable c d u k))
      (λ i h. rw (stable_source c d sound s i h, stable_source c d sound t i h, stable_source c d sound u i h)
      (sources i h))
      (λ k h p q. rw (stable_gate c d sound s k h, stable_gate c d sound t k h, stable_gate c d sound u k h)
      (gate_between (gate c k) (d k) _ _ _ _ _ _ p q))
    where
      gate_between : (g : Gate) (d : GateBounds) (S T U S' T' U' : Stable) → Between a x y S T U →
          Between a x y S' T' U' → Between a x y (gate_stable d g S S') (gate_stable d g T T') (gate_stable d g U U')
      gate_between g d S T U S' T' U' p q = record {
        begins = λ v. let l = late_some g d S S' v in begins_by g d S T U S' T' U' p q v l.0 l.1 l.2 l.3;
        first = merged_until g g refl x a (delayed d.one T) (delayed d.two T') (delayed d.one S) (delayed d.two S')
            (λ v. later d.one T S x v (p.first v)) (λ v. later d.two T' S' x v (q.first v));
        second = merged_until g g refl y a (delayed d.one U) (delayed d.two U') (delayed d.one S) (delayed d.two S')
            (λ v. later d.one U S y v (p.second v)) (λ v. later d.two U' S' y v (q.second v));
      }
        where
          later : (d : Bounds) (T S : Stable) (z : ℕ) (v : Bool) → z + T.until v ≤ a + S.until v →
              z + until_by d T v ≤ a + until_by d S v
          later d T S z v h = unfold until_by in omega arith

          begins_by : (g : Gate) (d : GateBounds) (S T U S' T' U' : Stable) → Between a x y S T U →
              Between a x y S' T' U' → (v : Bool) (second b : Bool) → has_arc (side second g) b v ≡ true →
              late_at g d S S' v second b ≡ (gate_stable d g S S').from v →
              a + (gate_stable d g S S').from v ≤ max (x + (gate_stable d g T T').from v)
              (y + (gate_stable d g U U').from v)
          begins_by g d S T U S' T' U' p q v true b r is =
              omega (
                arith,
                from_between d.two S' T' U' q b,
                late_below g d T T' v true b r,
                late_below g d U U' v true b r,
              )
          begins_by g d S T U S' T' U' p q v false b r is =
              omega (
                arith,
                from_between d.one S T U p b,
                late_below g d T T' v false b r,
                late_below g d U U' v false b r,
              )

pub two_cycles : RiseFallTwoCycles
two_cycles m d mark marked formed third fourth = record {
  formed = formed;
  setup_kept = λ n r h e b. (each n).setup_kept r h e b;
  hold_kept = λ n r h e b. (each n).hold_kept r h e b;
}
  where
    from_zero : (k : ℕ) → k < signals m.circuit →
        Between (4 * m.period) m.period 0 (stable_in m d 0 k) (stable_in m d 3 k) (stable_in m d 4 k)
    from_zero = stable_between (4 * m.period) m.period 0 m.circuit formed.sound d
        (sources_in m 0)
        (sources_in m 3)
        (sources_in m 4)
        (λ i h. record {
          begins = λ v. omega (arith, since_first m mark marked i);
          first = λ v. omega (arith, still_first m mark marked 3 i);
          second = λ v. omega (arith, still_first m mark marked 4 i);
        })

    zeroth : RiseFallKeptIn m d 0
    zeroth = record {
      setup_kept = λ r h e b.
          let f = from_zero (m.takes r) (formed.taken r h) in
          omega (
            arith,
            f.begins b,
            third.setup_kept r h (takes_later m mark marked r 3 e) b,
            fourth.setup_kept r h (takes_later m mark marked r 4 e) b,
          );
      hold_kept = λ r h e b.
          let f = from_zero (m.takes r) (formed.taken r h) in
          omega (arith, f.first b, third.hold_kept r h (takes_later m mark marked r 3 e) b);
    }

    back : (n : ℕ) → 1 ≤ n → RiseFallKeptIn m d (suc (suc n)) → RiseFallKeptIn m d n
    back n h = kept_as_in m d (suc (suc n)) n formed (λ r q e. repeats_at m mark marked r n h ∙ e)
        (λ r q. omega (arith, launch_on m mark marked r n h)) (λ r q. omega (arith, until_on m mark marked r n h))

    on : (n : ℕ) → 3 ≤ n → RiseFallKeptIn m d n → RiseFallKeptIn m d (suc (suc n))
    on n h = kept_as_in m d n (suc (suc n)) formed (λ r q e. sym (repeats_at m mark marked r n (omega arith)) ∙ e)
        (λ r q. omega (arith, launch_later m mark marked r n h))
        (λ r q. omega (arith, until_on m mark marked r n (omega arith)))

    each : (n : ℕ) → RiseFallKeptIn m d n
    each zero = zeroth
    each (suc zero) = back 1 (omega arith) third
    each (suc (suc zero)) = back 2 (omega arith) fourth
    each (suc (suc (suc zero))) = third
    each (suc (suc (suc (suc zero)))) = fourth
    each (suc (suc (suc (suc (suc n))))) = on (suc (suc (suc n))) (omega arith) (each (suc (suc (suc n))))

-- cycles in which all registers take are alike
pub one_cycle : RiseFallOneCycle
one_cycle m d always formed kept = record {
  formed = formed;
  setup_kept = λ n r h e. (each n).setup_kept r h e;
  hold_kept = λ n r h e. (each n).hold_kept r h e;
}
  where
    begins : (r n : ℕ) → launch_cycle m r n ≡ n
    begins r zero = unfold launch_cycle in refl
    begins r (suc n) = launch_anew m r n (always r n)

    each : (n : ℕ) → RiseFallKeptIn m d n
    each n = kept_as_in m d 0 n formed (λ r h e. always r 0) (λ r h. omega (arith, begins r n, begins r 0))
        (λ r h. omega (arith, until_next m r n (always r n), until_next m r 0 (always r 0))) kept

pub fewer_takes : RiseFallFewerTakes
fewer_takes m d more sub passed =
    let f = passed.formed in
    record {
      formed = record {
        sources = f.sources;
        sound = f.sound;
        taken = f.taken;
        clocked = f.clocked;
        inputs_ordered = f.inputs_ordered;
        output_ordered = f.output_ordered;
      };
      setup_kept = λ n r h e v. omega
          (arith, passed.setup_kept n r h (sub r n e) v, (inside n (m.takes r) (f.taken r h)).begins v);
      hold_kept =
          λ n r h e v. omega (arith, passed.hold_kept n r h (sub r n e) v, (inside n (m.takes r) (f.taken r h)).ends v);
    }
  where
    inside : (n k : ℕ) → k < signals m.circuit →
        Inside 0 0 0 0 (stable_in m d n k) (stable_in (with_schedule m more) d n k)
    inside n = stable_moved m.circuit passed.formed.sound d 0 0 0 0 (omega arith)
        (sources_in m n)
        (λ i. record {
          from = λ v. since (with_schedule m more) n i;
          until = λ v. still_until (with_schedule m more) n i;
        })
        (λ i h. record {
          begins = λ v. omega (arith, since_less m more sub n i);
          ends = λ v. omega (arith, until_more m more sub n i);
        })

-- narrower bounds and a longer period: a cycle's windows begin no later, counted from its beginning, and end no
-- sooner, counted from its end
module _ (new old : Board) (d e : ℕ → GateBounds) (v : RiseFallWithin new old d e) (formed : Formed old) where
  longer : (n : ℕ) → n * new.period ≡ n * old.period + n * (new.period - old.period)
  longer n =
      let f : new.period ≡ old.period + (new.period - old.period) = omega (arith, v.board_within.period_within) in
      ap (λ (x : ℕ). n * x) f ∙ mul-add n old.period (new.period - old.period)

  inside : (n k : ℕ) → k < signals old.circuit →
      Inside 0 (n * (new.period - old.period)) 0 (suc n * (new.period - old.period)) (stable_in new d n k)
      (stable_in old e n k)
  inside n = let w = v.board_within in
      stable_inside 0 (n * (new.period - old.period)) 0 (suc n * (new.period - old.period))
      (omega (arith, times_more n (suc n) (new.period - old.period) (omega arith)))
      new.circuit old.circuit w.formed.sound formed.sound
      w.circuit_within.inputs_same w.circuit_within.gates_same
      (λ k h. let g = w.circuit_within.gates_within k h in
      (g.one_same, g.two_same, v.tables_same k h)) d e v.bounds_within
      (sources_in new n)
      (sources_in old n)
      (λ i h. record {
        begins = λ b. omega (arith, narrower_since new old w n i h);
        ends = λ b. omega (arith, narrower_until new old w n i h);
      })

  setup_within : (n r : ℕ) → r < old.registers → SetupKept old (stable_in old e n) n r →
      SetupKept new (stable_in new d n) n r
  setup_within n r h kept b =
      let w = v.board_within in
      let old_kept = kept b in
      let i = (inside n (old.takes r) (formed.taken r h)).begins b in
      rw (w.takes_same r h) (omega (
        arith,
        w.clock_within r h,
        w.setup_within,
        longer (suc n),
        times_more n (suc n) (new.period - old.period) (omega arith),
      ))

  hold_within : (n r : ℕ) → r < old.registers → HoldKept old (stable_in old e n) n r →
      HoldKept new (stable_in new d n) n r
  hold_within n r h kept b =
      let w = v.board_within in
      let old_kept = kept b in
      let i = (inside n (old.takes r) (formed.taken r h)).ends b in
      rw (w.takes_same r h) (omega (arith, w.clock_within r h, w.hold_within, longer (suc n)))

pub setup_narrower : SetupNarrower
setup_narrower new old d e v formed n r h kept = setup_within new old d e v formed n r h kept

pub hold_narrower : HoldNarrower
hold_narrower new old d e v formed n r h kept = hold_within new old d e v formed n r h kept

pub narrower : RiseFallNarrower
narrower new old d e v passed =
    let w = v.board_within in
    let in_old = λ (r : ℕ) (h : r < new.registers). let q : r < old.registers = omega (arith, w.registers_same) in q in
    record {
      formed = w.formed;
      setup_kept = λ n r h t. setup_narrower new old d e v passed.formed n r (in_old r h)
          (passed.setup_kept n r (in_old r h) (sym (w.schedule_same r n (in_old r h)) ∙ t));
      hold_kept = λ n r h t. hold_narrower new old d e v passed.formed n r (in_old r h)
          (passed.hold_kept n r (in_old r h) (sym (w.schedule_same r n (in_old r h)) ∙ t));
    }

-- a longer period alone
slower_within : (m : Board) (d : ℕ → GateBounds) (p : ℕ) → Formed m → m.period ≤ p →
    RiseFallWithin (with_period m p) m d d
slower_within m d p f longer = record {
  board_within = record {
    registers_same = refl;
    circuit_within = within_self m.circuit;
    formed = record {
      sources = f.sources;
      sound = f.sound;
      taken = f.taken;
      clocked = f.clocked;
      inputs_ordered = f.inputs_ordered;
      output_ordered = f.output_ordered;
    };
    takes_same = λ r h. refl;
    schedule_same = λ r n h. refl;
    clock_within = λ r h. (omega arith, omega arith);
    inputs_within = λ i h q. (omega arith, omega arith);
    output_within = (omega arith, omega arith);
    setup_within = omega arith;
    hold_within = omega arith;
    period_within = longer;
  };
  tables_same = λ k h. refl;
  bounds_within = λ k h. all_within_self (d k);
}

pub times_slower : TimesSlower
times_slower m d p formed n k h b =
    let new = with_period m (m.period + p) in
    let i = inside new m d d (slower_within m d (m.period + p) formed (omega arith)) formed n k h in
    let e : m.period + p - m.period ≡ p = omega arith in
    let begins = rw e at (i.begins b) in
    let ends = rw e at (i.ends b) in
    (omega arith, omega arith)

pub setup_slower : SetupSlower
setup_slower m d p formed longer n r h kept =
    setup_narrower (with_period m p) m d d (slower_within m d p formed longer) formed n r h kept

pub slower : RiseFallSlower
slower m d p longer passed =
    narrower (with_period m p) m d d (slower_within m d p passed.formed longer) passed
