-- The told path has its signal's time, and is the first that has; no path has a worse one.
use Rattle.std.proofs.Common.{◌≡◌, ℕ, ◌+◌, ◌-◌, ◌<◌, ◌≤◌, Bool, true, false, cond, ltb, List, [], ◌∷◌, length, sym, refl, ap, ◌∙◌, inl, inr, arith}
use Rattle.std.proofs.lemmas.Bool.{cases_Bool, ltb-true, ltb-false}
use Rattle.circuit.specs.Circuit.{Circuit, gate, Sound}
use Rattle.circuit.specs.Lent.{gate_count, register_count, signal_count, gate_in, drawn}
use Rattle.circuit.proofs.LentLaws.{gates_in_length, gates_in_at}
use Rattle.circuit.proofs.Signals.{all_in, all_at, each_signal}
use Rattle.arrival.specs.declared.edge.Edge.{Edge}
use Rattle.arrival.specs.declared.edge.Edge.TheVariants.{Late, Early}
use Rattle.arrival.specs.Arrival.{delay, choose, arrival, NoWorse}
use Rattle.arrival.specs.Lent.{source, time_of}
use Rattle.arrival.proofs.ArrivalLaws.{arrival_in, arrival_at}
use Rattle.path.specs.Path.{Steps, input, Leads, sum, Ahead, by_second, step, told, Told, NoneWorse, NoneLonger, ToldIsFirst}

-- what the rule's choice says of the gate's time, for both kinds
abbrev time_by : Edge → Bool → ℕ → ℕ → ℕ
time_by e second a b = cond second b a

chosen : (e : Edge) (a b : ℕ) → choose e a b ≡ time_by e (by_second e a b) a b
chosen Late a b = elim (cases_Bool (ltb a b)) [ inl t ↦ rw t (omega (arith, ltb-true a b t)) | inr t ↦ rw t (omega (arith, ltb-false a b t)) ]
chosen Early a b = elim (cases_Bool (ltb b a)) [ inl t ↦ rw t (omega (arith, ltb-true b a t)) | inr t ↦ rw t (omega (arith, ltb-false b a t)) ]

-- the second alone has the time: the first's is another
not_first : (e : Edge) (a b x : ℕ) → by_second e a b ≡ true → NoWorse e x a → x ≡ choose e a b → ⊥
not_first Late a b x t w is = omega (arith, ltb-true a b t)
not_first Early a b x t w is = omega (arith, ltb-true b a t)

worse_one : (e : Edge) (x d a b : ℕ) → NoWorse e x a → NoWorse e (d + x) (choose e (a + d) b)
worse_one Late x d a b w = omega arith
worse_one Early x d a b w = omega arith

worse_two : (e : Edge) (x d a b : ℕ) → NoWorse e x b → NoWorse e (d + x) (choose e a (b + d))
worse_two Late x d a b w = omega arith
worse_two Early x d a b w = omega arith

shifted : (e : Edge) (x a d : ℕ) → NoWorse e x a → NoWorse e (x + d) (a + d)
shifted Late x a d w = omega arith
shifted Early x a d w = omega arith

no_worse_same : (e : Edge) (a b : ℕ) → a ≡ b → NoWorse e a b
no_worse_same Late a b h = omega arith
no_worse_same Early a b h = omega arith

pub none_worse : NoneWorse
unfolding Leads sum
none_worse e c s sound i [] k l = no_worse_same e _ _ (omega (arith, arrival_in e c sound s i l.1, ap (arrival e c s) l.0))
none_worse e c s sound i ((g, false) ∷ p) k l =
    let a : s i + (delay e false (gate c g) + sum e c p) ≡ delay e false (gate c g) + (s i + sum e c p) = omega arith in
    rw (a, l.0, arrival_at e c sound s g l.1) (worse_one e _ _ _ _ (none_worse e c s sound i p _ l.2))
none_worse e c s sound i ((g, true) ∷ p) k l =
    let a : s i + (delay e true (gate c g) + sum e c p) ≡ delay e true (gate c g) + (s i + sum e c p) = omega arith in
    rw (a, l.0, arrival_at e c sound s g l.1) (worse_two e _ _ _ _ (none_worse e c s sound i p _ l.2))

-- the signals along a path fall, down to a source
falls : (c : Circuit) → Sound c → (i : ℕ) (p : Steps) (k : ℕ) → Leads c i p k → length p ≤ k + 1 - c.inputs
unfolding Leads
falls c sound i [] k l = omega arith
falls c sound i ((g, false) ∷ p) k l = omega (arith, l.0, falls c sound i p _ l.2, (sound.before g l.1).0)
falls c sound i ((g, true) ∷ p) k l = omega (arith, l.0, falls c sound i p _ l.2, (sound.before g l.1).1)

pub none_longer : NoneLonger
unfolding Leads
none_longer c sound i [] k l = omega arith
none_longer c sound i ((g, b) ∷ p) k l = omega (arith, l.0, l.1, falls c sound i ((g, b) ∷ p) k l)

module _ (e : Edge) (c : Circuit) (sound : Sound c) (s : ℕ → ℕ) where
  told_source : (i : ℕ) → i < c.inputs → Told e c s i i []
  unfolding Leads sum Ahead
  told_source i h = record { leads = (refl, h); reaches = omega (arith, arrival_in e c sound s i h); first = λ j q l r. tt }

  module _ (k : ℕ) (h : k < length c.gates) where
    abbrev at_one : ℕ
    at_one = arrival e c s (gate c k).one + delay e false (gate c k)

    abbrev at_two : ℕ
    at_two = arrival e c s (gate c k).two + delay e true (gate c k)

    time_is : (t : Bool) → by_second e at_one at_two ≡ t → arrival e c s (c.inputs + k) ≡ time_by e t at_one at_two
    time_is t is = arrival_at e c sound s k h ∙ chosen e at_one at_two ∙ rw is

    by_two : (i : ℕ) (p : Steps) → by_second e at_one at_two ≡ true → Told e c s (gate c k).two i p → Told e c s (c.inputs + k) i ((k, true) ∷ p)
    unfolding Leads sum Ahead
    by_two i p is t = record { leads = (refl, h, t.leads); reaches = omega (arith, time_is true is, t.reaches); first = first }
      where
        first : (j : ℕ) (q : Steps) → Leads c j q (c.inputs + k) → s j + sum e c q ≡ arrival e c s (c.inputs + k) → Ahead ((k, true) ∷ p) q
        first j [] l r = absurd (omega arith)
        first j ((g, true) ∷ q) l r =
            let same : g ≡ k = omega (arith, l.0) in
            inr (refl, t.first j q (rw same at l.2) (omega (arith, time_is true is, rw same at r)))
        first j ((g, false) ∷ q) l r =
            let same : g ≡ k = omega (arith, l.0) in
            absurd (not_first e at_one at_two (s j + sum e c q + delay e false (gate c k)) is (shifted e _ _ _ (none_worse e c s sound j q _ (rw same at l.2)))
            (omega (arith, rw same at r, arrival_at e c sound s k h)))

    by_one : (i : ℕ) (p : Steps) → by_second e at_one at_two ≡ false → Told e c s (gate c k).one i p → Told e c s (c.inputs + k) i ((k, false) ∷ p)
    unfolding Leads sum Ahead
    by_one i p is t = record { leads = (refl, h, t.leads); reaches = omega (arith, time_is false is, t.reaches); first = first }
      where
        first : (j : ℕ) (q : Steps) → Leads c j q (c.inputs + k) → s j + sum e c q ≡ arrival e c s (c.inputs + k) → Ahead ((k, false) ∷ p) q
        first j [] l r = absurd (omega arith)
        first j ((g, true) ∷ q) l r = inl (refl, refl)
        first j ((g, false) ∷ q) l r =
            let same : g ≡ k = omega (arith, l.0) in
            inr (refl, t.first j q (rw same at l.2) (omega (arith, time_is false is, rw same at r)))

  -- the two equations of the told path
  pub told_in : (i : ℕ) → i < c.inputs → told e c s i ≡ (i, [])
  unfolding told
  told_in = all_in (step e c s) c sound (λ i. (i, []))

  pub told_at : (k : ℕ) → k < length c.gates → told e c s (c.inputs + k)
      ≡ cond (by_second e (arrival e c s (gate c k).one + delay e false (gate c k)) (arrival e c s (gate c k).two + delay e true (gate c k)))
      ((told e c s (gate c k).two).0, (k, true) ∷ (told e c s (gate c k).two).1) ((told e c s (gate c k).one).0, (k, false) ∷ (told e c s (gate c k).one).1)
  unfolding told
  told_at k h = let n : c.inputs + k - c.inputs ≡ k = omega arith in rw n at (all_at (step e c s) c sound (λ i. (i, [])) k h)

pub told_is_first : ToldIsFirst
told_is_first e c s k sound h = each_signal c sound (λ k. Told e c s k (told e c s k).0 (told e c s k).1)
    (λ i h. rw (told_in e c sound s i h) (told_source e c sound s i h))
    (λ k h a b.
    elim (cases_Bool (by_second e (at_one e c sound s k h) (at_two e c sound s k h))) [
      | inl t ↦ rw (told_at e c sound s k h, t) (by_two e c sound s k h _ _ t b)
      | inr t ↦ rw (told_at e c sound s k h, t) (by_one e c sound s k h _ _ t a)
    ])
    k h

-- one step more
abbrev pub beyond : ℕ → Bool → ℕ × Steps → ℕ × Steps
beyond k b x = (x.0, (k, b) ∷ x.1)

-- the step back from a signal that is a gate's, over the numbers that are lent
module _ (e : Edge) (g r t : List ℕ) (sound : Sound (drawn g r)) where
  abbrev told_lent : ℕ → ℕ × Steps
  told_lent = told e (drawn g r) (source e r t)

  either_way : (k : ℕ) (b : Bool) (from : ℕ) → from ≡ input b (gate_in g k) →
      cond b (beyond k true (told_lent (gate_in g k).two)) (beyond k false (told_lent (gate_in g k).one)) ≡ beyond k b (told_lent from)
  either_way k true from is = rw is
  either_way k false from is = rw is

  pub told_back : (n at : ℕ) → n ≡ register_count r → n ≤ at → at < signal_count g r → (b : Bool) (from : ℕ) →
      b ≡ by_second e (time_of e g r t (gate_in g (at - n)).one + delay e false (gate_in g (at - n))) (time_of e g r t (gate_in g (at - n)).two + delay e true (gate_in g (at - n))) →
      from ≡ input b (gate_in g (at - n)) → told_lent at ≡ beyond (at - register_count r) b (told_lent from)
  told_back n at is past inside b from b_is from_is =
      let k : at - register_count r < gate_count g = omega arith in
      let back : register_count r + (at - register_count r) ≡ at = omega arith in
      let law = rw (gates_in_at g (at - register_count r) k) at (told_at e (drawn g r) sound (source e r t) (at - register_count r) (omega (arith, gates_in_length g))) in
      ap told_lent (sym back) ∙ law ∙ rw (← rw is at b_is) (either_way (at - register_count r) b from (rw is at from_is))

  pub told_source_lent : (i : ℕ) → i < register_count r → told_lent i ≡ (i, [])
  told_source_lent = told_in e (drawn g r) sound (source e r t)

  -- what is told to a signal of the circuit
  pub told_lent_first : (k : ℕ) → k < signal_count g r → Told e (drawn g r) (source e r t) k (told_lent k).0 (told_lent k).1
  told_lent_first k h = told_is_first e (drawn g r) (source e r t) k sound (omega (arith, gates_in_length g))

  -- has no more steps than there are gates
  pub told_lent_fits : (k : ℕ) → k < signal_count g r → length (told_lent k).1 ≤ gate_count g
  told_lent_fits k h = omega (arith, none_longer (drawn g r) sound _ _ k (told_lent_first k h).leads, gates_in_length g)
