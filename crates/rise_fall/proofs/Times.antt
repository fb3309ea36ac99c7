-- Times by transition are those of paths.
use Rattle.std.proofs.Common.{◌≡◌, ℕ, ◌+◌, ◌<◌, ◌≤◌, ◌⊎◌, Bool, true, false, not, ◌&&◌, cond, min, max, length}
use Rattle.std.proofs.Common.{sym, refl, ◌∙◌, inl, inr, arith, ◌||◌, [], ◌∷◌}
use Rattle.std.proofs.lemmas.Bool.{cases_lt, cases_Bool, cond-true, cond-false}
use Rattle.circuit.proofs.Signals.{each_signal}
use Rattle.circuit.specs.Circuit.{Circuit, gate, signals, Sound}
use Rattle.circuit.specs.Gate.{output}
use Rattle.circuit.specs.declared.gate.Gate.{Gate}
use Rattle.rise_fall.specs.Gate.{GateBounds}
use Rattle.rise_fall.specs.Paths.{RiseFallSteps, input, side, bounds_at, Leads, slowest, fastest, RiseFallLatestIs}
use Rattle.rise_fall.specs.Paths.{RiseFallEarliestIs}
use Rattle.rise_fall.specs.Times.{shortest, Stable, delay_late, from_by, until_by, equal_bits, makes, is_constant}
use Rattle.rise_fall.specs.Times.{has_arc, swapped, soonest, longest_still, merged, gate_stable, stable}
use Rattle.rise_fall.proofs.Keeping.{soonest_at, longest_still_at, stable_source, stable_gate}
use Rattle.rise_fall.proofs.Seeing.{in_larger, in_smaller}

-- of the four bits at a gate's inputs one at least has an arc
some_of_four : (p q r s v : Bool) →
    (((((equal_bits p v && not (equal_bits r v)) || (equal_bits q v && not (equal_bits s v))) ||
    (equal_bits p q && (equal_bits r s && equal_bits p r))) ≡ true)
    ⊎ ((((equal_bits r v && not (equal_bits p v)) || (equal_bits s v && not (equal_bits q v))) ||
    (equal_bits p q && (equal_bits r s && equal_bits p r))) ≡ true))
    ⊎ (((((equal_bits p v && not (equal_bits q v)) || (equal_bits r v && not (equal_bits s v))) ||
    (equal_bits p r && (equal_bits q s && equal_bits p q))) ≡ true)
    ⊎ ((((equal_bits q v && not (equal_bits p v)) || (equal_bits s v && not (equal_bits r v))) ||
    (equal_bits p r && (equal_bits q s && equal_bits p q))) ≡ true))
some_of_four true true true true true = inl (inl refl)
some_of_four true true true true false = inl (inl refl)
some_of_four true true true false true = inl (inl refl)
some_of_four true true true false false = inl (inr refl)
some_of_four true true false true true = inl (inl refl)
some_of_four true true false true false = inl (inr refl)
some_of_four true true false false true = inl (inl refl)
some_of_four true true false false false = inl (inr refl)
some_of_four true false true true true = inl (inr refl)
some_of_four true false true true false = inl (inl refl)
some_of_four true false true false true = inr (inl refl)
some_of_four true false true false false = inr (inr refl)
some_of_four true false false true true = inl (inl refl)
some_of_four true false false true false = inl (inl refl)
some_of_four true false false false true = inl (inl refl)
some_of_four true false false false false = inl (inr refl)
some_of_four false true true true true = inl (inr refl)
some_of_four false true true true false = inl (inl refl)
some_of_four false true true false true = inl (inl refl)
some_of_four false true true false false = inl (inl refl)
some_of_four false true false true true = inr (inr refl)
some_of_four false true false true false = inr (inl refl)
some_of_four false true false false true = inl (inl refl)
some_of_four false true false false false = inl (inr refl)
some_of_four false false true true true = inl (inr refl)
some_of_four false false true true false = inl (inl refl)
some_of_four false false true false true = inl (inr refl)
some_of_four false false true false false = inl (inl refl)
some_of_four false false false true true = inl (inr refl)
some_of_four false false false true false = inl (inl refl)
some_of_four false false false false true = inl (inl refl)
some_of_four false false false false false = inl (inl refl)

some_counts : (f : Bool → Bool → Bool) (v : Bool) → ((has_arc f true v ≡ true) ⊎ (has_arc f false v ≡ true))
    ⊎ ((has_arc (swapped f) true v ≡ true) ⊎ (has_arc (swapped f) false v ≡ true))
unfolding has_arc makes is_constant
some_counts f v = some_of_four (f true true) (f true false) (f false true) (f false false) v

four_max : (a b c d : ℕ) → ((max (max a b) (max c d) ≡ a) ⊎ (max (max a b) (max c d) ≡ b))
    ⊎ ((max (max a b) (max c d) ≡ c) ⊎ (max (max a b) (max c d) ≡ d))
four_max a b c d = elim (cases_lt (max a b) (max c d)) [
  | inr q ↦ inl (elim (cases_lt a b) [ inl z ↦ inr (omega arith) | inr z ↦ inl (omega arith) ])
  | inl q ↦ inr (elim (cases_lt c d) [ inl z ↦ inr (omega arith) | inr z ↦ inl (omega arith) ])
]

four_min : (a b c d : ℕ) → ((min (min a b) (min c d) ≡ a) ⊎ (min (min a b) (min c d) ≡ b))
    ⊎ ((min (min a b) (min c d) ≡ c) ⊎ (min (min a b) (min c d) ≡ d))
four_min a b c d = elim (cases_lt (min c d) (min a b)) [
  | inr q ↦ inl (elim (cases_lt b a) [ inl z ↦ inr (omega arith) | inr z ↦ inl (omega arith) ])
  | inl q ↦ inr (elim (cases_lt d c) [ inl z ↦ inr (omega arith) | inr z ↦ inl (omega arith) ])
]

-- one gate
module _ (g : Gate) (d : GateBounds) (X Y : Stable) (v : Bool) where
  -- through an input's bit
  abbrev pub late_at : Bool → Bool → ℕ
  late_at true a = from_by d.two Y a
  late_at false a = from_by d.one X a

  abbrev pub early_at : Bool → Bool → ℕ
  early_at true a = until_by d.two Y a
  early_at false a = until_by d.one X a

  pub late_below : (second a : Bool) → has_arc (side second g) a v ≡ true →
      late_at second a ≤ (gate_stable d g X Y).from v
  unfolding merged
  late_below true a r = omega (
    arith,
    in_larger (λ z. cond (has_arc (swapped (output g.table)) z v) (from_by d.two Y z) (soonest_at d X Y)) a,
    cond-true (has_arc (swapped (output g.table)) a v) (from_by d.two Y a) (soonest_at d X Y) r,
  )
  late_below false a r = omega (
    arith,
    in_larger (λ z. cond (has_arc (output g.table) z v) (from_by d.one X z) (soonest_at d X Y)) a,
    cond-true (has_arc (output g.table) a v) (from_by d.one X a) (soonest_at d X Y) r,
  )

  pub early_above : (second a : Bool) → has_arc (side second g) a v ≡ true →
      (gate_stable d g X Y).until v ≤ early_at second a
  unfolding merged
  early_above true a r = omega (
    arith,
    in_smaller (λ z. cond (has_arc (swapped (output g.table)) z v) (until_by d.two Y z) (longest_still_at d X Y)) a,
    cond-true (has_arc (swapped (output g.table)) a v) (until_by d.two Y a) (longest_still_at d X Y) r,
  )
  early_above false a r = omega (
    arith,
    in_smaller (λ z. cond (has_arc (output g.table) z v) (until_by d.one X z) (longest_still_at d X Y)) a,
    cond-true (has_arc (output g.table) a v) (until_by d.one X a) (longest_still_at d X Y) r,
  )

  -- an input's bit that has an arc and has the gate's own time
  abbrev pub LatestArc : Type 0
  LatestArc = (second : Bool) × (a : Bool) × (has_arc (side second g) a v ≡ true)
      × (late_at second a ≡ (gate_stable d g X Y).from v)

  EarliestArc : Type 0
  EarliestArc = (second : Bool) × (a : Bool) × (has_arc (side second g) a v ≡ true)
      × (early_at second a ≡ (gate_stable d g X Y).until v)

  late_any : (gate_stable d g X Y).from v ≡ soonest_at d X Y → LatestArc
  unfolding soonest
  late_any is = elim (some_counts (output g.table) v) [
    | inl q ↦ elim q [
      | inl r ↦ (false, true, r, omega (arith, late_below false true r))
      | inr r ↦
          (false, false, r, omega (arith, late_below false false r))
    ]
    | inr q ↦ elim q [
      | inl r ↦ (true, true, r, omega (arith, late_below true true r))
      | inr r ↦
          (true, false, r, omega (arith, late_below true false r))
    ]
  ]

  early_any : (gate_stable d g X Y).until v ≡ longest_still_at d X Y → EarliestArc
  unfolding longest_still EarliestArc
  early_any is = elim (some_counts (output g.table) v) [
    | inl q ↦ elim q [
      | inl r ↦ (false, true, r, omega (arith, early_above false true r))
      | inr r ↦
          (false, false, r, omega (arith, early_above false false r))
    ]
    | inr q ↦ elim q [
      | inl r ↦ (true, true, r, omega (arith, early_above true true r))
      | inr r ↦
          (true, false, r, omega (arith, early_above true false r))
    ]
  ]

  late_one : (second a : Bool) →
      (gate_stable d g X Y).from v ≡ cond (has_arc (side second g) a v) (late_at second a) (soonest_at d X Y) →
      LatestArc
  late_one second a is = elim (cases_Bool (has_arc (side second g) a v)) [
    | inl r ↦ (
      second,
      a,
      r,
      sym (cond-true (has_arc (side second g) a v) (late_at second a) (soonest_at d X Y) r)
          ∙ sym is,
    )
    | inr r ↦ late_any (is ∙ cond-false (has_arc (side second g) a v) (late_at second a) (soonest_at d X Y) r)
  ]

  early_one : (second a : Bool) →
      (gate_stable d g X Y).until v ≡ cond (has_arc (side second g) a v) (early_at second a) (longest_still_at d X Y) →
      EarliestArc
  unfolding EarliestArc
  early_one second a is = elim (cases_Bool (has_arc (side second g) a v)) [
    | inl r ↦ (
      second,
      a,
      r,
      sym (cond-true (has_arc (side second g) a v) (early_at second a) (longest_still_at d X Y) r)
          ∙ sym is,
    )
    | inr r ↦ early_any (is ∙ cond-false (has_arc (side second g) a v) (early_at second a) (longest_still_at d X Y) r)
  ]

  pub late_some : LatestArc
  unfolding merged
  late_some = elim (four_max (cond (has_arc (output g.table) true v) (from_by d.one X true) (soonest_at d X Y))
      (cond (has_arc (output g.table) false v) (from_by d.one X false) (soonest_at d X Y))
      (cond (has_arc (swapped (output g.table)) true v) (from_by d.two Y true) (soonest_at d X Y))
      (cond (has_arc (swapped (output g.table)) false v) (from_by d.two Y false) (soonest_at d X Y))) [
        | inl q ↦ elim q [ inl r ↦ late_one false true r | inr r ↦ late_one false false r ]
        | inr q ↦ elim q [ inl r ↦ late_one true true r | inr r ↦ late_one true false r ]
      ]

  early_some : EarliestArc
  unfolding merged
  early_some = elim (four_min (cond (has_arc (output g.table) true v) (until_by d.one X true) (longest_still_at d X Y))
      (cond (has_arc (output g.table) false v) (until_by d.one X false) (longest_still_at d X Y))
      (cond (has_arc (swapped (output g.table)) true v) (until_by d.two Y true) (longest_still_at d X Y))
      (cond (has_arc (swapped (output g.table)) false v) (until_by d.two Y false) (longest_still_at d X Y))) [
        | inl q ↦ elim q [ inl r ↦ early_one false true r | inr r ↦ early_one false false r ]
        | inr q ↦ elim q [ inl r ↦ early_one true true r | inr r ↦ early_one true false r ]
      ]

module _ (c : Circuit) (d : ℕ → GateBounds) (s : ℕ → Stable) (sound : Sound c) where
  late_gate : (x : ℕ) (second a v : Bool) → x < length c.gates → has_arc (side second (gate c x)) a v ≡ true →
      (stable c d s (input second (gate c x))).from a + delay_late (bounds_at second (d x))
      (stable c d s (input second (gate c x))) a ≤ (stable c d s (c.inputs + x)).from v
  unfolding from_by
  late_gate x true a v h r = rw (stable_gate c d sound s x h) (late_below (gate c x) (d x) _ _ v true a r)
  late_gate x false a v h r = rw (stable_gate c d sound s x h) (late_below (gate c x) (d x) _ _ v false a r)

  early_gate : (x : ℕ) (second a v : Bool) → x < length c.gates → has_arc (side second (gate c x)) a v ≡ true →
      (stable c d s (c.inputs + x)).until v ≤ (stable c d s (input second (gate c x))).until a + shortest
      (bounds_at second (d x))
  unfolding until_by
  early_gate x true a v h r = rw (stable_gate c d sound s x h) (early_above (gate c x) (d x) _ _ v true a r)
  early_gate x false a v h r = rw (stable_gate c d sound s x h) (early_above (gate c x) (d x) _ _ v false a r)

  none_later : (i : ℕ) (u : Bool) (p : RiseFallSteps) (k : ℕ) (v : Bool) → Leads c i u p k v →
      (s i).from u + slowest c d s p ≤ (stable c d s k).from v
  unfolding Leads slowest
  none_later i u [] k v l = rw (l.0, l.2, stable_source c d sound s i l.1) (omega arith)
  none_later i u ((g, second, a) ∷ p) k v l =
      rw l.0 (omega (arith, late_gate g second a v l.1 l.2, none_later i u p _ a l.3))

  none_sooner : (i : ℕ) (u : Bool) (p : RiseFallSteps) (k : ℕ) (v : Bool) → Leads c i u p k v →
      (stable c d s k).until v ≤ (s i).until u + fastest c d p
  unfolding Leads fastest
  none_sooner i u [] k v l = rw (l.0, l.2, stable_source c d sound s i l.1) (omega arith)
  none_sooner i u ((g, second, a) ∷ p) k v l =
      rw l.0 (omega (arith, early_gate g second a v l.1 l.2, none_sooner i u p _ a l.3))

  some_latest : (k : ℕ) → k < signals c → (v : Bool) → (i : ℕ) × (u : Bool) × (p : RiseFallSteps) × Leads c i u p k v
      × ((s i).from u + slowest c d s p ≡ (stable c d s k).from v)
  unfolding Leads slowest from_by
  some_latest = each_signal c sound
      (λ k. (v : Bool) → (i : ℕ) × (u : Bool) × (p : RiseFallSteps) × Leads c i u p k v
      × ((s i).from u + slowest c d s p ≡ (stable c d s k).from v))
      (λ i h v. (i, v, [], (refl, h, refl), rw (stable_source c d sound s i h) (omega arith)))
      (λ k h p q v.
      let g = gate c k in
      late_step k h p q v (late_some g (d k) (stable c d s g.one) (stable c d s g.two) v))
    where
      late_step : (k : ℕ) → k < length c.gates →
          ((v : Bool) → (i : ℕ) × (u : Bool) × (p : RiseFallSteps) × Leads c i u p (gate c k).one v
          × ((s i).from u + slowest c d s p ≡ (stable c d s (gate c k).one).from v)) →
          ((v : Bool) → (i : ℕ) × (u : Bool) × (p : RiseFallSteps) × Leads c i u p (gate c k).two v
          × ((s i).from u + slowest c d s p ≡ (stable c d s (gate c k).two).from v)) →
          (v : Bool) → LatestArc (gate c k) (d k) (stable c d s (gate c k).one) (stable c d s (gate c k).two) v →
          (i : ℕ) × (u : Bool) × (p : RiseFallSteps) × Leads c i u p (c.inputs + k) v
          × ((s i).from u + slowest c d s p ≡ (stable c d s (c.inputs + k)).from v)
      late_step k h p q v (false, a, r, is) = let b = p a in
          (b.0, b.1, (k, false, a) ∷ b.2, (refl, h, r, b.3), rw (stable_gate c d sound s k h) (omega (arith, b.4)))
      late_step k h p q v (true, a, r, is) = let b = q a in
          (b.0, b.1, (k, true, a) ∷ b.2, (refl, h, r, b.3), rw (stable_gate c d sound s k h) (omega (arith, b.4)))

  some_earliest : (k : ℕ) → k < signals c → (v : Bool) → (i : ℕ) × (u : Bool) × (p : RiseFallSteps) × Leads c i u p k v
      × ((s i).until u + fastest c d p ≡ (stable c d s k).until v)
  unfolding Leads fastest until_by EarliestArc
  some_earliest = each_signal c sound
      (λ k. (v : Bool) → (i : ℕ) × (u : Bool) × (p : RiseFallSteps) × Leads c i u p k v
      × ((s i).until u + fastest c d p ≡ (stable c d s k).until v))
      (λ i h v. (i, v, [], (refl, h, refl), rw (stable_source c d sound s i h) (omega arith)))
      (λ k h p q v.
      let g = gate c k in
      early_step k h p q v (early_some g (d k) (stable c d s g.one) (stable c d s g.two) v))
    where
      early_step : (k : ℕ) → k < length c.gates →
          ((v : Bool) → (i : ℕ) × (u : Bool) × (p : RiseFallSteps) × Leads c i u p (gate c k).one v
          × ((s i).until u + fastest c d p ≡ (stable c d s (gate c k).one).until v)) →
          ((v : Bool) → (i : ℕ) × (u : Bool) × (p : RiseFallSteps) × Leads c i u p (gate c k).two v
          × ((s i).until u + fastest c d p ≡ (stable c d s (gate c k).two).until v)) →
          (v : Bool) → EarliestArc (gate c k) (d k) (stable c d s (gate c k).one) (stable c d s (gate c k).two) v →
          (i : ℕ) × (u : Bool) × (p : RiseFallSteps) × Leads c i u p (c.inputs + k) v
          × ((s i).until u + fastest c d p ≡ (stable c d s (c.inputs + k)).until v)
      early_step k h p q v (false, a, r, is) = let b = p a in
          (b.0, b.1, (k, false, a) ∷ b.2, (refl, h, r, b.3), rw (stable_gate c d sound s k h) (omega (arith, b.4)))
      early_step k h p q v (true, a, r, is) = let b = q a in
          (b.0, b.1, (k, true, a) ∷ b.2, (refl, h, r, b.3), rw (stable_gate c d sound s k h) (omega (arith, b.4)))

pub latest_is : RiseFallLatestIs
latest_is c d s k v sound h = (λ i u p l. none_later c d s sound i u p k v l, some_latest c d s sound k h v)

pub earliest_is : RiseFallEarliestIs
earliest_is c d s k v sound h =
    (λ i u p l. none_sooner c d s sound i u p k v l, some_earliest c d s sound k h v)
