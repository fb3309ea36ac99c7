-- What a gate sees of an input.
use Rattle.std.proofs.Common.{◌≡◌, ℕ, suc, ◌+◌, ◌-◌, ◌<◌, ◌≤◌, ◌⊎◌, Bool, true, false, not, min, max, leb}
use Rattle.std.proofs.Common.{length, sym, refl, subst, ◌∙◌, inl, inr, arith, zero, ap}
use Rattle.std.proofs.lemmas.Bool.{cases_lt, cases_Bool, leb-true, le-ltb, cond-true, cond-false, cases_eq, lt-ltb}
use Rattle.circuit.specs.Circuit.{Circuit, gate}
use Rattle.circuit.specs.Gate.{output}
use Rattle.arrival.specs.Window.{Wave}
use Rattle.rise_fall.specs.Gate.{Bounds, GateBounds, ago, LastTo, NeverChanged, Sees, RiseFallMoves, SeesUpTo}
use Rattle.rise_fall.specs.Gate.{MovesUpTo}
use Rattle.rise_fall.specs.Times.{longest, Stable, delay_late, from_by, until_by, delayed, smaller, larger}

pub in_larger : (f : Bool → ℕ) (b : Bool) → f b ≤ larger f
in_larger f true = omega arith
in_larger f false = omega arith

pub in_smaller : (f : Bool → ℕ) (b : Bool) → smaller f ≤ f b
in_smaller f true = omega arith
in_smaller f false = omega arith

pub either_bit : (p a : Bool) → (p ≡ a) ⊎ (p ≡ not a)
either_bit true true = inl refl
either_bit true false = inr refl
either_bit false true = inr refl
either_bit false false = inl refl

-- the last transition was to the bit that there was just before now
last_is : (x : ℕ → Bool) (b : Bool) → LastTo x b → x 1 ≡ b
last_is x b l = l.2 1 (omega arith) l.1

-- the signal's own moments
pub ago_is : (past x : Wave) (t d : ℕ) → d ≤ t → ago past x t d ≡ x (t - d)
unfolding ago
ago_is past x t d h = cond-false _ _ _ (le-ltb t d h)

-- what is seen of an input that is stable at a is a
pub seen_by : (past x : Wave) (a : Bool) (T : Stable) (b : Bounds) (t : ℕ) (p : Bool) →
    ((u : ℕ) → T.from a ≤ u → u < T.until a → x u ≡ a) → Sees b (ago past x t) p →
    from_by b T a ≤ t → t < until_by b T a → p ≡ a
unfolding from_by delay_late until_by
seen_by past x a T b t p shown sees start stop =
    let v = sees.transition in
    let d = sees.delay in
    let l = sees.no_less in
    let h = sees.no_more in
    let m = in_larger b.greatest v in
    let n = in_smaller b.least v in
    elim (cases_lt t (T.from a + longest b)) [
      | inr q ↦ sees.is ∙ ago_is past x t d (omega arith) ∙ shown (t - d) (omega arith) (omega arith)
      | inl q ↦ elim (cases_Bool (leb (T.from a + longest b) (T.until a))) [
        | inr e ↦ absurd (omega (
          arith,
          cond-false (leb (T.from a + longest b) (T.until a)) (min (longest b) (max 1 (b.greatest a))) (longest b) e,
        ))
        | inl e ↦
            let long = leb-true (T.from a + longest b) (T.until a) e in
            let short = cond-true (leb (T.from a + longest b) (T.until a)) (min (longest b) (max 1 (b.greatest a)))
            (longest b) e in
            let before : ago past x t 1 ≡ a = ago_is past x t 1 (omega arith)
            ∙ shown (t - 1) (omega arith) (omega arith) in
            elim sees.changed [
              | inl s ↦
                  let g : d ≤ b.greatest a = subst (λ z. d ≤ b.greatest z)
                  (sym (last_is (ago past x t) v s) ∙ before) h in
                  sees.is ∙ ago_is past x t d (omega arith) ∙ shown (t - d) (omega arith) (omega arith)
              | inr s ↦ elim (cases_lt 0 d) [
                | inl some ↦ sees.is ∙ s d (omega arith) ∙ before
                | inr none ↦ sees.is ∙ ago_is past x t d (omega arith) ∙ shown (t - d) (omega arith) (omega arith)
              ]
            ]
      ]
    ]

seen_up_to : (past x : Wave) (a : Bool) (T : Stable) (b : Bounds) (t : ℕ) (p : Bool) →
    ((u : ℕ) → T.from a ≤ u → u < T.until a → x u ≡ a) → SeesUpTo b (ago past x t) p →
    from_by b T a ≤ t → t < until_by b T a → p ≡ a
unfolding from_by delay_late until_by
seen_up_to past x a T b t p shown sees start stop =
    let v = sees.transition in
    let d = sees.delay in
    let l = sees.no_less in
    let h = sees.no_more in
    let m = in_larger b.greatest v in
    let n = in_smaller b.least v in
    elim (cases_lt t (T.from a + longest b)) [
      | inr q ↦ sees.is ∙ ago_is past x t d (omega arith) ∙ shown (t - d) (omega arith) (omega arith)
      | inl q ↦ elim (cases_Bool (leb (T.from a + longest b) (T.until a))) [
        | inr e ↦ absurd (omega (
          arith,
          cond-false (leb (T.from a + longest b) (T.until a)) (min (longest b) (max 1 (b.greatest a))) (longest b) e,
        ))
        | inl e ↦
            let long = leb-true (T.from a + longest b) (T.until a) e in
            let short = cond-true (leb (T.from a + longest b) (T.until a)) (min (longest b) (max 1 (b.greatest a)))
            (longest b) e in
            let now : ago past x t 0 ≡ a = ago_is past x t 0 (omega arith)
            ∙ shown (t - 0) (omega arith) (omega arith) in
            elim sees.changed [
              | inl s ↦
                  let g : d ≤ b.greatest a = subst (λ z. d ≤ b.greatest z) (sym (s.1 0 (omega arith)) ∙ now) h in
                  sees.is ∙ ago_is past x t d (omega arith) ∙ shown (t - d) (omega arith) (omega arith)
              | inr s ↦ sees.is ∙ s d ∙ now
            ]
      ]
    ]

-- what is seen of an input as the bit p at moment t is right: where the input shows the bit a while it is stable, p
-- is a in the window that its delays leave of this
abbrev pub RightAt : Bounds → (x : Wave) → (t : ℕ) → (p : Bool) → Type 0
RightAt b x t p =
    (a : Bool) (s : Stable) → ((u : ℕ) → s.from a ≤ u → u < s.until a → x u ≡ a) →
    (delayed b s).from a ≤ t → t < (delayed b s).until a → p ≡ a

-- each gate's output is what its table makes of bits that are right
abbrev pub SeesRight : Circuit → (ℕ → GateBounds) → (ℕ → Wave) → Type 0
SeesRight c d w =
    (k t : ℕ) → k < length c.gates → (p : Bool) × (q : Bool)
    × RightAt (d k).one (w (gate c k).one) t p × RightAt (d k).two (w (gate c k).two) t q
    × (w (c.inputs + k) t ≡ output (gate c k).table p q)

pub moves_right : (c : Circuit) (d : ℕ → GateBounds) (w : ℕ → Wave) → RiseFallMoves c d w → SeesRight c d w
moves_right c d w moves k t h =
    let f = moves.1 k t h in (
      f.bit_one,
      f.bit_two,
      (λ a s shown. seen_by _ _ a s (d k).one t f.bit_one shown f.sees_one),
      (λ a s shown. seen_by _ _ a s (d k).two t f.bit_two shown f.sees_two),
      f.is,
    )

pub up_to_right : (c : Circuit) (d : ℕ → GateBounds) (w : ℕ → Wave) → MovesUpTo c d w → SeesRight c d w
up_to_right c d w moves k t h =
    let f = moves.1 k t h in (
      f.0,
      f.1,
      (λ a s shown. seen_up_to _ _ a s (d k).one t f.0 shown f.2),
      (λ a s shown. seen_up_to _ _ a s (d k).two t f.1 shown f.3),
      f.4,
    )

-- back to any moment either all bits are as just before now, or there was a last transition
last_or_none : (h : ℕ → Bool) (n : ℕ) → ((i : ℕ) → 1 ≤ i → i ≤ suc n → h i ≡ h 1) ⊎ LastTo h (h 1)
last_or_none h zero = inl (λ i a z. let e : i ≡ 1 = omega arith in rw e)
last_or_none h (suc n) = elim (last_or_none h n) [
  | inr l ↦ inr l
  | inl all ↦ elim (either_bit (h (suc (suc n))) (h 1)) [
    | inl e ↦ inl (λ i a z. elim (cases_eq i (suc (suc n))) [ inl s ↦ rw s e | inr o ↦ all i a (omega arith) ])
    | inr e ↦ inr (suc n, omega arith, all, e)
  ]
]

-- a signal that never changed before moment 0 has a last transition, or none
decided : (x : Wave) (t : ℕ) → LastTo (ago (λ i. x 0) x t) (ago (λ i. x 0) x t 1) ⊎ NeverChanged (ago (λ i. x 0) x t)
unfolding ago
decided x t = elim (last_or_none (ago (λ i. x 0) x t) t) [
  | inr l ↦ inl l
  | inl all ↦ inr (λ i a. elim (cases_lt (suc t) i) [
    | inr within ↦ all i a within
    | inl past ↦ before i (omega arith) ∙ sym (before (suc t) (omega arith)) ∙ all (suc t) (omega arith) (omega arith)
  ])
]
  where
    before : (i : ℕ) → t < i → ago (λ i. x 0) x t i ≡ x 0
    before i h = unfold ago in cond-true _ _ _ (lt-ltb t i h)

-- its bit d moments ago
ago_still : (x : Wave) (t d : ℕ) → ago (λ i. x 0) x t d ≡ x (t - d)
unfolding ago
ago_still x t d = elim (cases_lt t d) [
  | inl past ↦ let z : t - d ≡ 0 = omega arith in rw z (cond-true _ _ _ (lt-ltb t d past))
  | inr now ↦ cond-false _ _ _ (le-ltb t d now)
]

-- its bit may be seen by any delay within the bounds of the bit that it was just before now
pub sees_by : (b : Bounds) (x : Wave) (t d : ℕ) → b.least (x (t - 1)) ≤ d → d ≤ b.greatest (x (t - 1)) →
    Sees b (ago (λ i. x 0) x t) (x (t - d))
sees_by b x t d low high = record {
  delay = d;
  transition = x (t - 1);
  changed = elim (decided x t) [
    | inl l ↦ inl
        (subst (λ v. LastTo (ago (λ i. x 0) x t) v) (ago_still x t 1) l)
    | inr n ↦ inr n
  ];
  no_less = low;
  no_more = high;
  is = sym (ago_still x t d);
}

-- and where a change at the moment itself counts, by any delay within the bounds of the bit that it is now
up_to_or_none : (h : ℕ → Bool) (n : ℕ) →
    ((d : ℕ) × ((i : ℕ) → i ≤ d → h i ≡ h 0) × (h (suc d) ≡ not (h 0))) ⊎ ((i : ℕ) → i ≤ n → h i ≡ h 0)
up_to_or_none h zero = inr (λ i z. let e : i ≡ 0 = omega arith in rw e)
up_to_or_none h (suc n) = elim (up_to_or_none h n) [
  | inl l ↦ inl l
  | inr all ↦ elim (either_bit (h (suc n)) (h 0)) [
    | inl e ↦ inr (λ i z. elim (cases_eq i (suc n)) [ inl s ↦ rw s e | inr o ↦ all i (omega arith) ])
    | inr e ↦ inl (n, all, e)
  ]
]

pub sees_up_to_by : (b : Bounds) (x : Wave) (t d : ℕ) → b.least (x t) ≤ d → d ≤ b.greatest (x t) →
    SeesUpTo b (ago (λ i. x 0) x t) (x (t - d))
sees_up_to_by b x t d low high = record {
  delay = d;
  transition = x t;
  changed = elim (up_to_or_none h t) [
    | inl l ↦ inl (l.0, (λ i z. l.1 i z ∙ now), subst (λ v. h (suc l.0) ≡ not v) now l.2)
    | inr all ↦ inr (λ i. elim (cases_lt t i) [
      | inr within ↦ all i within
      | inl past ↦
          let e : t - i ≡ t - t = omega arith in
          ago_still x t i ∙ ap x e ∙ sym (ago_still x t t) ∙ all t (omega arith)
    ])
  ];
  no_less = low;
  no_more = high;
  is = sym (ago_still x t d);
}
  where
    h : ℕ → Bool
    h = ago (λ i. x 0) x t

    now : h 0 ≡ x t
    now = let e : t - 0 ≡ t = omega arith in ago_still x t 0 ∙ ap x e
