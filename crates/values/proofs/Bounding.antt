-- What follows from some of the sources' bits.
use Rattle.std.proofs.Common.{◌≡◌, ℕ, ◌+◌, ◌<◌, ◌≤◌, Bool, true, false, cond, not, ◌&&◌, ◌||◌, Option, Some, None, [], ◌∷◌, length, refl, sym, ap, ap₂, ◌∙◌, ◌⊎◌, inl, inr, arith}
use Rattle.std.proofs.lemmas.Bool.{true≢false}
use Rattle.circuit.specs.Gate.{output}
use Rattle.circuit.specs.declared.gate.Gate.{Gate}
use Rattle.circuit.specs.Circuit.{Circuit, gate, signals, Sound}
use Rattle.circuit.proofs.Signals.{all_in, all_at, each_signal}
use Rattle.drawing.specs.Drawing.{ideal}
use Rattle.drawing.proofs.IdealLaws.{ideal_in, ideal_at}
use Rattle.path.specs.Path.{Steps, Leads}
use Rattle.values.specs.Settling.{is_controlling_one, is_controlling_two, settled_by, settle_time}
use Rattle.values.specs.FalsePath.{Sensitizes}
use Rattle.values.specs.Bounds.{is_blocked, BlockedIsNotSensitized, OpenIsSensitized, Allows, is_always_controlling_one, is_always_controlling_two, common_bit, implied_output, gate_settle_bound, implied_bit, settle_bound, BoundsHold, BoundsAreExact}
use Rattle.values.proofs.SettlingLaws.{settle_in, settle_at}

common_bit_allows : (x y z : Bool) → (z ≡ x) ⊎ (z ≡ y) → Allows (common_bit x y) z
common_bit_allows true true z (inl e) = sym e
common_bit_allows true true z (inr e) = sym e
common_bit_allows false false z (inl e) = sym e
common_bit_allows false false z (inr e) = sym e
common_bit_allows true false z e = tt
common_bit_allows false true z e = tt

-- the bit that four bits all are, if they are the same
abbrev all_four : (p q r s : Bool) → Option Bool
all_four p q r s = cond p (cond (q && (r && s)) (Some true) None) (cond (not q && (not r && not s)) (Some false) None)

four_allow : (f : Bool → Bool → Bool) (a b : Bool) →
    Allows (all_four (f false false) (f false true) (f true false) (f true true)) (f a b)
four_allow f a b = four (f false false) (f false true) (f true false) (f true true) (f a b) (which a b)
  where
    which : (a b : Bool) →
        (f a b ≡ f false false) ⊎ ((f a b ≡ f false true) ⊎ ((f a b ≡ f true false) ⊎ (f a b ≡ f true true)))
    which false false = inl refl
    which false true = inr (inl refl)
    which true false = inr (inr (inl refl))
    which true true = inr (inr (inr refl))

    four : (p q r s z : Bool) → (z ≡ p) ⊎ ((z ≡ q) ⊎ ((z ≡ r) ⊎ (z ≡ s))) → Allows (all_four p q r s) z
    four true true true true z (inl e) = sym e
    four true true true true z (inr (inl e)) = sym e
    four true true true true z (inr (inr (inl e))) = sym e
    four true true true true z (inr (inr (inr e))) = sym e
    four true true true false z e = tt
    four true true false s z e = tt
    four true false r s z e = tt
    four false false false false z (inl e) = sym e
    four false false false false z (inr (inl e)) = sym e
    four false false false false z (inr (inr (inl e))) = sym e
    four false false false false z (inr (inr (inr e))) = sym e
    four false false false true z e = tt
    four false false true s z e = tt
    four false true r s z e = tt

output_allows : (t : ℕ) (x y : Option Bool) (a b : Bool) → Allows x a → Allows y b →
    Allows (implied_output t x y) (output t a b)
output_allows t (Some x) (Some y) a b h l = ap₂ (output t) h l
output_allows t (Some x) None a true h l = common_bit_allows _ (output t x true) _ (inr (ap (λ x. output t x true) (sym h)))
output_allows t (Some x) None a false h l = common_bit_allows (output t x false) _ _ (inl (ap (λ x. output t x false) (sym h)))
output_allows t None (Some y) true b h l = common_bit_allows _ (output t true y) _ (inr (ap (output t true) (sym l)))
output_allows t None (Some y) false b h l = common_bit_allows (output t false y) _ _ (inl (ap (output t false) (sym l)))
output_allows t None None a b h l = four_allow (output t) a b

both_true : (f : Bool → Bool) → f false && f true ≡ true → (a : Bool) → f a ≡ true
both_true f h a = go (f false) (f true) refl refl h a
  where
    go : (x y : Bool) → f false ≡ x → f true ≡ y → x && y ≡ true → (a : Bool) → f a ≡ true
    go true true p q h false = p
    go true true p q h true = q
    go true false p q h a = absurd (true≢false (sym h))
    go false y p q h a = absurd (true≢false (sym h))

one_controls : (g : Gate) (x : Option Bool) (a : Bool) → Allows x a →
    is_always_controlling_one g x ≡ true → is_controlling_one g a ≡ true
one_controls g None a h is = both_true (is_controlling_one g) is a
one_controls g (Some x) a h is = ap (is_controlling_one g) (sym h) ∙ is

two_controls : (g : Gate) (y : Option Bool) (b : Bool) → Allows y b →
    is_always_controlling_two g y ≡ true → is_controlling_two g b ≡ true
two_controls g None b h is = both_true (is_controlling_two g) is b
two_controls g (Some y) b h is = ap (is_controlling_two g) (sym h) ∙ is

-- a gate that is controlled wherever it was before, and whose inputs are no later, is no later
less : (one two all_one all_two : Bool) → (all_one ≡ true → one ≡ true) → (all_two ≡ true → two ≡ true) →
    (a b x y d e : ℕ) → a ≤ x → b ≤ y →
    settled_by one two (a + d) (b + e) d e ≤ settled_by all_one all_two (x + d) (y + e) d e
less true true true true h l a b x y d e p q = omega arith
less true true true false h l a b x y d e p q = omega arith
less true true false true h l a b x y d e p q = omega arith
less true true false false h l a b x y d e p q = omega arith
less true false true false h l a b x y d e p q = omega arith
less true false false false h l a b x y d e p q = omega arith
less false true false true h l a b x y d e p q = omega arith
less false true false false h l a b x y d e p q = omega arith
less false false false false h l a b x y d e p q = omega arith
less false two true all_two h l a b x y d e p q = absurd (true≢false (sym (h refl)))
less true false all_one true h l a b x y d e p q = absurd (true≢false (sym (l refl)))
less false false false true h l a b x y d e p q = absurd (true≢false (sym (l refl)))

module _ (c : Circuit) (sound : Sound c) (p : ℕ → Option Bool) (s : ℕ → ℕ) where
  pub implied_in : (i : ℕ) → i < c.inputs → implied_bit c p i ≡ p i
  unfolding implied_bit
  implied_in i h = all_in (λ _ g. implied_output g.table) c sound p i h

  pub implied_at : (k : ℕ) → k < length c.gates →
      implied_bit c p (c.inputs + k)
      ≡ implied_output (gate c k).table (implied_bit c p (gate c k).one) (implied_bit c p (gate c k).two)
  unfolding implied_bit
  implied_at k h = all_at (λ _ g. implied_output g.table) c sound p k h

  pub bound_in : (i : ℕ) → i < c.inputs → settle_bound c p s i ≡ s i
  unfolding settle_bound
  bound_in i h = all_in (λ _ g. gate_settle_bound g (implied_bit c p g.one) (implied_bit c p g.two)) c sound s i h

  pub bound_at : (k : ℕ) → k < length c.gates →
      settle_bound c p s (c.inputs + k)
      ≡ gate_settle_bound (gate c k) (implied_bit c p (gate c k).one) (implied_bit c p (gate c k).two)
      (settle_bound c p s (gate c k).one) (settle_bound c p s (gate c k).two)
  unfolding settle_bound
  bound_at k h = all_at (λ _ g. gate_settle_bound g (implied_bit c p g.one) (implied_bit c p g.two)) c sound s k h

  module _ (b : ℕ → Bool) where
    -- what has to be shown of each signal
    abbrev Bounded : ℕ → Type 0
    Bounded k = Allows (implied_bit c p k) (ideal c b k) × (settle_time c b s k ≤ settle_bound c p s k)

    abbrev Exact : ℕ → Type 0
    Exact k = (implied_bit c p k ≡ Some (ideal c b k)) × (settle_bound c p s k ≡ settle_time c b s k)

    holds : ((i : ℕ) → i < c.inputs → Allows (p i) (b i)) → (k : ℕ) → k < signals c → Bounded k
    holds allows = each_signal c sound Bounded
        (λ i h. (
          rw (implied_in i h, ideal_in c sound b i h) (allows i h),
          omega (arith, settle_in c sound b s i h, bound_in i h),
        ))
        (λ k h x y.
        let g = gate c k in
        let one = one_controls g (implied_bit c p g.one) (ideal c b g.one) x.0 in
        let two = two_controls g (implied_bit c p g.two) (ideal c b g.two) y.0 in (
          rw (implied_at k h, ideal_at c sound b k h) (output_allows g.table _ _ _ _ x.0 y.0),
          rw (settle_at c sound b s k h, bound_at k h)
              (less _ _ _ _ one two _ _ _ _ g.greatest_one g.greatest_two x.1 y.1),
        ))

    exact : (k : ℕ) → k < signals c → ((i : ℕ) (q : Steps) → Leads c i q k → p i ≡ Some (b i)) → Exact k
    unfolding Leads
    exact = each_signal c sound (λ k. ((i : ℕ) (q : Steps) → Leads c i q k → p i ≡ Some (b i)) → Exact k)
        (λ i h known. (
          implied_in i h ∙ known i [] (refl, h) ∙ ap Some (sym (ideal_in c sound b i h)),
          bound_in i h ∙ sym (settle_in c sound b s i h),
        ))
        (λ k h x y known.
        let left = x (λ i q leads. known i ((k, false) ∷ q) (refl, h, leads)) in
        let right = y (λ i q leads. known i ((k, true) ∷ q) (refl, h, leads)) in (
          rw (implied_at k h, left.0, right.0, ideal_at c sound b k h) refl,
          rw (bound_at k h, left.0, right.0, left.1, right.1, settle_at c sound b s k h) refl,
        ))

pub bounds_hold : BoundsHold
bounds_hold c p b s sound allows k h = holds c sound p s b allows k h

pub bounds_are_exact : BoundsAreExact
bounds_are_exact c p b s sound k h known = exact c sound p s b k h known

or_true : (x y : Bool) → x || y ≡ true → (x ≡ true) ⊎ (y ≡ true)
or_true true y h = inl refl
or_true false y h = inr h

or_false : (x y : Bool) → x || y ≡ false → (x ≡ false) × (y ≡ false)
or_false true y h = absurd (true≢false h)
or_false false y h = (refl, h)

clash : (x : Bool) → x ≡ true → not x ≡ true → ⊥
clash true h l = true≢false (sym l)
clash false h l = true≢false (sym h)

pub blocked_is_not_sensitized : BlockedIsNotSensitized
unfolding is_blocked Sensitizes Leads
blocked_is_not_sensitized c p b sound allows i k [] leads is through = true≢false (sym is)
blocked_is_not_sensitized c p b sound allows i k ((g, false) ∷ q) leads is through =
    let two : ℕ = (gate c g).two in
    let low : two < signals c = omega (arith, sound.before g leads.1) in
    let side = (bounds_hold c p b (λ i. 0) sound allows two low).0 in
    elim (or_true _ _ is) [
      | inl here ↦ clash _ (two_controls (gate c g) (implied_bit c p two) (ideal c b two) side here) through.0
      | inr before ↦ blocked_is_not_sensitized c p b sound allows i (gate c g).one q leads.2 before through.1
    ]
blocked_is_not_sensitized c p b sound allows i k ((g, true) ∷ q) leads is through =
    let one : ℕ = (gate c g).one in
    let low : one < signals c = omega (arith, sound.before g leads.1) in
    let side = (bounds_hold c p b (λ i. 0) sound allows one low).0 in
    elim (or_true _ _ is) [
      | inl here ↦ clash _ (one_controls (gate c g) (implied_bit c p one) (ideal c b one) side here) through.0
      | inr before ↦ blocked_is_not_sensitized c p b sound allows i (gate c g).two q leads.2 before through.1
    ]

pub open_is_sensitized : OpenIsSensitized
unfolding is_blocked Sensitizes Leads
open_is_sensitized c p b sound i k [] leads known is = tt
open_is_sensitized c p b sound i k ((g, false) ∷ q) leads known is =
    let two : ℕ = (gate c g).two in
    let low : two < signals c = omega (arith, sound.before g leads.1) in
    let side_known : (j : ℕ) (r : Steps) → Leads c j r two → p j ≡ Some (b j) =
    λ j r to. known j ((g, true) ∷ r) (leads.0, leads.1, to) in
    let side = (bounds_are_exact c p b (λ i. 0) sound two low side_known).0 in
    let both = or_false (is_always_controlling_two (gate c g) (implied_bit c p two)) (is_blocked c p q) is in
    let here = rw side at both.0 in
    let path_known : (j : ℕ) (r : Steps) → Leads c j r (gate c g).one → p j ≡ Some (b j) =
    λ j r to. known j ((g, false) ∷ r) (leads.0, leads.1, to) in
    (ap not here, open_is_sensitized c p b sound i (gate c g).one q leads.2 path_known both.1)
open_is_sensitized c p b sound i k ((g, true) ∷ q) leads known is =
    let one : ℕ = (gate c g).one in
    let low : one < signals c = omega (arith, sound.before g leads.1) in
    let side_known : (j : ℕ) (r : Steps) → Leads c j r one → p j ≡ Some (b j) =
    λ j r to. known j ((g, false) ∷ r) (leads.0, leads.1, to) in
    let side = (bounds_are_exact c p b (λ i. 0) sound one low side_known).0 in
    let both = or_false (is_always_controlling_one (gate c g) (implied_bit c p one)) (is_blocked c p q) is in
    let here = rw side at both.0 in
    let path_known : (j : ℕ) (r : Steps) → Leads c j r (gate c g).two → p j ≡ Some (b j) =
    λ j r to. known j ((g, true) ∷ r) (leads.0, leads.1, to) in
    (ap not here, open_is_sensitized c p b sound i (gate c g).two q leads.2 path_known both.1)
