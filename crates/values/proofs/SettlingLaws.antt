-- The windows by values.
use Rattle.std.proofs.Common.{◌≡◌, ℕ, ◌+◌, ◌-◌, ◌<◌, ◌≤◌, min, max, Bool, true, false, cond, not, [], ◌∷◌, length, refl, sym, ◌∙◌, ap₂, ◌⊎◌, inl, inr, arith}
use Rattle.std.proofs.lemmas.Bool.{cases_lt, true≢false}
use Rattle.circuit.specs.Gate.{output}
use Rattle.circuit.specs.declared.gate.Gate.{Gate}
use Rattle.circuit.specs.Circuit.{Circuit, gate, signals, Sound}
use Rattle.circuit.proofs.Signals.{all_in, all_at, each_signal}
use Rattle.drawing.specs.Drawing.{ideal}
use Rattle.drawing.proofs.IdealLaws.{ideal_in, ideal_at}
use Rattle.arrival.specs.declared.edge.Edge.TheVariants.{Late, Early}
use Rattle.arrival.specs.Arrival.{latest, earliest}
use Rattle.arrival.specs.Window.{Wave, Moves}
use Rattle.arrival.proofs.ArrivalLaws.{arrival_in, arrival_at}
use Rattle.path.specs.Path.{Steps, Leads, sum}
use Rattle.values.specs.FalsePath.{Sensitizes, SensitizedPathsCount}
use Rattle.values.specs.Settling.{is_controlling_one, is_controlling_two, settled_by, kept_by, gate_settle_time, gate_keep_time, settle_time, keep_time, SourcesShow, ControllingValues, SettledWindow, KeptWindow, WindowByValues, NoNarrower}

-- bits that are tested to be the same are
same : (x y : Bool) → cond x y (not y) ≡ true → x ≡ y
same true true h = refl
same true false h = sym h
same false true h = h
same false false h = refl

-- and bits that are the same are tested to be
found : (x y : Bool) → x ≡ y → cond x y (not y) ≡ true
found true y e = sym e
found false true e = e
found false false e = refl

-- with a controlling value at one input the output is the same for both bits of the other
by_one : (g : Gate) (a y z : Bool) → is_controlling_one g a ≡ true → output g.table a y ≡ output g.table a z
by_one g a false false h = refl
by_one g a false true h = same _ _ h
by_one g a true false h = sym (same _ _ h)
by_one g a true true h = refl

by_two : (g : Gate) (b y z : Bool) → is_controlling_two g b ≡ true → output g.table y b ≡ output g.table z b
by_two g b false false h = refl
by_two g b false true h = same _ _ h
by_two g b true false h = sym (same _ _ h)
by_two g b true true h = refl

pub controlling_values : ControllingValues
controlling_values g a = (
  (λ is y z. by_one g a y z is, λ all. found _ _ (all false true)),
  (λ is y z. by_two g a y z is, λ all. found _ _ (all false true)),
)

-- both greatest delays d and e have passed at t, and so have both inputs' times with them, p and q, or that of an input
-- that controls the gate
abbrev Reached : (one two : Bool) (p q d e t : ℕ) → Type 0
Reached one two p q d e t =
    (d ≤ t) × (e ≤ t) × (((p ≤ t) × (q ≤ t)) ⊎ (((one ≡ true) × (p ≤ t)) ⊎ ((two ≡ true) × (q ≤ t))))

reached : (one two : Bool) (p q d e t : ℕ) → d ≤ p → e ≤ q → settled_by one two p q d e ≤ t → Reached one two p q d e t
reached false false p q d e t a b h = (omega arith, omega arith, inl (omega arith, omega arith))
reached true false p q d e t a b h = (omega arith, omega arith, inr (inl (refl, omega arith)))
reached false true p q d e t a b h = (omega arith, omega arith, inr (inr (refl, omega arith)))
reached true true p q d e t a b h = elim (cases_lt t p) [
  | inl below ↦ (omega arith, omega arith, inr (inr (refl, omega arith)))
  | inr above ↦ (omega arith, omega arith, inr (inl (refl, omega arith)))
]

-- at t both inputs are still kept, or one that controls the gate
abbrev Held : (one two : Bool) (p q t : ℕ) → Type 0
Held one two p q t = ((t < p) × (t < q)) ⊎ (((one ≡ true) × (t < p)) ⊎ ((two ≡ true) × (t < q)))

held_still : (one two : Bool) (p q t : ℕ) → t < kept_by one two p q → Held one two p q t
held_still false false p q t h = inl (omega arith, omega arith)
held_still true false p q t h = inr (inl (refl, omega arith))
held_still false true p q t h = inr (inr (refl, omega arith))
held_still true true p q t h = elim (cases_lt t p) [
  | inl below ↦ inr (inl (refl, below))
  | inr above ↦ inr (inr (refl, omega arith))
]

-- what a gate makes of its inputs, where both are what they are to be, or one that controls it
settles : (g : Gate) (x y a b : Bool) (P Q : Type 0) → (P → x ≡ a) → (Q → y ≡ b) →
    (P × Q) ⊎ (((is_controlling_one g a ≡ true) × P) ⊎ ((is_controlling_two g b ≡ true) × Q)) →
    output g.table x y ≡ output g.table a b
settles g x y a b P Q p q (inl both) = ap₂ (output g.table) (p both.0) (q both.1)
settles g x y a b P Q p q (inr (inl one)) = ap₂ (output g.table) (p one.1) refl ∙ by_one g a y b one.0
settles g x y a b P Q p q (inr (inr two)) = ap₂ (output g.table) refl (q two.1) ∙ by_two g b x a two.0

no_later : (one two : Bool) (p q d e : ℕ) → d ≤ p → e ≤ q → settled_by one two p q d e ≤ max p q
no_later false two p q d e a b = omega arith
no_later true false p q d e a b = omega arith
no_later true true p q d e a b = omega arith

no_earlier : (one two : Bool) (p q : ℕ) → min p q ≤ kept_by one two p q
no_earlier false two p q = omega arith
no_earlier true two p q = omega arith

-- a gate that its second input does not control waits for its first, and the other way round
waits_one : (one two : Bool) (p q d e : ℕ) → not two ≡ true → p ≤ settled_by one two p q d e
waits_one true false p q d e is = omega arith
waits_one false false p q d e is = omega arith
waits_one one true p q d e is = absurd (true≢false (sym is))

waits_two : (one two : Bool) (p q d e : ℕ) → not one ≡ true → q ≤ settled_by one two p q d e
waits_two false true p q d e is = omega arith
waits_two false false p q d e is = omega arith
waits_two true two p q d e is = absurd (true≢false (sym is))

-- and one whose second input controls it does not wait for its first, and the other way round
pub follows_two : (one two : Bool) (p q d e : ℕ) → e ≤ q → two ≡ true → settled_by one two p q d e ≤ max d q
follows_two one two p q d e h is = rw is (omega arith)

pub follows_one : (one two : Bool) (p q d e : ℕ) → d ≤ p → one ≡ true → settled_by one two p q d e ≤ max p e
follows_one one two p q d e h is = rw is (omega arith)

module _ (g : Gate) (x y : Bool) (a b : ℕ) where
  pub gate_no_later : gate_settle_time g x y a b ≤ max (a + g.greatest_one) (b + g.greatest_two)
  gate_no_later = no_later (is_controlling_one g x) (is_controlling_two g y) _ _ _ _ (omega arith) (omega arith)

  pub gate_no_earlier : min (a + g.least_one) (b + g.least_two) ≤ gate_keep_time g x y a b
  gate_no_earlier = no_earlier (is_controlling_one g x) (is_controlling_two g y) _ _

  pub gate_follows_two : is_controlling_two g y ≡ true → gate_settle_time g x y a b ≤ max g.greatest_one (b + g.greatest_two)
  gate_follows_two is = follows_two (is_controlling_one g x) (is_controlling_two g y) _ _ _ _ (omega arith) is

  pub gate_follows_one : is_controlling_one g x ≡ true → gate_settle_time g x y a b ≤ max (a + g.greatest_one) g.greatest_two
  gate_follows_one is = follows_one (is_controlling_one g x) (is_controlling_two g y) _ _ _ _ (omega arith) is

  gate_waits_one : not (is_controlling_two g y) ≡ true → a + g.greatest_one ≤ gate_settle_time g x y a b
  gate_waits_one is = waits_one (is_controlling_one g x) (is_controlling_two g y) _ _ _ _ is

  gate_waits_two : not (is_controlling_one g x) ≡ true → b + g.greatest_two ≤ gate_settle_time g x y a b
  gate_waits_two is = waits_two (is_controlling_one g x) (is_controlling_two g y) _ _ _ _ is

module _ (c : Circuit) (sound : Sound c) (b : ℕ → Bool) (s : ℕ → ℕ) where
  -- what a rule makes of the bits and times at gate k's inputs
  abbrev pub at_gate : {A : Type 0} → (Gate → (x y : Bool) → (a b : ℕ) → A) → (ℕ → ℕ) → ℕ → A
  at_gate f times k =
      f (gate c k) (ideal c b (gate c k).one) (ideal c b (gate c k).two) (times (gate c k).one) (times (gate c k).two)

  -- and what holds of any gate, bits and times, of those
  pub fact_at : {P : Gate → (x y : Bool) → (a b : ℕ) → Type 0} → ((g : Gate) (x y : Bool) (a b : ℕ) → P g x y a b) →
      (times : ℕ → ℕ) (k : ℕ) →
      P (gate c k) (ideal c b (gate c k).one) (ideal c b (gate c k).two) (times (gate c k).one) (times (gate c k).two)
  fact_at f times k =
      f (gate c k) (ideal c b (gate c k).one) (ideal c b (gate c k).two) (times (gate c k).one) (times (gate c k).two)

  pub settle_in : (i : ℕ) → i < c.inputs → settle_time c b s i ≡ s i
  unfolding settle_time
  settle_in i h = all_in (λ _ g. gate_settle_time g (ideal c b g.one) (ideal c b g.two)) c sound s i h

  pub settle_at : (k : ℕ) → k < length c.gates →
      settle_time c b s (c.inputs + k) ≡ at_gate gate_settle_time (settle_time c b s) k
  unfolding settle_time
  settle_at k h = all_at (λ _ g. gate_settle_time g (ideal c b g.one) (ideal c b g.two)) c sound s k h

  pub keep_in : (i : ℕ) → i < c.inputs → keep_time c b s i ≡ s i
  unfolding keep_time
  keep_in i h = all_in (λ _ g. gate_keep_time g (ideal c b g.one) (ideal c b g.two)) c sound s i h

  pub keep_at : (k : ℕ) → k < length c.gates → keep_time c b s (c.inputs + k) ≡ at_gate gate_keep_time (keep_time c b s) k
  unfolding keep_time
  keep_at k h = all_at (λ _ g. gate_keep_time g (ideal c b g.one) (ideal c b g.two)) c sound s k h

  pub settle_no_later : (k : ℕ) → k < signals c → settle_time c b s k ≤ latest c s k
  settle_no_later = each_signal c sound (λ k. settle_time c b s k ≤ latest c s k)
      (λ i h. omega (arith, settle_in i h, arrival_in Late c sound s i h))
      (λ k h p q.
      let le = fact_at gate_no_later (settle_time c b s) k in
      rw (settle_at k h, arrival_at Late c sound s k h) (omega arith))

  pub keep_no_earlier : (k : ℕ) → k < signals c → earliest c s k ≤ keep_time c b s k
  keep_no_earlier = each_signal c sound (λ k. earliest c s k ≤ keep_time c b s k)
      (λ i h. omega (arith, keep_in i h, arrival_in Early c sound s i h))
      (λ k h p q.
      let le = fact_at gate_no_earlier (keep_time c b s) k in
      rw (keep_at k h, arrival_at Early c sound s k h) (omega arith))

  -- a signal is not settled before a change has come along a path that is sensitized
  pub waits : (p : Steps) (i k : ℕ) → Leads c i p k → Sensitizes c b p → s i + sum Late c p ≤ settle_time c b s k
  unfolding Leads Sensitizes sum
  waits [] i k leads through = rw leads.0 (omega (arith, settle_in i leads.1))
  waits ((g, false) ∷ p) i k leads through =
      let le = waits p i (gate c g).one leads.2 through.1 in
      let w = fact_at gate_waits_one (settle_time c b s) g through.0 in
      rw (leads.0, settle_at g leads.1) (omega arith)
  waits ((g, true) ∷ p) i k leads through =
      let le = waits p i (gate c g).two leads.2 through.1 in
      let w = fact_at gate_waits_two (settle_time c b s) g through.0 in
      rw (leads.0, settle_at g leads.1) (omega arith)

pub no_narrower : NoNarrower
no_narrower c b s sound k h = (settle_no_later c sound b s k h, keep_no_earlier c sound b s k h)

pub sensitized_paths_count : SensitizedPathsCount
sensitized_paths_count c b s sound i p k leads through = waits c sound b s p i k leads through

module _ (c : Circuit) (w : ℕ → Wave) (b : ℕ → Bool) (L E : ℕ → ℕ) (sound : Sound c) (moves : Moves c w)
    (shown : SourcesShow c w b L E) where
  settled : (k : ℕ) → k < signals c → (t : ℕ) → settle_time c b L k ≤ t → t < earliest c E k → w k t ≡ ideal c b k
  settled = each_signal c sound (λ k. (t : ℕ) → settle_time c b L k ≤ t → t < earliest c E k → w k t ≡ ideal c b k)
      (λ i h t a z.
      shown i t h (rw (settle_in c sound b L i h) at a) (rw (arrival_in Early c sound E i h) at z)
      ∙ sym (ideal_in c sound b i h))
      (λ k h p q t a z.
      let g = gate c k in
      let z' = rw (arrival_at Early c sound E k h) at z in
      let one : Bool = is_controlling_one g (ideal c b g.one) in
      let two : Bool = is_controlling_two g (ideal c b g.two) in
      let r = reached one two _ _ _ _ t (omega arith) (omega arith) (rw (settle_at c sound b L k h) at a) in
      let f = moves k t h r.0 r.1 in
      let seen : Bool = output g.table (w g.one (t - f.delay_one)) (w g.two (t - f.delay_two)) in
      let made : seen ≡ output g.table (ideal c b g.one) (ideal c b g.two) =
      settles g _ _ _ _ _ _ (λ one_in. p _ (omega (arith, f.one_greatest)) (omega (arith, f.one_least)))
      (λ two_in. q _ (omega (arith, f.two_greatest)) (omega (arith, f.two_least))) r.2 in
      f.is ∙ made ∙ sym (ideal_at c sound b k h))

  kept : (k : ℕ) → k < signals c → (t : ℕ) → latest c L k ≤ t → t < keep_time c b E k → w k t ≡ ideal c b k
  kept = each_signal c sound (λ k. (t : ℕ) → latest c L k ≤ t → t < keep_time c b E k → w k t ≡ ideal c b k)
      (λ i h t a z.
      shown i t h (rw (arrival_in Late c sound L i h) at a) (rw (keep_in c sound b E i h) at z)
      ∙ sym (ideal_in c sound b i h))
      (λ k h p q t a z.
      let g = gate c k in
      let a' = rw (arrival_at Late c sound L k h) at a in
      let one : Bool = is_controlling_one g (ideal c b g.one) in
      let two : Bool = is_controlling_two g (ideal c b g.two) in
      let r = held_still one two _ _ t (rw (keep_at c sound b E k h) at z) in
      let f = moves k t h (omega arith) (omega arith) in
      let seen : Bool = output g.table (w g.one (t - f.delay_one)) (w g.two (t - f.delay_two)) in
      let made : seen ≡ output g.table (ideal c b g.one) (ideal c b g.two) =
      settles g _ _ _ _ _ _ (λ one_in. p _ (omega (arith, f.one_greatest)) (omega (arith, f.one_least)))
      (λ two_in. q _ (omega (arith, f.two_greatest)) (omega (arith, f.two_least))) r in
      f.is ∙ made ∙ sym (ideal_at c sound b k h))

pub settled_window : SettledWindow
settled_window c w b L E sound moves shown k t h a z = settled c w b L E sound moves shown k h t a z

pub kept_window : KeptWindow
kept_window c w b L E sound moves shown k t h a z = kept c w b L E sound moves shown k h t a z

pub window_by_values : WindowByValues
window_by_values c w b L E sound moves shown k t h in_order a z =
    elim (cases_lt t (earliest c E k)) [
      | inl before ↦ settled_window c w b L E sound moves shown k t h a before
      | inr after ↦ kept_window c w b L E sound moves shown k t h (omega arith) z
    ]
