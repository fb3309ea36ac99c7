-- The first paths to each signal, by one pass over the gates, and those that end at registers.
use Rattle.std.proofs.Common.{◌≡◌, ℕ, zero, suc, ◌+◌, ◌-◌, ◌<◌, ◌≤◌, Bool, true, false, ◌⊎◌, [], ◌∷◌, length, map, sym, refl, ap, ◌∙◌, inl, inr, arith, ◌<ℤ◌}
use Rattle.std.proofs.lemmas.Bool.{cases_lt, ltb-true, ltb-false}
use Rattle.std.proofs.lemmas.Int.{ints}
use Rattle.circuit.specs.Circuit.{Circuit, gate, signals, Sound}
use Rattle.circuit.proofs.Signals.{all_in, all_at, each_signal}
use Rattle.arrival.specs.declared.edge.Edge.{Edge}
use Rattle.arrival.specs.declared.edge.Edge.TheVariants.{Late, Early}
use Rattle.arrival.specs.Arrival.{delay}
use Rattle.path.specs.Path.{Steps, input, Leads, sum, by_second}
use Rattle.promise.specs.Machine.{Machine, Formed}
use Rattle.worst_paths.specs.WorstPaths.{RegisterPath, IsPath, launch_time, slack_of, Precedes, IsBefore, WorstPaths}
use Rattle.worst_paths.specs.Merge.{merge}
use Rattle.worst_paths.specs.FirstPaths.{SignalPath, extended, time, second, at_gate, first_paths, capture_clock, shifted_arrival, ending_at, second_is_worse, register_paths}
use Rattle.worst_paths.proofs.Firsts.{Firsts, Same, Image, merged, firsts_same, firsts_map, firsts_are}
use Rattle.worst_paths.proofs.Order.{precedes_anti, precedes_chain, order_anti, order_chain, path_from}

-- a is later, or for earliest times earlier, than b
abbrev pub Worse : Edge → ℕ → ℕ → Type 0
Worse Late a b = b < a
Worse Early a b = a < b

pub by_second_says : (e : Edge) (a b : ℕ) → (by_second e a b ≡ false → Worse e a b ⊎ (a ≡ b)) × (by_second e a b ≡ true → Worse e b a)
by_second_says Late a b = (
  λ t. let h = ltb-false a b t in elim (cases_lt b a) [ inl l ↦ inl l | inr g ↦ inr (omega arith) ],
  λ t. ltb-true a b t,
)
by_second_says Early a b = (
  λ t. let h = ltb-false b a t in elim (cases_lt a b) [ inl l ↦ inl l | inr g ↦ inr (omega arith) ],
  λ t. ltb-true b a t,
)

worse_add : (e : Edge) (d a b : ℕ) → Worse e a b → Worse e (d + a) (d + b)
worse_add Late d a b h = omega arith
worse_add Early d a b h = omega arith

worse_chain : (e : Edge) (a b c : ℕ) → Worse e a b → Worse e b c → Worse e a c
worse_chain Late a b c h l = omega arith
worse_chain Early a b c h l = omega arith

worse_irr : (e : Edge) (a b : ℕ) → a ≡ b → Worse e a b → ⊥
worse_irr Late a b s h = omega arith
worse_irr Early a b s h = omega arith

module _ (e : Edge) (c : Circuit) (s : ℕ → ℕ) where
  abbrev t : SignalPath → ℕ
  t = time e c s

  -- the order of paths to one signal
  abbrev pub Before : SignalPath → SignalPath → Type 0
  Before x y = Worse e (t x) (t y) ⊎ ((t x ≡ t y) × Precedes x.1 y.1)

  abbrev pub To : ℕ → SignalPath → Type 0
  To j x = Leads c x.0 x.1 j

  before_irr : (x : SignalPath) → Before x x → ⊥
  before_irr x (inl h) = worse_irr e (t x) (t x) refl h
  before_irr x (inr h) = precedes_anti x.1 x.1 h.1 h.1

  before_chain : (x y z : SignalPath) → Before x y → Before y z → Before x z
  before_chain x y z (inl h) (inl l) = inl (worse_chain e _ _ _ h l)
  before_chain x y z (inl h) (inr l) = let q = l.0 in inl (rw q at h)
  before_chain x y z (inr h) (inl l) = let q = h.0 in inl (rw (← q) at l)
  before_chain x y z (inr h) (inr l) = inr (h.0 ∙ l.0, precedes_chain x.1 y.1 z.1 h.1 l.1)

  time_beyond : (g : ℕ) (b : Bool) (x : SignalPath) → t (extended g b x) ≡ delay e b (gate c g) + t x
  unfolding sum
  time_beyond g b x = omega arith

  keeps : (g : ℕ) (b : Bool) (x y : SignalPath) → Before x y → Before (extended g b x) (extended g b y)
  unfolding Precedes
  keeps g b x y (inl h) = inl (rw (time_beyond g b x, time_beyond g b y) (worse_add e _ _ _ h))
  keeps g b x y (inr h) = inr (time_beyond g b x ∙ ap (λ t. delay e b (gate c g) + t) h.0 ∙ sym (time_beyond g b y), inr (refl, h.1))

  parts : (g : ℕ) (x y : SignalPath) → (second e c s (extended g false x) (extended g true y) ≡ false → Before (extended g false x) (extended g true y)) × (second e c s (extended g false x) (extended g true y) ≡ true → Before (extended g true y) (extended g false x))
  unfolding Precedes
  parts g x y =
      let law = by_second_says e (t (extended g false x)) (t (extended g true y)) in
      (λ t. elim (law.0 t) [ inl w ↦ inl w | inr q ↦ inr (q, inl (refl, refl)) ], λ t. inl (law.1 t))

  from_source : (i : ℕ) → i < c.inputs → (x : SignalPath) → To i x → x ≡ (i, [])
  unfolding Leads
  from_source i h x l = go x.0 x.1 l
    where
      go : (j : ℕ) (p : Steps) → Leads c j p i → ◌≡◌ {A = SignalPath} (j, p) (i, [])
      go j [] l = let q : j ≡ i = sym l.0 in rw q
      go j ((g, b) ∷ p) l = absurd (omega (arith, l.0))

  source_first : (k i : ℕ) → i < c.inputs → Firsts Before (To i) (suc k) ((i, []) ∷ [])
  unfolding Firsts Leads
  source_first k i h = ((refl, h), λ w l. inl (from_source i h w l), none k)
    where
      none : (k : ℕ) → Firsts Before (λ w. To i w × Before (i, []) w) k []
      none zero = refl
      none (suc k) = λ w l. before_irr (i, []) (rw (from_source i h w l.0) at l.1)

  -- the paths to a gate's signal are those to its inputs, with one step more
  to_gate : (g : ℕ) → g < length c.gates →
      Same (λ w. Image (extended g false) (To (gate c g).one) w ⊎ Image (extended g true) (To (gate c g).two) w) (To (c.inputs + g))
  unfolding Leads
  to_gate g h w = (
    λ z. elim z [ inl i ↦ let q = i.2 in rw q (into false i.0 i.1) | inr i ↦ let q = i.2 in rw q (into true i.0 i.1) ],
    λ l. out w.0 w.1 l,
  )
    where
      into : (b : Bool) (x : SignalPath) → To (input b (gate c g)) x → To (c.inputs + g) (extended g b x)
      into b x l = (refl, h, l)

      out : (j : ℕ) (p : Steps) → Leads c j p (c.inputs + g) → Image (extended g false) (To (gate c g).one) (j, p) ⊎ Image (extended g true) (To (gate c g).two) (j, p)
      out j [] l = absurd (omega (arith, l.0, l.1))
      out j ((f, false) ∷ p) l = let same : f ≡ g = omega (arith, l.0) in inl ((j, p), rw same at l.2, rw same)
      out j ((f, true) ∷ p) l = let same : f ≡ g = omega (arith, l.0) in inr ((j, p), rw same at l.2, rw same)

  module _ (sound : Sound c) where
    pub first_paths_in : (k i : ℕ) → i < c.inputs → first_paths e c s k i ≡ (i, []) ∷ []
    unfolding first_paths
    first_paths_in k = all_in (at_gate e c s k) c sound (λ i. (i, []) ∷ [])

    pub first_paths_at : (k g : ℕ) → g < length c.gates → first_paths e c s k (c.inputs + g)
        ≡ merge (second e c s) k (map (extended g false) (first_paths e c s k (gate c g).one)) (map (extended g true) (first_paths e c s k (gate c g).two))
    unfolding first_paths
    first_paths_at k g h = let n : c.inputs + g - c.inputs ≡ g = omega arith in rw n at (all_at (at_gate e c s k) c sound (λ i. (i, []) ∷ []) g h)

    pub first_paths_first : (k j : ℕ) → j < signals c → Firsts Before (To j) (suc k) (first_paths e c s (suc k) j)
    first_paths_first k = each_signal c sound (λ j. Firsts Before (To j) (suc k) (first_paths e c s (suc k) j))
        (λ i h. rw (first_paths_in (suc k) i h) (source_first k i h))
        (λ g h a b. rw (first_paths_at (suc k) g h)
        (firsts_same Before _ (To (c.inputs + g)) (suc k) _ (to_gate g h)
        (merged Before (second e c s) before_chain (Image (extended g false) (To (gate c g).one)) (Image (extended g true) (To (gate c g).two)) (suc k) (suc k) (suc k) _ _
        (omega arith) (omega arith)
        (λ x y p q. let u = p.2 in let v = q.2 in rw (u, v) (parts g p.0 q.0))
        (firsts_map Before Before (extended g false) (To (gate c g).one) (suc k) _ before_irr (λ x y p q. keeps g false x y) a)
        (firsts_map Before Before (extended g true) (To (gate c g).two) (suc k) _ before_irr (λ x y p q. keeps g true x y) b))))

-- paths that end at registers below r
abbrev pub Below : Machine → ℕ → RegisterPath → Type 0
Below m r w = IsPath m w × (w.register < r)

smaller : (e : Edge) (m : Machine) (bound : ℕ) (a b : RegisterPath) → capture_clock e m a.register ≤ bound → capture_clock e m b.register ≤ bound →
    Worse e (shifted_arrival e m bound a) (shifted_arrival e m bound b) → slack_of e m a <ℤ slack_of e m b
smaller Late m bound a b x y h = omega (arith, ints)
smaller Early m bound a b x y h = omega (arith, ints)

equal : (e : Edge) (m : Machine) (bound : ℕ) (a b : RegisterPath) → capture_clock e m a.register ≤ bound → capture_clock e m b.register ≤ bound →
    shifted_arrival e m bound a ≡ shifted_arrival e m bound b → slack_of e m a ≡ slack_of e m b
equal Late m bound a b x y h = omega (arith, ints)
equal Early m bound a b x y h = omega (arith, ints)

less : (e : Edge) (m : Machine) (r : ℕ) (x y : SignalPath) → Worse e (time e m.circuit (launch_time e m) x) (time e m.circuit (launch_time e m) y) →
    slack_of e m (ending_at r x) <ℤ slack_of e m (ending_at r y)
less Late m r x y h = omega (arith, ints)
less Early m r x y h = omega (arith, ints)

alike : (e : Edge) (m : Machine) (r : ℕ) (x y : SignalPath) → time e m.circuit (launch_time e m) x ≡ time e m.circuit (launch_time e m) y →
    slack_of e m (ending_at r x) ≡ slack_of e m (ending_at r y)
alike Late m r x y h = omega (arith, ints)
alike Early m r x y h = omega (arith, ints)

module _ (e : Edge) (m : Machine) (bound : ℕ) (formed : Formed m) (within : (r : ℕ) → r < m.registers → capture_clock e m r ≤ bound) where
  ends : (r : ℕ) (x y : SignalPath) → Before e m.circuit (launch_time e m) x y → IsBefore e m (ending_at r x) (ending_at r y)
  ends r x y (inl h) = inl (less e m r x y h)
  ends r x y (inr h) = inr (alike e m r x y h.0, inr (refl, h.1))

  by_shifted : (r : ℕ) (a b : RegisterPath) → Below m r a → b.register ≡ r → r < m.registers →
      (second_is_worse e m bound a b ≡ false → IsBefore e m a b) × (second_is_worse e m bound a b ≡ true → IsBefore e m b a)
  by_shifted r a b p q h =
      let law = by_second_says e (shifted_arrival e m bound a) (shifted_arrival e m bound b) in
      let la : capture_clock e m a.register ≤ bound = within a.register p.0.0 in
      let lb : capture_clock e m b.register ≤ bound = rw q (within r h) in (
        λ t. elim (law.0 t) [ inl w ↦ inl (smaller e m bound a b la lb w) | inr s ↦ inr (equal e m bound a b la lb s, inl (omega (arith, p.1))) ],
        λ t. inl (smaller e m bound b a lb la (law.1 t)),
      )

  -- a path that ends at a register below r + 1 ends below r, or at r
  to_register : (r : ℕ) → r < m.registers → Same (λ w. Below m r w ⊎ Image (ending_at r) (To e m.circuit (launch_time e m) (m.takes r)) w) (Below m (suc r))
  to_register r h w = (
    λ z. elim z [ inl b ↦ (b.0, omega (arith, b.1)) | inr i ↦ let q = i.2 in rw q ((h, i.1), omega arith) ],
    λ b. elim (cases_lt w.register r) [
      | inl l ↦ inl (b.0, l)
      | inr g ↦
          let same : w.register ≡ r = omega (arith, b.1) in
          inr ((w.source, w.steps), rw same at b.0.1, ap (λ q. path_from q w.source w.steps) same)
    ],
  )

  pub register_paths_first : (k r : ℕ) → r ≤ m.registers → Firsts (IsBefore e m) (Below m r) (suc k) (register_paths e m bound (suc k) r)
  unfolding register_paths Firsts
  register_paths_first k zero h = λ w b. omega (arith, b.1)
  register_paths_first k (suc r) h =
      firsts_same (IsBefore e m) _ (Below m (suc r)) (suc k) _ (to_register r (omega arith))
      (merged (IsBefore e m) (second_is_worse e m bound) (order_chain e m) (Below m r) (Image (ending_at r) (To e m.circuit (launch_time e m) (m.takes r))) (suc k) (suc k) (suc k) _ _
      (omega arith) (omega arith)
      (λ x y p q. by_shifted r x y p (let u = q.2 in rw u refl) (omega arith))
      (register_paths_first k r (omega arith))
      (firsts_map (Before e m.circuit (launch_time e m)) (IsBefore e m) (ending_at r) (To e m.circuit (launch_time e m) (m.takes r)) (suc k) _ (λ w c. order_anti e m w w c c) (λ x y p q. ends r x y)
      (first_paths_first e m.circuit (launch_time e m) formed.sound k (m.takes r) (formed.taken r (omega arith)))))

  -- THE PASS FINDS the worst paths
  pub register_paths_are_worst : (k : ℕ) → WorstPaths e m (suc k) (register_paths e m bound (suc k) m.registers)
  register_paths_are_worst k =
      firsts_are (IsBefore e m) (IsPath m) (suc k) _
      (firsts_same (IsBefore e m) (Below m m.registers) (IsPath m) (suc k) _ (λ w. (λ b. b.0, λ p. (p, p.0))) (register_paths_first k m.registers (omega arith)))
