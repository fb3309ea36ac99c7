-- The fan-in cone of a signal, and what is mapped along its paths.
use Rattle.std.proofs.Common.{◌≡◌, ℕ, ◌+◌, ◌-◌, ◌<◌, Bool, true, false, [], ◌∷◌, ◌++◌, length, sym, refl, ap, ◌∙◌, inl, inr, arith}
use Rattle.std.proofs.lemmas.Bool.{cases_Bool, cases_lt}
use Rattle.std.proofs.lemmas.List.{append_assoc}
use Rattle.circuit.specs.declared.gate.Gate.{Gate}
use Rattle.circuit.specs.Circuit.{Circuit, gate, signals, Sound}
use Rattle.circuit.proofs.Signals.{each_signal}
use Rattle.arrival.specs.declared.edge.Edge.{Edge}
use Rattle.arrival.specs.declared.edge.Edge.TheVariants.{Late, Early}
use Rattle.arrival.specs.Arrival.{delay, arrival}
use Rattle.arrival.proofs.ArrivalLaws.{arrival_in, arrival_at}
use Rattle.path.specs.Path.{Steps, input, Leads, sum, by_second, told}
use Rattle.path.proofs.Telling.{told_is_first, told_in, told_at}
use Rattle.cone.specs.Cone.{InCone, IsMappedGate, MapsCone, MapsTimes, mapped, ConeIsClosed, ConeTimes, ConePaths, ConeToldPaths, SameConeIsMapped}

-- a path leads to one signal
pub ends : (c : Circuit) (i : ℕ) (p : Steps) (k l : ℕ) → Leads c i p k → Leads c i p l → k ≡ l
unfolding Leads
ends c i [] k l a b = a.0 ∙ sym b.0
ends c i ((g, t) ∷ p) k l a b = a.0 ∙ sym b.0

-- its older part may be any other path to the same signal
swapped : (c : Circuit) (i : ℕ) (q p : Steps) (k to : ℕ) → Leads c i p k → Leads c i (q ++ p) to → (j : ℕ) (r : Steps) → Leads c j r k → Leads c j (q ++ r) to
unfolding Leads
swapped c i [] p k to a b j r d = rw (ends c i p to k b a) d
swapped c i ((g, t) ∷ q) p k to a b j r d = (b.0, b.1, swapped c i q p k (input t (gate c g)) a b.2 j r d)

step_on : (c : Circuit) (i : ℕ) (p : Steps) (k : ℕ) (second : Bool) → k < length c.gates → Leads c i p (input second (gate c k)) → Leads c i ((k, second) ∷ p) (c.inputs + k)
unfolding Leads
step_on c i p k second h l = (refl, h, l)

before : (c : Circuit) → Sound c → (k : ℕ) (second : Bool) → k < length c.gates → input second (gate c k) < signals c
before c sound k false h = omega (arith, (sound.before k h).0)
before c sound k true h = omega (arith, (sound.before k h).1)

pub closed : ConeIsClosed
closed c to sound inside = (
  (let t = told_is_first Late c (λ i. i) to sound inside in (_, [], _, t.leads, t.leads)),
  λ k second h on.
      let t = told_is_first Late c (λ i. i) (input second (gate c k)) sound (before c sound k second h) in
      let newer : Steps = on.1 in
      let older = (told Late c (λ i. i) (input second (gate c k))).1 in
      let whole = swapped c on.0 newer on.2 (c.inputs + k) to on.3 on.4 _ ((k, second) ∷ older) (step_on c _ older k second h t.leads) in
      (_, newer ++ ((k, second) ∷ []), older, t.leads, rw (append_assoc newer ((k, second) ∷ []) older) whole),
)

same_delay : (e : Edge) (f : ℕ → ℕ) (g h : Gate) (second : Bool) → IsMappedGate f g h → delay e second g ≡ delay e second h
same_delay Late f g h false same = same.greatest_one
same_delay Late f g h true same = same.greatest_two
same_delay Early f g h false same = same.least_one
same_delay Early f g h true same = same.least_two

same_input : (f : ℕ → ℕ) (g h : Gate) (second : Bool) → IsMappedGate f g h → f (input second g) ≡ input second h
same_input f g h false same = same.one
same_input f g h true same = same.two

-- whatever a path leads to is a signal
leads_inside : (c : Circuit) (i : ℕ) (p : Steps) (k : ℕ) → Leads c i p k → k < signals c
unfolding Leads
leads_inside c i [] k l = omega (arith, l.0, l.1)
leads_inside c i ((g, t) ∷ p) k l = omega (arith, l.0, l.1)

on_inside : (c : Circuit) (to k : ℕ) → InCone c to k → to < signals c
on_inside c to k on = leads_inside c on.0 (on.1 ++ on.2) to on.4

on_input : (c : Circuit) → Sound c → (to k : ℕ) (second : Bool) → k < length c.gates → InCone c to (c.inputs + k) → InCone c to (input second (gate c k))
on_input c sound to k second h on = (closed c to sound (on_inside c to _ on)).1 k second h on

module _ (f : ℕ → ℕ) (a b : Circuit) (to : ℕ) (sound_a : Sound a) (sound_b : Sound b) (carries : MapsCone f a b to) where
  module _ (e : Edge) (s u : ℕ → ℕ) (same : MapsTimes f a to s u) where
    times : (k : ℕ) → k < signals a → InCone a to k → arrival e a s k ≡ arrival e b u (f k)
    times = each_signal a sound_a (λ k. InCone a to k → arrival e a s k ≡ arrival e b u (f k))
        (λ i h on. arrival_in e a sound_a s i h ∙ same i h on ∙ sym (arrival_in e b sound_b u (f i) (carries.sources i h on)))
        (λ k h p q on.
        let (j, is, l, g) = carries.gates k h on in
        let one = p (on_input a sound_a to k false h on) in
        let two = q (on_input a sound_a to k true h on) in
        rw (is, arrival_at e a sound_a s k h, arrival_at e b sound_b u j l, one, two, g.one, g.two, same_delay e f (gate a k) (gate b j) false g, same_delay e f (gate a k) (gate b j) true g))

    abbrev ToldMapped : ℕ → Type 0
    ToldMapped k = ((told e b u (f k)).0 ≡ f (told e a s k).0) × ((told e b u (f k)).1 ≡ mapped f a b (told e a s k).1)

    told_gate : (k : ℕ) → k < length a.gates → InCone a to (a.inputs + k) → ToldMapped (gate a k).one → ToldMapped (gate a k).two → ToldMapped (a.inputs + k)
    told_gate k h on p q =
        let (j, is, l, g) = carries.gates k h on in
        let on_one = on_input a sound_a to k false h on in
        let on_two = on_input a sound_a to k true h on in
        let one : arrival e a s (gate a k).one + delay e false (gate a k) ≡ arrival e b u (gate b j).one + delay e false (gate b j) = rw (times (gate a k).one (before a sound_a k false h) on_one, g.one, same_delay e f (gate a k) (gate b j) false g) in
        let two : arrival e a s (gate a k).two + delay e true (gate a k) ≡ arrival e b u (gate b j).two + delay e true (gate b j) = rw (times (gate a k).two (before a sound_a k true h) on_two, g.two, same_delay e f (gate a k) (gate b j) true g) in
        let back : f (a.inputs + k) - b.inputs ≡ j = omega arith in
        elim (cases_Bool (by_second e (arrival e b u (gate b j).one + delay e false (gate b j)) (arrival e b u (gate b j).two + delay e true (gate b j)))) [
          | inl t ↦ rw (told_at e a sound_a s k h, one, two, t, back, is, told_at e b sound_b u j l, t) (rw g.two at q.0, ap (λ x. (j, true) ∷ x) (rw g.two at q.1))
          | inr t ↦ rw (told_at e a sound_a s k h, one, two, t, back, is, told_at e b sound_b u j l, t) (rw g.one at p.0, ap (λ x. (j, false) ∷ x) (rw g.one at p.1))
        ]

    tolds : (k : ℕ) → k < signals a → InCone a to k → ToldMapped k
    tolds = each_signal a sound_a (λ k. InCone a to k → ToldMapped k)
        (λ i h on. rw (told_in e a sound_a s i h, told_in e b sound_b u (f i) (carries.sources i h on)) (refl, refl))
        (λ k h p q on. told_gate k h on (p (on_input a sound_a to k false h on)) (q (on_input a sound_a to k true h on)))

  -- a path is mapped to a path
  forth : (i : ℕ) (p : Steps) (k : ℕ) → InCone a to k → Leads a i p k → Leads b (f i) (mapped f a b p) (f k)
  unfolding Leads
  forth i [] k on l = (ap f l.0, carries.sources i l.1 (rw l.0 at on))
  forth i ((g, t) ∷ p) k on l =
      let on' = rw l.0 at on in
      let (j, is, inside, same) = carries.gates g l.1 on' in
      let back : f (a.inputs + g) - b.inputs ≡ j = omega arith in
      let older = forth i p (input t (gate a g)) (on_input a sound_a to g t l.1 on') l.2 in
      rw (back, l.0) (is, inside, rw (same_input f (gate a g) (gate b j) t same) at older)

  sums : (e : Edge) (i : ℕ) (p : Steps) (k : ℕ) → InCone a to k → Leads a i p k → sum e a p ≡ sum e b (mapped f a b p)
  unfolding Leads sum
  sums e i [] k on l = refl
  sums e i ((g, t) ∷ p) k on l =
      let on' = rw l.0 at on in
      let (j, is, inside, same) = carries.gates g l.1 on' in
      let back : f (a.inputs + g) - b.inputs ≡ j = omega arith in
      rw (back, same_delay e f (gate a g) (gate b j) t same, sums e i p (input t (gate a g)) (on_input a sound_a to g t l.1 on') l.2)

  -- and no other path leads to what is mapped
  forced : (j : ℕ) (q : Steps) (k : ℕ) → k < signals a → InCone a to k → Leads b j q (f k) → (i : ℕ) × (p : Steps) × Leads a i p k × (j ≡ f i) × (q ≡ mapped f a b p)
  unfolding Leads
  forced j [] k h on l = elim (cases_lt k a.inputs) [
    | inl low ↦ (k, [], (refl, low), sym l.0, refl)
    | inr high ↦
        let m : ℕ = k - a.inputs in
        let e : k ≡ a.inputs + m = omega arith in
        let (n, is, inside, same) = carries.gates m (omega arith) (rw e at on) in
        absurd (omega (arith, l.0, l.1, is, ap f e))
  ]
  forced j ((g, t) ∷ q) k h on l = elim (cases_lt k a.inputs) [
    | inl low ↦ absurd (omega (arith, l.0, carries.sources k low on))
    | inr high ↦
        let m : ℕ = k - a.inputs in
        let e : k ≡ a.inputs + m = omega arith in
        let inside_m : m < length a.gates = omega arith in
        let on' = rw e at on in
        let (n, is, inside, same) = carries.gates m inside_m on' in
        let n_is : g ≡ n = omega (arith, l.0, is, ap f e) in
        let older : Leads b j q (f (input t (gate a m))) = rw (same_input f (gate a m) (gate b n) t same) (rw n_is at l.2) in
        let (i, p, leads, i_is, p_is) = forced j q (input t (gate a m)) (before a sound_a m t inside_m) (on_input a sound_a to m t inside_m on') older in
        let back : f (a.inputs + m) - b.inputs ≡ g = omega arith in
        (i, (m, t) ∷ p, (e, inside_m, leads), i_is, rw (back, ← p_is))
  ]

pub cone_times : ConeTimes
cone_times e f a b s u to sound_a sound_b carries same = times f a b to sound_a sound_b carries e s u same

pub cone_told : ConeToldPaths
cone_told e f a b s u to sound_a sound_b carries same = tolds f a b to sound_a sound_b carries e s u same

pub cone_paths : ConePaths
cone_paths f a b to sound_a sound_b carries k h on = (
  λ i p l. (forth f a b to sound_a sound_b carries i p k on l, λ e. sums f a b to sound_a sound_b carries e i p k on l),
  λ j q l. forced f a b to sound_a sound_b carries j q k h on l,
)

pub same_cone : SameConeIsMapped
same_cone a b to same = record {
  sources = λ i h on. omega (arith, same.0);
  gates = λ k h on. let (inside, gate_same) = same.1 k h on in (k, ap (λ x. x + k) same.0, inside, gate_same);
}

-- with one numbering a path is mapped to itself
pub mapped_same : (a b : Circuit) (p : Steps) → a.inputs ≡ b.inputs → mapped (λ i. i) a b p ≡ p
mapped_same a b [] same = refl
mapped_same a b ((g, t) ∷ p) same = let e : a.inputs + g - b.inputs ≡ g = omega arith in rw (e, mapped_same a b p same)
