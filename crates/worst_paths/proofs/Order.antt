-- The order of paths: of two one comes first.
use Rattle.std.proofs.Common.{◌≡◌, ℕ, Bool, true, false, ◌⊎◌, [], ◌∷◌, sym, refl, ◌∙◌, inl, inr, arith}
use Rattle.std.proofs.lemmas.Bool.{cases_lt}
use Rattle.std.proofs.lemmas.Int.{ints, by_lt_z}
use Rattle.circuit.specs.Circuit.{Circuit, gate}
use Rattle.arrival.specs.declared.edge.Edge.{Edge}
use Rattle.path.specs.Path.{Steps, Leads}
use Rattle.promise.specs.Machine.{Machine}
use Rattle.worst_paths.specs.WorstPaths.{RegisterPath, IsPath, slack_of, Precedes, IsBefore, OrderIsTotal, OneList}
use Rattle.worst_paths.proofs.Firsts.{firsts_one, firsts_of}

no_both : {b : Bool} → b ≡ false → b ≡ true → ⊥
no_both f t = cc

pub precedes_anti : (p q : Steps) → Precedes p q → Precedes q p → ⊥
unfolding Precedes
precedes_anti [] q a b = a
precedes_anti (x ∷ p) [] a b = a
precedes_anti (x ∷ p) (y ∷ q) (inl a) (inl b) = no_both a.0 b.1
precedes_anti (x ∷ p) (y ∷ q) (inl a) (inr b) = no_both a.0 (sym b.0 ∙ a.1)
precedes_anti (x ∷ p) (y ∷ q) (inr a) (inl b) = no_both b.0 (sym a.0 ∙ b.1)
precedes_anti (x ∷ p) (y ∷ q) (inr a) (inr b) = precedes_anti p q a.1 b.1

pub precedes_chain : (p q r : Steps) → Precedes p q → Precedes q r → Precedes p r
unfolding Precedes
precedes_chain [] q r a b = absurd a
precedes_chain (x ∷ p) [] r a b = absurd a
precedes_chain (x ∷ p) (y ∷ q) [] a b = absurd b
precedes_chain (x ∷ p) (y ∷ q) (z ∷ r) (inl a) (inl b) = absurd (no_both b.0 a.1)
precedes_chain (x ∷ p) (y ∷ q) (z ∷ r) (inl a) (inr b) = inl (a.0, sym b.0 ∙ a.1)
precedes_chain (x ∷ p) (y ∷ q) (z ∷ r) (inr a) (inl b) = inl (a.0 ∙ b.0, b.1)
precedes_chain (x ∷ p) (y ∷ q) (z ∷ r) (inr a) (inr b) = inr (a.0 ∙ b.0, precedes_chain p q r a.1 b.1)

-- of two paths to one signal one precedes, or they are one path
pub precedes_total : (c : Circuit) (i j : ℕ) (p q : Steps) (k : ℕ) → Leads c i p k → Leads c j q k → ((i ≡ j) × (p ≡ q)) ⊎ (Precedes p q ⊎ Precedes q p)
unfolding Precedes Leads
precedes_total c i j [] [] k a b = inl (sym a.0 ∙ b.0, refl)
precedes_total c i j [] ((h, d) ∷ q) k a b = absurd (omega (arith, a.0, a.1, b.0))
precedes_total c i j ((g, b) ∷ p) [] k a z = absurd (omega (arith, a.0, z.0, z.1))
precedes_total c i j ((g, false) ∷ p) ((h, true) ∷ q) k a b = inr (inl (inl (refl, refl)))
precedes_total c i j ((g, true) ∷ p) ((h, false) ∷ q) k a b = inr (inr (inl (refl, refl)))
precedes_total c i j ((g, false) ∷ p) ((h, false) ∷ q) k a b =
    let same : h ≡ g = omega (arith, a.0, b.0) in
    elim (precedes_total c i j p q (gate c g).one a.2 (rw same at b.2)) [
      | inl e ↦ let e' = e.1 in inl (e.0, rw (same, e'))
      | inr (inl s) ↦ inr (inl (inr (refl, s)))
      | inr (inr s) ↦ inr (inr (inr (refl, s)))
    ]
precedes_total c i j ((g, true) ∷ p) ((h, true) ∷ q) k a b =
    let same : h ≡ g = omega (arith, a.0, b.0) in
    elim (precedes_total c i j p q (gate c g).two a.2 (rw same at b.2)) [
      | inl e ↦ let e' = e.1 in inl (e.0, rw (same, e'))
      | inr (inl s) ↦ inr (inl (inr (refl, s)))
      | inr (inr s) ↦ inr (inr (inr (refl, s)))
    ]

abbrev pub path_from : ℕ → ℕ → Steps → RegisterPath
path_from r i p = record { register = r; source = i; steps = p }

pub same_path : (a b : RegisterPath) → a.register ≡ b.register → a.source ≡ b.source → a.steps ≡ b.steps → a ≡ b
same_path a b r s p = let e : path_from a.register a.source a.steps ≡ path_from b.register b.source b.steps = rw (r, s, p) in e

module _ (e : Edge) (m : Machine) where
  pub order_anti : (a b : RegisterPath) → IsBefore e m a b → IsBefore e m b a → ⊥
  order_anti a b (inl x) (inl y) = omega (arith, ints)
  order_anti a b (inl x) (inr y) = let s = y.0 in omega (arith, ints)
  order_anti a b (inr x) (inl y) = let s = x.0 in omega (arith, ints)
  order_anti a b (inr (s, inl x)) (inr (t, inl y)) = omega arith
  order_anti a b (inr (s, inl x)) (inr (t, inr y)) = let z = y.0 in omega arith
  order_anti a b (inr (s, inr x)) (inr (t, inl y)) = let z = x.0 in omega arith
  order_anti a b (inr (s, inr x)) (inr (t, inr y)) = precedes_anti a.steps b.steps x.1 y.1

  pub order_chain : (a b c : RegisterPath) → IsBefore e m a b → IsBefore e m b c → IsBefore e m a c
  order_chain a b c (inl x) (inl y) = inl (omega (arith, ints))
  order_chain a b c (inl x) (inr y) = let s = y.0 in inl (omega (arith, ints))
  order_chain a b c (inr x) (inl y) = let s = x.0 in inl (omega (arith, ints))
  order_chain a b c (inr (s, inl x)) (inr (t, inl y)) = inr (s ∙ t, inl (omega arith))
  order_chain a b c (inr (s, inl x)) (inr (t, inr y)) = let z = y.0 in inr (s ∙ t, inl (omega arith))
  order_chain a b c (inr (s, inr x)) (inr (t, inl y)) = let z = x.0 in inr (s ∙ t, inl (omega arith))
  order_chain a b c (inr (s, inr x)) (inr (t, inr y)) = inr (s ∙ t, inr (x.0 ∙ y.0, precedes_chain a.steps b.steps c.steps x.1 y.1))

  by_register : (a b : RegisterPath) → IsPath m a → IsPath m b → slack_of e m a ≡ slack_of e m b → (a ≡ b) ⊎ (IsBefore e m a b ⊎ IsBefore e m b a)
  by_register a b x y s = elim (cases_lt a.register b.register) [
    | inl l ↦ inr (inl (inr (s, inl l)))
    | inr h ↦ elim (cases_lt b.register a.register) [
      | inl l ↦ inr (inr (inr (sym s, inl l)))
      | inr g ↦
          let r : b.register ≡ a.register = omega arith in
          elim (precedes_total m.circuit a.source b.source a.steps b.steps (m.takes a.register) x.1 (rw r at y.1)) [
            | inl same ↦ inl (same_path a b (sym r) same.0 same.1)
            | inr (inl z) ↦ inr (inl (inr (s, inr (sym r, z))))
            | inr (inr z) ↦ inr (inr (inr (sym s, inr (r, z))))
          ]
    ]
  ]

  pub order_total : (a b : RegisterPath) → IsPath m a → IsPath m b → (a ≡ b) ⊎ (IsBefore e m a b ⊎ IsBefore e m b a)
  order_total a b x y =
      by_lt_z (slack_of e m a) (slack_of e m b) (λ l. inr (inl (inl l)))
      (λ g. by_lt_z (slack_of e m b) (slack_of e m a) (λ l. inr (inr (inl l)))
      (λ h. let s : slack_of e m a ≡ slack_of e m b = omega (arith, ints) in by_register a b x y s))

pub order_is_total : OrderIsTotal
order_is_total e m = (order_total e m, order_anti e m, order_chain e m)

pub one_list : OneList
one_list e m k xs ys f g =
    let irr : (x : RegisterPath) → IsBefore e m x x → ⊥ = λ x b. order_anti e m x x b b in
    firsts_one (IsBefore e m) (IsPath m) k xs ys (order_anti e m) (firsts_of (IsBefore e m) (IsPath m) k xs irr f) (firsts_of (IsBefore e m) (IsPath m) k ys irr g)
