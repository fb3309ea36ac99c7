-- The first k of those that P, one after the other, and the first of two such lists together.
use Rattle.std.proofs.Common.{◌≡◌, ℕ, zero, suc, ◌<◌, ◌≤◌, Bool, true, false, ◌⊎◌, List, [], ◌∷◌, length, map, get_or, sym, refl, ap, ◌∙◌, inl, inr, arith}
use Rattle.std.proofs.lemmas.Bool.{cases_Bool}
use Rattle.std.proofs.lemmas.List.Elements.{All-tail, All-head, All-cons, All-nil}
use Rattle.std.specs.List.{Contains}
use Rattle.worst_paths.specs.WorstPaths.{AreFirst}
use Rattle.worst_paths.specs.Merge.{merge}

-- x is first, then those after it
unfoldable pub Firsts : {X : Type 0} → (X → X → Type 0) → (X → Type 0) → ℕ → List X → Type 0
Firsts {X} B P zero xs = xs ≡ []
Firsts {X} B P (suc k) [] = (w : X) → P w → ⊥
Firsts {X} B P (suc k) (x ∷ xs) = P x × ((w : X) → P w → (w ≡ x) ⊎ B x w) × Firsts B (λ w. P w × B x w) k xs

-- P and Q are of the same
abbrev pub Same : {X : Type 0} → (X → Type 0) → (X → Type 0) → Type 0
Same {X} P Q = (w : X) → (P w → Q w) × (Q w → P w)

pub firsts_same : {X : Type 0} (B : X → X → Type 0) (P Q : X → Type 0) (k : ℕ) (xs : List X) → Same P Q → Firsts B P k xs → Firsts B Q k xs
unfolding Firsts
firsts_same B P Q zero xs s f = f
firsts_same B P Q (suc k) [] s f = λ w q. f w ((s w).1 q)
firsts_same B P Q (suc k) (x ∷ xs) s f = (
  (s x).0 f.0,
  λ w q. f.1 w ((s w).1 q),
  firsts_same B (λ w. P w × B x w) (λ w. Q w × B x w) k xs (λ w. (λ p. ((s w).0 p.0, p.1), λ q. ((s w).1 q.0, q.1))) f.2,
)

-- two such lists are one
pub firsts_one : {X : Type 0} (B : X → X → Type 0) (P : X → Type 0) (k : ℕ) (xs ys : List X) →
    ((a b : X) → B a b → B b a → ⊥) → Firsts B P k xs → Firsts B P k ys → xs ≡ ys
unfolding Firsts
firsts_one B P zero xs ys anti f g = f ∙ sym g
firsts_one B P (suc k) [] [] anti f g = refl
firsts_one B P (suc k) [] (y ∷ ys) anti f g = absurd (f y g.0)
firsts_one B P (suc k) (x ∷ xs) [] anti f g = absurd (g x f.0)
firsts_one {X} B P (suc k) (x ∷ xs) (y ∷ ys) anti f g =
    let same : y ≡ x = elim (f.1 y g.0) [
      | inl e ↦ e
      | inr b ↦ elim (g.1 x f.0) [ inl e ↦ sym e | inr c ↦ absurd (anti x y b c) ]
    ] in
    let g' : Firsts B (λ w. P w × B x w) k ys = rw same at g.2 in
    rw same (ap (λ (zs : List X). x ∷ zs) (firsts_one B (λ w. P w × B x w) k xs ys anti f.2 g'))

-- where every w that P or Q is not x, those after x
abbrev either : {X : Type 0} → (X → Type 0) → (X → Type 0) → X → Type 0
either P Q w = P w ⊎ Q w

module _ {X : Type 0} (B : X → X → Type 0) (second : X → X → Bool) (chain : (a b c : X) → B a b → B b c → B a c) where
  -- the test says which of one that P and one that Q comes first
  abbrev pub Says : (X → Type 0) → (X → Type 0) → Type 0
  Says P Q = (x y : X) → P x → Q y → (second x y ≡ false → B x y) × (second x y ≡ true → B y x)

  pub merged : (P Q : X → Type 0) (k m n : ℕ) (xs ys : List X) → k ≤ m → k ≤ n → Says P Q →
      Firsts B P m xs → Firsts B Q n ys → Firsts B (either P Q) k (merge second k xs ys)
  unfolding Firsts merge
  merged P Q zero m n xs ys a b says f g = refl
  merged P Q (suc k) zero n xs ys a b says f g = absurd (omega arith)
  merged P Q (suc k) (suc m) zero xs ys a b says f g = absurd (omega arith)
  merged P Q (suc k) (suc m) (suc n) [] [] a b says f g = λ w e. elim e [ inl p ↦ f w p | inr q ↦ g w q ]
  merged P Q (suc k) (suc m) (suc n) [] (y ∷ ys) a b says f g = (
    inr g.0,
    λ w e. elim e [ inl p ↦ absurd (f w p) | inr q ↦ g.1 w q ],
    firsts_same B (either P (λ w. Q w × B y w)) (λ w. either P Q w × B y w) k (merge second k [] ys)
        (λ w. (λ e. elim e [ inl p ↦ absurd (f w p) | inr q ↦ (inr q.0, q.1) ], λ e. elim e.0 [ inl p ↦ inl p | inr q ↦ inr (q, e.1) ]))
        (merged P (λ w. Q w × B y w) k (suc m) n [] ys (omega arith) (omega arith) (λ x z p q. says x z p q.0) f g.2),
  )
  merged P Q (suc k) (suc m) (suc n) (x ∷ xs) [] a b says f g = (
    inl f.0,
    λ w e. elim e [ inl p ↦ f.1 w p | inr q ↦ absurd (g w q) ],
    firsts_same B (either (λ w. P w × B x w) Q) (λ w. either P Q w × B x w) k (merge second k xs [])
        (λ w. (λ e. elim e [ inl p ↦ (inl p.0, p.1) | inr q ↦ absurd (g w q) ], λ e. elim e.0 [ inl p ↦ inl (p, e.1) | inr q ↦ inr q ]))
        (merged (λ w. P w × B x w) Q k m (suc n) xs [] (omega arith) (omega arith) (λ z y p q. says z y p.0 q) f.2 g),
  )
  merged P Q (suc k) (suc m) (suc n) (x ∷ xs) (y ∷ ys) a b says f g = elim (cases_Bool (second x y)) [
    | inl t ↦
        let before : B y x = (says x y f.0 g.0).1 t in
        let all_p : (w : X) → P w → B y w = λ w p. elim (f.1 w p) [ inl e ↦ rw e before | inr h ↦ chain y x w before h ] in
        rw t (
          inr g.0,
          λ w e. elim e [ inl p ↦ inr (all_p w p) | inr q ↦ g.1 w q ],
          firsts_same B (either P (λ w. Q w × B y w)) (λ w. either P Q w × B y w) k (merge second k (x ∷ xs) ys)
              (λ w. (λ e. elim e [ inl p ↦ (inl p, all_p w p) | inr q ↦ (inr q.0, q.1) ], λ e. elim e.0 [ inl p ↦ inl p | inr q ↦ inr (q, e.1) ]))
              (merged P (λ w. Q w × B y w) k (suc m) n (x ∷ xs) ys (omega arith) (omega arith) (λ x z p q. says x z p q.0) f g.2),
        )
    | inr t ↦
        let before : B x y = (says x y f.0 g.0).0 t in
        let all_q : (w : X) → Q w → B x w = λ w q. elim (g.1 w q) [ inl e ↦ rw e before | inr h ↦ chain x y w before h ] in
        rw t (
          inl f.0,
          λ w e. elim e [ inl p ↦ f.1 w p | inr q ↦ inr (all_q w q) ],
          firsts_same B (either (λ w. P w × B x w) Q) (λ w. either P Q w × B x w) k (merge second k xs (y ∷ ys))
              (λ w. (λ e. elim e [ inl p ↦ (inl p.0, p.1) | inr q ↦ (inr q, all_q w q) ], λ e. elim e.0 [ inl p ↦ inl (p, e.1) | inr q ↦ inr q ]))
              (merged (λ w. P w × B x w) Q k m (suc n) xs (y ∷ ys) (omega arith) (omega arith) (λ z y p q. says z y p.0 q) f.2 g),
        )
  ]

at_first : {X : Type 0} (P : X → Type 0) (x w : X) (xs : List X) → Contains (x ∷ xs) w → (w ≡ x → P w) → (Contains xs w → P w) → P w
at_first P x w xs (zero, h, e) a b = a (sym e)
at_first P x w xs (suc j, h, e) a b = b (j, omega arith, e)

one_later : {X : Type 0} (x w : X) (xs : List X) → Contains xs w → Contains (x ∷ xs) w
one_later x w xs (j, h, e) = (suc j, omega arith, e)

-- the two forms say the same
pub firsts_of : {X : Type 0} (B : X → X → Type 0) (P : X → Type 0) (k : ℕ) (xs : List X) → ((x : X) → B x x → ⊥) → AreFirst B P k xs → Firsts B P k xs
unfolding Firsts
firsts_of B P zero [] irr f = refl
firsts_of B P zero (x ∷ xs) irr f = absurd (omega (arith, f.few))
firsts_of B P (suc k) [] irr f = λ w p. elim (f.rest w p) [ inl (j, h, e) ↦ omega arith | inr (l, a) ↦ omega arith ]
firsts_of B P (suc k) (x ∷ xs) irr f = (
  All-head P x xs f.each,
  λ w p. elim (f.rest w p) [
    | inl (zero, h, e) ↦ inl (sym e)
    | inl (suc j, h, e) ↦ inr (rw e at (f.ordered 0 (suc j) w (omega arith) h))
    | inr (l, a) ↦ inr (All-head (λ y. B y w) x xs a)
  ],
  firsts_of B (λ w. P w × B x w) k xs irr (record {
    each = λ j d h. (All-tail P x xs f.each j d h, f.ordered 0 (suc j) d (omega arith) (omega arith));
    ordered = λ i j d a b. f.ordered (suc i) (suc j) d (omega arith) (omega arith);
    few = omega (arith, f.few);
    rest = λ w p. elim (f.rest w p.0) [
      | inl (zero, h, e) ↦ absurd (irr w (rw e at p.1))
      | inl (suc j, h, e) ↦ inl (j, omega arith, e)
      | inr (l, a) ↦ inr (omega arith, All-tail (λ y. B y w) x xs a)
    ];
  }),
)

pub firsts_are : {X : Type 0} (B : X → X → Type 0) (P : X → Type 0) (k : ℕ) (xs : List X) → Firsts B P k xs → AreFirst B P k xs
unfolding Firsts
firsts_are B P zero [] f = record {
  each = λ j d h. absurd (omega arith);
  ordered = λ i j d a b. absurd (omega arith);
  few = omega arith;
  rest = λ w p. inr (refl, All-nil (λ y. B y w));
}
firsts_are B P zero (x ∷ xs) f = absurd (omega (arith, ap length f))
firsts_are B P (suc k) [] f = record {
  each = λ j d h. absurd (omega arith);
  ordered = λ i j d a b. absurd (omega arith);
  few = omega arith;
  rest = λ w p. absurd (f w p);
}
firsts_are {X} B P (suc k) (x ∷ xs) f =
    let more : AreFirst B (λ w. P w × B x w) k xs = firsts_are B (λ w. P w × B x w) k xs f.2 in
    record {
      each = All-cons P x xs f.0 (λ j d h. (more.each j d h).0);
      ordered = pairs more;
      few = omega (arith, more.few);
      rest = λ w p. elim (f.1 w p) [
        | inl e ↦ inl (zero, omega arith, sym e)
        | inr b ↦ elim (more.rest w (p, b)) [
          | inl c ↦ inl (one_later x w xs c)
          | inr (l, a) ↦ inr (omega arith, All-cons (λ y. B y w) x xs b a)
        ]
      ];
    }
  where
    pairs : AreFirst B (λ w. P w × B x w) k xs → (i j : ℕ) (d : X) → i < j → j < length (x ∷ xs) → B (get_or (x ∷ xs) i d) (get_or (x ∷ xs) j d)
    pairs more i zero d a b = absurd (omega arith)
    pairs more zero (suc j) d a b = (more.each j d (omega arith)).1
    pairs more (suc i) (suc j) d a b = more.ordered i j d (omega arith) (omega arith)

-- what f makes of those that P
abbrev pub Image : {X Y : Type 0} → (X → Y) → (X → Type 0) → Y → Type 0
Image {X} f P y = (x : X) × P x × (y ≡ f x)

pub firsts_map : {X Y : Type 0} (B : X → X → Type 0) (C : Y → Y → Type 0) (f : X → Y) (P : X → Type 0) (k : ℕ) (xs : List X) →
    ((y : Y) → C y y → ⊥) → ((a b : X) → P a → P b → B a b → C (f a) (f b)) → Firsts B P k xs → Firsts C (Image f P) k (map f xs)
unfolding Firsts
firsts_map B C f P zero [] irr keeps z = refl
firsts_map B C f P zero (x ∷ xs) irr keeps z = absurd (omega (arith, ap length z))
firsts_map B C f P (suc k) [] irr keeps z = λ w i. z i.0 i.1
firsts_map {X} B C f P (suc k) (x ∷ xs) irr keeps z = (
  (x, z.0, refl),
  λ w i. let e = i.2 in elim (z.1 i.0 i.1) [ inl s ↦ inl (e ∙ ap f s) | inr b ↦ inr (rw e (keeps x i.0 z.0 i.1 b)) ],
  firsts_same C (Image f (λ v. P v × B x v)) (λ y. Image f P y × C (f x) y) k (map f xs)
      (λ w. (
        λ i. let e = i.2 in ((i.0, i.1.0, i.2), rw e (keeps x i.0 z.0 i.1.0 i.1.1)),
        λ i. let e = i.0.2 in elim (z.1 i.0.0 i.0.1) [
          | inl s ↦ let d : f i.0.0 ≡ f x = ap f s in absurd (irr (f x) (rw (e, d) at i.1))
          | inr b ↦ (i.0.0, (i.0.1, b), i.0.2)
        ],
      ))
      (firsts_map B C f (λ v. P v × B x v) k xs irr (λ a b p q h. keeps a b p.0 q.0 h) z.2),
)
