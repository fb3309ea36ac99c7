-- Laws of `bits`.
use Rattle.std.proofs.Common.{◌≡◌, ℕ, suc, ◌+◌, ◌-◌, ◌<◌, ◌≤◌, Bool, false, List, [], ◌∷◌, ◌++◌, length, Ok, Err, Result, sym, refl, ap, ◌∙◌, append-nil, arith}
use Rattle.std.proofs.lemmas.List.{length-append, append_assoc}
use Rattle.fields.specs.declared.fault.Expected.{Expected}
use Rattle.fields.specs.declared.fault.Expected.TheVariants.{After}
use Rattle.fields.specs.declared.line.Line.TheVariants.{Start}
use Rattle.fields.specs.Fields.{field}
use Rattle.delays.specs.Row.{and_then, bit_of, bits}

-- bits before others
abbrev onto : List Bool → Result (List Bool) Expected → Result (List Bool) Expected
onto bs r = and_then r (λ cs. Ok (bs ++ cs))

onto_none : (r : Result (List Bool) Expected) → r ≡ onto [] r
onto_none (Ok cs) = refl
onto_none (Err e) = refl

onto_one : (bs : List Bool) (b : Bool) (r : Result (List Bool) Expected) → onto bs (and_then r (λ cs. Ok (b ∷ cs))) ≡ onto (bs ++ (b ∷ [])) r
onto_one bs b (Ok cs) = rw append_assoc refl
onto_one bs b (Err e) = refl

-- the first bit comes before the others, unless something else was expected
bit_first : (r : Result ℕ Expected) (more : Result (List Bool) Expected) {b : Result Bool Expected} → and_then r bit_of ≡ b → and_then r (λ x. and_then (bit_of x) (λ b. and_then more (λ bs. Ok (b ∷ bs)))) ≡ and_then b (λ b. and_then more (λ bs. Ok (b ∷ bs)))
bit_first (Ok x) more e = rw e refl
bit_first (Err k) more e = ap (λ b. and_then b (λ b. and_then more (λ bs. Ok (b ∷ bs)))) e

-- bs are the first of q bits of the words ws, and rest has the words after them
pub record Filled (q : ℕ) (ws : List (List ℕ)) (bs : List Bool) (rest : List (List ℕ)) : Type 0 where
  pub within : length bs ≤ q
  pub same : bits q ws ≡ onto bs (bits (q - length bs) rest)

pub none_yet : (q : ℕ) (ws : List (List ℕ)) → Filled q ws [] ws
none_yet q ws = let e : q - 0 ≡ q = omega arith in record { within = omega arith; same = ap (λ n. bits n ws) (sym e) ∙ onto_none (bits (q - 0) ws) }

module _ {q : ℕ} {ws rest : List (List ℕ)} {bs : List Bool} (f : Filled q ws bs rest) where
  pub too_few : length bs < q → rest ≡ [] → bits q ws ≡ Err (After Start)
  unfolding bits
  too_few lt none =
      let e : q - length bs ≡ suc (q - (length bs + 1)) = omega (arith, lt) in
      f.same ∙ rw (e, none) refl

  pub all_there : length bs ≡ q → rest ≡ [] → bits q ws ≡ Ok bs
  unfolding bits
  all_there eq none =
      let e : q - length bs ≡ 0 = omega (arith, eq) in
      f.same ∙ rw (e, none) (ap (λ cs. Ok cs) (append-nil bs))

  module _ {after : List (List ℕ)} {w : List ℕ} (some : rest ≡ w ∷ after) where
    pub too_many : length bs ≡ q → bits q ws ≡ Err (After Start)
    unfolding bits
    too_many eq =
        let e : q - length bs ≡ 0 = omega (arith, eq) in
        f.same ∙ rw (e, some) refl

    module _ (lt : length bs < q) where
      left : q - length bs ≡ suc (q - (length bs + 1))
      left = omega (arith, lt)

      pub bad_bit : (k : Expected) → Err k ≡ and_then (field false false w) bit_of → bits q ws ≡ Err k
      unfolding bits
      bad_bit k is = f.same ∙ rw (left, some) (ap (onto bs) (bit_first (field false false w) (bits (q - (length bs + 1)) after) (sym is)))

      pub next : (b : Bool) → Ok b ≡ and_then (field false false w) bit_of → Filled q ws (bs ++ (b ∷ [])) after
      unfolding bits
      next b is =
          let l : length (bs ++ (b ∷ [])) ≡ length bs + 1 = length-append bs (b ∷ []) in
          record {
            within = omega (arith, l, lt);
            same = f.same ∙ rw (left, some) (ap (onto bs) (bit_first (field false false w) (bits (q - (length bs + 1)) after) (sym is)) ∙ onto_one bs b (bits (q - (length bs + 1)) after) ∙ ap (λ n. onto (bs ++ (b ∷ [])) (bits (q - n) after)) (sym l));
          }
