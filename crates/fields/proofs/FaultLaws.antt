-- Laws of faults.
use Rattle.std.proofs.Common.{◌≡◌, ℕ, Ok, Err, Result, MatchResult, sym, ap, ◌∙◌, arith}
use Rattle.fields.specs.declared.fault.Expected.{Expected}
use Rattle.fields.specs.declared.fault.Fault.{Fault}

abbrev fault_or : {A : Type 0} → Fault → Result A Fault → Fault
fault_or g (Ok x) = g
fault_or g (Err f) = f

abbrev ok_or : {A : Type 0} → A → Result A Fault → A
ok_or y (Ok x) = x
ok_or y (Err f) = y

-- what was expected, with its line, is a fault
module _ {A : Type 0} (n : ℕ) (r : Result A Expected) (q : Result A Fault) (is : MatchResult r (λ x. q ≡ Ok x) (λ k. q ≡ Err (record { line = n; expected = k }))) where
  pub at_fault : (f : Fault) → q ≡ Err f → (r ≡ Err f.expected) × (f ≡ record { line = n; expected = f.expected })
  at_fault f e = go r is
    where
      go : (r : Result A Expected) → MatchResult r (λ x. q ≡ Ok x) (λ k. q ≡ Err (record { line = n; expected = k })) → (r ≡ Err f.expected) × (f ≡ record { line = n; expected = f.expected })
      go (Ok x) is = absurd (grind (arith, is, e))
      go (Err k) is = let f_is : f ≡ record { line = n; expected = k } = ap (fault_or f) (sym e ∙ is) in (ap (λ g. Err g.expected) (sym f_is), f_is ∙ ap (λ g. record { line = n; expected = g.expected }) (sym f_is))

  pub no_fault : (x : A) → q ≡ Ok x → r ≡ Ok x
  no_fault x e = go r is
    where
      go : (r : Result A Expected) → MatchResult r (λ x. q ≡ Ok x) (λ k. q ≡ Err (record { line = n; expected = k })) → r ≡ Ok x
      go (Ok y) is = ap (λ z. Ok z) (ap (ok_or x) (sym is ∙ e))
      go (Err k) is = absurd (grind (arith, is, e))
