-- What registers of a simulated run show and take.
use Rattle.std.proofs.Common.{◌≡◌, ℕ, zero, suc, ◌-◌, ◌<◌, ◌≤◌, Bool, true, false, not, cond, ◌⊎◌, Option, Some, None, unwrap_or, is_none, refl, ◌∙◌, inl, inr, arith}
use Rattle.std.proofs.lemmas.Bool.{and_parts, ltb-true, lt-ltb}
use Rattle.arrival.specs.Window.{Wave}
use Rattle.promise.specs.Machine.{Machine}
use Rattle.simulation.specs.Simulated.{Told, steady, still, settled, first_seen, end_seen, bits, cycle, must_show, shows_at, run_waves, run_bits, shows_anything, takes_anything}
use Rattle.simulation.specs.Theorems.{ShowsItsBit, TakesItsSignal}
use Rattle.simulation.proofs.Running.{register_shows, still_not}

chosen_by : (b bit told : Bool) → (not b ≡ false → cond b bit told ≡ bit) × (not b ≡ true → cond b bit told ≡ told)
chosen_by true bit told = (λ e. refl, λ e. absurd (cc))
chosen_by false bit told = (λ e. absurd (cc), λ e. refl)

pub shows_its_bit : ShowsItsBit
unfolding shows_anything shows_at
shows_its_bit m x ok may r t h =
    let n = cycle m x r (suc t) in
    let by = chosen_by (must_show m (x.clock n r) (x.clock (suc n) r) t) (run_bits m x n r) (x.show r t) in
    (λ e. register_shows m x ok may r t h ∙ by.0 e, λ e. register_shows m x ok may r t h ∙ by.1 e)

-- one bit or none
without : (o : Option Bool) (told : Bool) → is_none o ≡ true → unwrap_or o told ≡ told
without None told e = refl
without (Some b) told e = absurd (cc)

some_bit : (o : Option Bool) (told : Bool) → is_none o ≡ false → o ≡ Some (unwrap_or o told)
some_bit None told e = absurd (cc)
some_bit (Some b) told e = refl

same_or_not : (a b : Bool) → (a ≡ b) ⊎ (a ≡ b → ⊥)
same_or_not true true = inl refl
same_or_not false false = inl refl
same_or_not true false = inr (λ e. cc)
same_or_not false true = inr (λ e. cc)

kept_bit : (c b d : Bool) → cond c (Some b) None ≡ Some d → b ≡ d
kept_bit true b d e = cc
kept_bit false b d e = absurd (cc)

-- the bit that a wave kept is what it was at all moments
still_all : (f : Wave) (a e : ℕ) (b : Bool) → still f a e ≡ Some b → (u : ℕ) → a ≤ u → u < e → f u ≡ b
unfolding still
still_all f a e b kept u l h = elim (same_or_not (f u) (f a)) [
  | inl same ↦ same ∙ kept_bit (steady f (f a) a (e - a)) (f a) b kept
  | inr other ↦ absurd (let none : still f a e ≡ None = still_not f a e u l h other in cc)
]

-- what a register holds, by whether its signal kept still
module _ (m : Machine) (x : Told) (r : ℕ) where
  taken_anything : (n : ℕ) → 0 < n → is_none (still (run_waves m x (m.takes r)) (first_seen m (x.clock n r)) (end_seen m (x.clock n r))) ≡ true → run_bits m x n r ≡ x.take n r
  unfolding bits settled
  taken_anything zero some e = absurd (omega arith)
  taken_anything (suc n) some e = without _ (x.take (suc n) r) e

  taken_signal : (n : ℕ) → 0 < n → is_none (still (run_waves m x (m.takes r)) (first_seen m (x.clock n r)) (end_seen m (x.clock n r))) ≡ false →
      (u : ℕ) → first_seen m (x.clock n r) ≤ u → u < end_seen m (x.clock n r) → run_waves m x (m.takes r) u ≡ run_bits m x n r
  unfolding bits settled
  taken_signal zero some e = absurd (omega arith)
  taken_signal (suc n) some e = still_all _ _ _ _ (some_bit _ (x.take (suc n) r) e)

pub takes_its_signal : TakesItsSignal
unfolding takes_anything
takes_its_signal m x r t = (
  λ e.
      let parts = and_parts _ _ e in
      let on = ltb-true (cycle m x r t) (cycle m x r (suc t)) parts.0 in
      taken_anything m x r (cycle m x r (suc t)) (omega arith) parts.1,
  λ on e. taken_signal m x r (cycle m x r (suc t)) (omega arith) (rw (lt-ltb (cycle m x r t) (cycle m x r (suc t)) on) at e),
)
