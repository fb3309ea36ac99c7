-- What registers are told, one after another.
use Rattle.std.proofs.Common.{◌≡◌, ℕ, ◌+◌, ◌-◌, ◌<◌, ◌≢◌, List, [], ◌∷◌, ◌++◌, length, get_or, set, sym, refl, ◌∙◌, inl, inr, arith, below_more, length-append}
use Rattle.std.proofs.lemmas.List.{get_or-set_same, get_or-set_other, get_or_append_left, get_or-append_right, length-set}
use Rattle.std.proofs.lemmas.Bool.{cases_eq}
use Rattle.script.specs.declared.script.Script.{Script}
use Rattle.step.specs.Lent.{no_clocks, clocks_at}
use Rattle.step.specs.declared.told.Clocks.{Clocks}
use Rattle.telling.specs.Said.{ClocksTold, ClocksGoOn, Followed, FirstTold}

module _ (s : Script) (g r ts cycles : List ℕ) where
  pub none_followed : (clocks : List Clocks) → Followed s g r ts cycles 0 clocks clocks
  none_followed clocks = record { size = refl; stand = λ q l. absurd (omega arith); rest = λ q l. refl; told_now = λ q l. absurd (omega arith) }

  module _ {i : ℕ} {clocks clocks' : List Clocks} (so_far : Followed s g r ts cycles i clocks clocks') where
    -- it stands where it did
    pub same_followed : (clocks_at clocks' i).cycle ≡ get_or cycles i 0 → Followed s g r ts cycles (i + 1) clocks clocks'
    same_followed same = record {
      size = so_far.size;
      stand = λ q l. elim (cases_eq q i) [ inl e ↦ rw e same | inr ne ↦ so_far.stand q (omega (arith, ne)) ];
      rest = λ q l. so_far.rest q (omega arith);
      told_now = λ q l step small told. elim (cases_eq q i) [
        | inl e ↦
            let was : clocks_at clocks' q ≡ clocks_at clocks q = so_far.rest q (omega (arith, e)) in
            let stood : (clocks_at clocks q).cycle ≡ get_or cycles q 0 = rw (← was, e) same in
            rw (was, ← stood) told
        | inr ne ↦ so_far.told_now q (omega (arith, ne)) step small told
      ];
    }

    -- it has gone on
    pub next_followed : {now : Clocks} → i < length clocks' → ((clocks_at clocks' i).cycle ≡ get_or cycles i 0 → ⊥) →
        ClocksGoOn s g r ts i (get_or cycles i 0) (clocks_at clocks' i) now → Followed s g r ts cycles (i + 1) clocks (set clocks' i now)
    next_followed {now} room moved goes = record {
      size = length-set clocks' i now ∙ so_far.size;
      stand = λ q l. elim (cases_eq q i) [
        | inl e ↦ rw (e, get_or-set_same clocks' i now _ room) goes.cycle_now
        | inr other ↦ let ne : q ≢ i = other in rw (get_or-set_other clocks' i q now _ ne) (so_far.stand q (omega arith))
      ];
      rest = λ q l. let ne : q ≢ i = omega arith in get_or-set_other clocks' i q now _ ne ∙ so_far.rest q (omega arith);
      told_now = λ q l step small told. elim (cases_eq q i) [
        | inl e ↦
            let was : clocks_at clocks' i ≡ clocks_at clocks i = so_far.rest i (omega arith) in
            let goes' = rw was at goes in
            let moved' = rw was at moved in
            let on = rw e at step in
            let small' = rw e at small in
            let told' = rw e at told in
            rw (e, get_or-set_same clocks' i now _ room)
            (goes'.told_now (clocks_at clocks i).cycle (elim on [ inl same ↦ absurd (moved' (sym same)) | inr next ↦ next ]) small' told')
        | inr other ↦ let ne : q ≢ i = other in rw (get_or-set_other clocks' i q now _ ne) (so_far.told_now q (omega arith) step small told)
      ];
    }

-- what registers are told in their first cycle
module _ (s : Script) (g r ts : List ℕ) where
  pub none_first : FirstTold s g r ts 0 []
  none_first = record { size = refl; told = λ q l. absurd (omega arith) }

  -- one register more
  pub first_more : (n : ℕ) (clocks : List Clocks) (now : Clocks) → ClocksTold s g r ts n 0 now → FirstTold s g r ts n clocks → FirstTold s g r ts (n + 1) (clocks ++ now ∷ [])
  first_more n clocks now told so_far =
      let none : n - n ≡ 0 = omega arith in
      let last : clocks_at (clocks ++ now ∷ []) n ≡ now = get_or-append_right clocks (now ∷ []) n n no_clocks so_far.size (omega arith) ∙ rw none refl in
      record {
        size = length-append clocks (now ∷ []) ∙ omega (arith, so_far.size);
        told = below_more (λ q. ClocksTold s g r ts q 0 (clocks_at (clocks ++ now ∷ []) q)) n
            (λ q h. rw (get_or_append_left clocks (now ∷ []) no_clocks q (omega (arith, so_far.size))) (so_far.told q h)) (rw last told);
      }
