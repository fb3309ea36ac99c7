-- Statements kept one by one, for the gate or register that they are about.
use Rattle.std.proofs.Common.{◌≡◌, ℕ, ◌+◌, ◌<◌, ◌≤◌, ◌≢◌, List, length, get_or, set, vec_items, Some, None, Option, sym, refl, ◌∙◌, inl, inr, arith}
use Rattle.std.proofs.lemmas.List.{get_or-set_same, get_or-set_other, length-set}
use Rattle.std.proofs.lemmas.Bool.{cases_eq, cases_lt, eq-eqb, ne_eqb}
use Rattle.script.specs.declared.entry.Entry.{Entry}
use Rattle.script.specs.Entries.{no_entry, entry, about, Ordered}
use Rattle.script.proofs.Last.{last_hit, last_miss}
use Rattle.telling.specs.declared.part.Part.{Part}
use Rattle.telling.specs.Parts.{PartOn}
use Rattle.telling.specs.Said.{Said, KeptOn}

module _ (es : List Entry) (i n : ℕ) (said : List (Option Entry)) (size : length said ≡ n) (so_far : Said es i n said) where
  said_one : (entry es i).who < length said → Said es (i + 1) n (set said (entry es i).who (Some (entry es i)))
  said_one h k l = elim (cases_eq k (entry es i).who) [
    | inl e ↦ rw e (get_or-set_same said (entry es i).who (Some (entry es i)) None h ∙ sym (last_hit (about (entry es i).who) es i (eq-eqb _ _ refl)))
    | inr other ↦ let ne : k ≢ (entry es i).who = other in
        get_or-set_other said (entry es i).who k (Some (entry es i)) None ne ∙ so_far k l ∙ sym (last_miss (about k) es i (ne_eqb _ _ (λ e. other (sym e))))
  ]

  said_none : length said ≤ (entry es i).who → Said es (i + 1) n said
  said_none h k l = so_far k l ∙ sym (last_miss (about k) es i (ne_eqb _ _ (λ e. omega arith)))

-- the statements from `start` to i are those up to moment t, and are kept one by one
pub record SoFar (es : List Entry) (t start i : ℕ) (before after : List (Option Entry)) : Type 0 where
  pub size : length after ≡ length before
  pub from : start ≤ i
  pub within : start ≤ length es → i ≤ length es
  pub upto : (j : ℕ) → start ≤ j → j < i → (entry es j).when ≤ t
  pub kept : Said es start (length before) before → Said es i (length before) after

pub none_kept : (es : List Entry) (t start : ℕ) (said : List (Option Entry)) → SoFar es t start start said said
none_kept es t start said = record { size = refl; from = omega arith; within = λ l. l; upto = λ j l h. absurd (omega arith); kept = λ s. s }

module _ {es : List Entry} {t start i : ℕ} {before after : List (Option Entry)} (so_far : SoFar es t start i before after) where
  module _ (inside : i < length es) (due : (entry es i).when ≤ t) where
    upto_more : (j : ℕ) → start ≤ j → j < i + 1 → (entry es j).when ≤ t
    upto_more j l h = elim (cases_eq j i) [ inl e ↦ rw e due | inr ne ↦ so_far.upto j l (omega (arith, ne)) ]

    pub kept_more : (entry es i).who < length after → SoFar es t start (i + 1) before (set after (entry es i).who (Some (entry es i)))
    kept_more place = record {
      size = length-set after (entry es i).who (Some (entry es i)) ∙ so_far.size;
      from = omega (arith, so_far.from);
      within = λ l. omega arith;
      upto = upto_more;
      kept = λ s. said_one es i _ after so_far.size (so_far.kept s) place;
    }

    pub kept_same : length after ≤ (entry es i).who → SoFar es t start (i + 1) before after
    kept_same past = record { size = so_far.size; from = omega (arith, so_far.from); within = λ l. omega arith; upto = upto_more; kept = λ s. said_none es i _ after so_far.size (so_far.kept s) past }

  -- all of them are kept
  pub kept_on : Ordered es → (i < length es → t < (entry es i).when) → KeptOn es t start before i after
  kept_on order past = record {
    done_now = λ d. record {
      within = so_far.within d.within;
      done = λ j l. elim (cases_lt j start) [ inl before ↦ omega (arith, d.done j before) | inr from ↦ omega (arith, so_far.upto j from l) ];
      to_come = λ j l h. omega (arith, past (omega arith), order i j no_entry l h);
    };
    said_now = λ d. so_far.kept;
  }

-- what holds of each value so far, and of one more
pub held_more : {V : Type 0} (d : V) (P : ℕ → V → Type 0) (xs : List V) (i : ℕ) (v : V) → i < length xs → P i v → ((k : ℕ) → k < i → P k (get_or xs k d)) → (k : ℕ) → k < i + 1 → P k (get_or (set xs i v) k d)
held_more d P xs i v room now before k l = elim (cases_eq k i) [
  | inl e ↦ rw (e, get_or-set_same xs i v d room) now
  | inr other ↦ let ne : k ≢ i = other in rw (get_or-set_other xs i k v d ne) (before k (omega arith))
]

-- a part that keeps what is said up to moment t
pub part_on : {V : Type 0} {es : List Entry} {t : ℕ} {y y' : Part V} → length (vec_items y'.values) ≡ length (vec_items y.values) → length (vec_items y'.said) ≡ length (vec_items y.said) →
    KeptOn es t y.done (vec_items y.said) y'.done (vec_items y'.said) → PartOn es t y y'
part_on values said kept = record {
  places_same = omega arith;
  knows = λ k. record { done_all = kept.done_now k.done_all; said_all = rw said (kept.said_now k.done_all k.said_all) };
}
