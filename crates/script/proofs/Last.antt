-- The last statement for which a test holds.
use Rattle.std.proofs.Common.{◌≡◌, ℕ, zero, suc, ◌+◌, ◌-◌, ◌<◌, ◌≤◌, Bool, true, false, List, length, Some, None, [], ◌∷◌, cond, take, drop, reverse, find, sym, refl, ◌∙◌, inl, inr, add-one, arith}
use Rattle.std.proofs.Math.Seq.{take-suc}
use Rattle.std.proofs.lemmas.List.{reverse-append, take_all, length-take-le, length-drop, get_or-take, get_or-drop}
use Rattle.std.proofs.lemmas.Bool.{cases_Bool, cases_eq, eq-eqb, ne_eqb, and_left}
use Rattle.script.specs.declared.entry.Entry.{Entry}
use Rattle.script.specs.Entries.{no_entry, entry, last_of, about, on}

module _ (test : Entry → Bool) (es : List Entry) where
  -- one statement more: it is the last, or not
  pub last_hit : (n : ℕ) → test (entry es n) ≡ true → last_of test es (n + 1) ≡ Some (entry es n)
  unfolding last_of
  last_hit n e = rw (add-one n, e)

  pub last_miss : (n : ℕ) → test (entry es n) ≡ false → last_of test es (n + 1) ≡ last_of test es n
  unfolding last_of
  last_miss n e = rw (add-one n, e)

  -- no more hits from n on
  pub last_rest : (n m : ℕ) → n ≤ m → ((i : ℕ) → n ≤ i → i < m → test (entry es i) ≡ false) → last_of test es m ≡ last_of test es n
  unfolding last_of
  last_rest n zero l none = let e : n ≡ 0 = omega arith in rw e
  last_rest n (suc m) l none = elim (cases_eq n (suc m)) [
    | inl e ↦ rw e
    | inr ne ↦ let miss : test (entry es m) ≡ false = none m (omega (arith, ne)) (omega arith) in
        rw miss (last_rest n m (omega (arith, ne)) (λ i a b. none i a (omega arith)))
  ]

  pub last_none : (n : ℕ) → ((i : ℕ) → i < n → test (entry es i) ≡ false) → last_of test es n ≡ None
  unfolding last_of
  last_none zero none = refl
  last_none (suc n) none = let miss : test (entry es n) ≡ false = none n (omega arith) in rw miss (last_none n (λ i l. none i (omega arith)))

  -- what is found is there, and passes
  pub last_is : (n : ℕ) (e : Entry) → last_of test es n ≡ Some e → (i : ℕ) × (i < n) × (entry es i ≡ e) × (test e ≡ true)
  unfolding last_of
  last_is zero e found = absurd (never e found)
    where
      never : (e : Entry) → None ≡ Some e → ⊥
      never e p = let z : ◌≡◌ {A = ℕ} 0 1 = cc in omega arith
  last_is (suc n) e found = elim (cases_Bool (test (entry es n))) [
    | inl hit ↦
        let found' : Some (entry es n) ≡ Some e = rw hit at found in
        let is : entry es n ≡ e = cc in
        (n, omega arith, is, rw is at hit)
    | inr miss ↦ let found' = rw miss at found in let more = last_is n e found' in (more.0, omega (arith, more.1), more.2, more.3)
  ]

-- tests that agree find the same
pub last_same : (test other : Entry → Bool) (es : List Entry) (n : ℕ) → ((i : ℕ) → i < n → test (entry es i) ≡ other (entry es i)) → last_of test es n ≡ last_of other es n
unfolding last_of
last_same test other es zero same = refl
last_same test other es (suc n) same = rw (same n (omega arith), last_same test other es n (λ i l. same i (omega arith)))

-- a statement of another cycle is none in this one
other_cycle : (es : List Entry) (i n who : ℕ) → ((entry es i).when ≡ n → ⊥) → on n who (entry es i) ≡ false
other_cycle es i n who ne = and_left _ _ (ne_eqb _ _ ne)

-- of the first statements of a list, the one that is found from the end
find_from_end : (test : Entry → Bool) (es : List Entry) (m : ℕ) → m < length es → find test (reverse (take (suc m) es)) ≡ cond (test (entry es m)) (Some (entry es m)) (find test (reverse (take m es)))
find_from_end test es m h = rw (take-suc es m no_entry h, reverse-append (take m es) (entry es m ∷ [])) refl

-- the statements of a cycle stand from `first` on among those up to it
module _ (es : List Entry) (n who first past : ℕ) (fits : past ≤ length es) (within : first ≤ past) (upto : (i : ℕ) → i < past → (entry es i).when ≤ n) (after : (i : ℕ) → past ≤ i → i < length es → n < (entry es i).when)
    (before : (i : ℕ) → i < first → (entry (take past es) i).when < n) (from : (i : ℕ) → first ≤ i → i < past → n ≤ (entry (take past es) i).when) where
  abbrev part : List Entry
  part = drop first (take past es)

  at : (i : ℕ) → i < past → entry (take past es) i ≡ entry es i
  at i h = get_or-take past es i no_entry h

  long : length part ≡ past - first
  long = omega (arith, length-drop first (take past es), length-take-le past es fits)

  found_in : (m : ℕ) → m ≤ past - first → find (about who) (reverse (take m part)) ≡ last_of (on n who) es (first + m)
  unfolding last_of
  found_in zero h = sym (last_none (on n who) es (first + 0) (λ i l. let b = rw (at i (omega arith)) at (before i (omega arith)) in other_cycle es i n who (λ e. omega (arith, b))))
  found_in (suc m) h =
      let more = found_in m (omega arith) in
      let e : first + suc m ≡ suc (first + m) = omega arith in
      let least = rw (at (first + m) (omega arith)) at (from (first + m) (omega arith) (omega arith)) in
      let now : (entry es (first + m)).when ≡ n = omega (arith, least, upto (first + m) (omega arith)) in
      let same : entry part m ≡ entry es (first + m) = get_or-drop first (take past es) m no_entry ∙ at (first + m) (omega arith) in
      rw e (find_from_end (about who) part m (omega (arith, long)) ∙ rw (same, more, eq-eqb _ _ now) refl)

  pub found_in_part : find (about who) (reverse part) ≡ last_of (on n who) es (length es)
  found_in_part =
      let all : take (past - first) part ≡ part = take_all (past - first) part (omega (arith, long)) in
      let end : first + (past - first) ≡ past = omega arith in
      rw (all, end) at (found_in (past - first) (omega arith)) ∙ sym (last_rest (on n who) es past (length es) fits (λ i a b. other_cycle es i n who (λ e. omega (arith, after i a b))))
