-- Places of a history: what is kept where, and what keeps out of its way.
use Rattle.std.proofs.Common.{◌≡◌, ℕ, ◌+◌, ◌-◌, ◌*◌, ◌/◌, ◌%◌, ◌^◌, ◌<◌, ◌≤◌, Bool, false, ◌&&◌, ltb, get_or, replicate, vec_items, vec_len, sym, refl, ap, ◌∙◌, inl, inr, arith}
use native.Mathlib.Nat.{zero-div}
use Rattle.std.proofs.lemmas.List.{get_or-replicate, get_or_past, length-replicate}
use Rattle.std.proofs.lemmas.Nat.{pow_pos, mul-add-lt, div-mul-add, mod-mul-add, mod_below, div-add-mod'}
use Rattle.std.proofs.lemmas.Bool.{cases_lt, lt-ltb, and_right}
use Rattle.history.specs.declared.history.History.{History}
use Rattle.history.specs.Kept.{bit_in, place, kept, Put, Fresh}

-- two moments less than h apart that have one place are one
same_moment : (h t u : ℕ) → 0 < h → u < t + h → t < u + h → u % h ≡ t % h → u ≡ t
same_moment h t u pos l b e =
    let a = div-add-mod' u h in
    let d = div-add-mod' t h in
    elim (cases_lt (u / h) (t / h)) [
      | inl q ↦ absurd (apart (u / h) (t / h) u t (t / h - u / h - 1) (omega arith) a d e b)
      | inr q ↦ elim (cases_lt (t / h) (u / h)) [
        | inl p ↦ absurd (apart (t / h) (u / h) t u (u / h - t / h - 1) (omega arith) d a (sym e) l)
        | inr p ↦ let s : u / h ≡ t / h = omega arith in sym a ∙ ap (λ (n : ℕ). n * h + u % h) s ∙ ap (λ (n : ℕ). t / h * h + n) e ∙ d
      ]
    ]
  where
    apart : (x y u t n : ℕ) → y ≡ x + 1 + n → x * h + u % h ≡ u → y * h + t % h ≡ t → u % h ≡ t % h → t < u + h → ⊥
    apart x y u t n s a d e b = omega (arith, ap (λ (v : ℕ). v * h) s)

module _ (log : ℕ) where
  place_row : (k u : ℕ) → place log k u / 2 ^ log ≡ k
  place_row k u = div-mul-add k (2 ^ log) (u % 2 ^ log) (mod_below u (2 ^ log) (pow_pos log))

  place_moment : (k u : ℕ) → place log k u % 2 ^ log ≡ u % 2 ^ log
  place_moment k u = mod-mul-add k (2 ^ log) (u % 2 ^ log) (mod_below u (2 ^ log) (pow_pos log))

  -- what is less than the span away in the same row, or in another one, has another place
  pub elsewhere : (row at r u : ℕ) → (r ≡ row → (u ≡ at → ⊥) × (u < at + 2 ^ log) × (at < u + 2 ^ log)) → place log r u ≡ place log row at → ⊥
  elsewhere row at r u away e =
      let rs : r ≡ row = sym (place_row r u) ∙ ap (λ (n : ℕ). n / 2 ^ log) e ∙ place_row row at in
      let us : u % 2 ^ log ≡ at % 2 ^ log = sym (place_moment r u) ∙ ap (λ (n : ℕ). n % 2 ^ log) e ∙ place_moment row at in
      let a = away rs in
      a.0 (same_moment (2 ^ log) at u (pow_pos log) a.1 a.2 us)

  pub place_in : (rows row at n : ℕ) → row < rows → rows * 2 ^ log ≤ 64 * n → place log row at / 64 < n
  place_in rows row at n h room = omega (arith, mul-add-lt row (2 ^ log) (at % 2 ^ log) rows h (mod_below at (2 ^ log) (pow_pos log)))

-- one bit was put, as the words say it
pub put_into : (before after : History) (row at i : ℕ) (b : Bool) → after.rows ≡ before.rows → after.log ≡ before.log → row < before.rows → i ≡ place before.log row at →
    bit_in (vec_items after.words) i ≡ b → ((j : ℕ) → (j ≡ i → ⊥) → bit_in (vec_items after.words) j ≡ bit_in (vec_items before.words) j) → Put before after row at b
unfolding kept
put_into before after row at i b rows log h spot here other = record {
  rows_same = rows;
  span_same = ap (λ (n : ℕ). 2 ^ n) log;
  here = λ _. rw (rows, log, lt-ltb _ _ h, ← spot) here;
  other = λ r u away. rw (rows, log) (ap (◌&&◌ (ltb r before.rows)) (other (place before.log r u) (λ e. elsewhere before.log row at r u away (e ∙ spot))));
}

-- nothing was put where there is no row
pub put_nowhere : (h : History) (row at : ℕ) (b : Bool) → h.rows ≤ row → Put h h row at b
put_nowhere h row at b past = record { rows_same = refl; span_same = refl; here = λ l. absurd (omega arith); other = λ r u away. refl }

none_in : (n i : ℕ) → bit_in (replicate n 0) i ≡ false
unfolding bit_in
none_in n i =
    let z : ◌≡◌ {A = ℕ} (get_or (replicate n 0) (i / 64) 0) 0 = elim (cases_lt (i / 64) n) [ inl l ↦ get_or-replicate n (i / 64) 0 0 l | inr l ↦ get_or_past (replicate n 0) (i / 64) 0 (omega (arith, length-replicate {A = ℕ} n 0)) ] in
    rw (z, zero-div (2 ^ (i % 64)))

-- a new history
pub fresh_of : (h : History) (rows n words : ℕ) → h.rows ≡ rows → n < 2 ^ h.log → 2 ^ h.log ≤ 2 * n + 1 → vec_items h.words ≡ replicate words 0 → vec_len h.words ≡ words → 64 * words < rows * 2 ^ h.log + 64 → Fresh h rows n
unfolding kept
fresh_of h rows n words e long short items len small = record {
  rows_are = e;
  long = long;
  short = short;
  small = rw len small;
  none = λ r u. rw items (and_right _ _ (none_in words (place h.log r u)));
}
