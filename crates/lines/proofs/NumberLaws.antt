-- Laws of `number`.
use Rattle.std.proofs.Common.{◌≡◌, ℕ, ◌+◌, ◌-◌, ◌*◌, ◌^◌, ◌<◌, ◌≤◌, ◌⊎◌, min, true, List, [], ◌∷◌, length, get_or, take, drop, Ok, Err, sym, refl, ap, subst, ◌∙◌, inl, inr, ne_eqb, arith}
use Rattle.std.specs.Str.Parse.{digits_value, AllDigits}
use Rattle.std.specs.Int.{IsInRange}
use Rattle.std.specs.List.{prefix_len}
use Rattle.std.specs.Str.{all_ascii_digits}
use Rattle.std.proofs.lemmas.Int.Digits.{digits_value_more, digits_more}
use Rattle.std.proofs.lemmas.List.{take_all, get_or-take, length-take}
use Rattle.std.proofs.lemmas.List.Folds.{length-prefix_len}
use Rattle.std.proofs.lemmas.List.Sums.{prefix_len_is, prefix_len-drop_all, prefix_len-drop_no, prefix_len-drop_yes, prefix_len-le-length, prefix_len_stops}
use Rattle.std.proofs.lemmas.Str.Parse.{IsNumeralModel, numerals_by_value, tells_all_ascii_digits, digit_at}
use Rattle.std.proofs.lemmas.Str.{digit_value_digit}
use Rattle.std.proofs.lemmas.Bool.{cases_Bool, cases_lt, lt-ltb, le-ltb, true≢false}
use Rattle.lines.specs.declared.Unread.TheVariants.{NoDigit, TooLarge}
use Rattle.lines.specs.Numbers.{number, FirstDigits, FirstNumber, IsNoNumber}
use Rattle.lines.specs.Words.{blank, ink, words}
use Rattle.lines.proofs.WordLaws.{no_words, words_at_ink, words_past_blanks}

pub own : IsNumeralModel (λ ds. all_ascii_digits ds ≡ true) (digits_value 10)
own = numerals_by_value _ tells_all_ascii_digits

pub one_more : (w : List ℕ) (i n b : ℕ) → i < length w → b ≡ get_or w i 0 → IsInRange 48 57 b → FirstDigits w i n → FirstDigits w (i + 1) (min (n * 10 + (b - 48)) (2 ^ 32))
one_more w i n b lt e d s =
    let d' : IsInRange 48 57 (get_or w i 0) = (omega arith, omega arith) in
    let v = digit_value_digit (get_or w i 0) d' in
    (digits_more 10 w i lt s.0 (omega arith), omega (arith, digits_value_more 10 w i lt))

pub done : (w : List ℕ) (i n : ℕ) → 0 < length w → length w ≤ i → FirstDigits w i n → n < 2 ^ 32 → Ok n ≡ number w
unfolding number
done w i n some whole s h =
    let all = take_all i w whole in
    let d : AllDigits 10 w = rw all at s.0 in
    let e : n ≡ min (digits_value 10 w) (2 ^ 32) = rw all at s.1 in
    let v : digits_value 10 w ≡ n = omega arith in
    let t = own.from w d in
    simp (lt-ltb 0 (length w) some, t, v, lt-ltb n (2 ^ 32) h)

pub large : (w : List ℕ) (i n : ℕ) → 0 < length w → length w ≤ i → FirstDigits w i n → 2 ^ 32 ≤ n → Err TooLarge ≡ number w
unfolding number
large w i n some whole s h =
    let all = take_all i w whole in
    let d : AllDigits 10 w = rw all at s.0 in
    let e : n ≡ min (digits_value 10 w) (2 ^ 32) = rw all at s.1 in
    let v : 2 ^ 32 ≤ digits_value 10 w = omega arith in
    let t = own.from w d in
    simp (lt-ltb 0 (length w) some, t, le-ltb (digits_value 10 w) (2 ^ 32) v)

pub none : (w : List ℕ) → length w ≡ 0 → Err NoDigit ≡ number w
unfolding number
none [] e = refl
none (b ∷ w) e = absurd (omega arith)

pub strange : (w : List ℕ) (i : ℕ) → i < length w → (IsInRange 48 57 (get_or w i 0) → ⊥) → Err NoDigit ≡ number w
unfolding number
strange w i lt no_digit =
    elim (cases_Bool (all_ascii_digits w)) [
      | inl e ↦ absurd (no_digit (digit_at w i (own.to w e) lt))
      | inr e ↦ simp (e, lt-ltb 0 (length w) (omega arith))
    ]

-- where the first i bytes are digits, and no digit follows them, a word that they are not is no number
pub no_number : (w : List ℕ) (i : ℕ) → (i < length w → IsInRange 48 57 (get_or w i 0) → ⊥) → (i ≡ 0) ⊎ ((i ≡ 0 → ⊥) × (i < length w)) → Err NoDigit ≡ number w
no_number [] i stops (inl zero) = none [] refl
no_number (b ∷ bs) i stops (inl zero) = let lt : i < length (b ∷ bs) = omega (arith, zero) in strange (b ∷ bs) i lt (stops lt)
no_number w i stops (inr e) = strange w i e.1 (stops e.1)

-- a digit is no blank
inky : (b : ℕ) → IsInRange 48 57 b → ink b ≡ true
unfolding blank
inky b d = rw (ne_eqb b 32 (λ e. absurd (omega (arith, e, d))), ne_eqb b 9 (λ e. absurd (omega (arith, e, d))), ne_eqb b 13 (λ e. absurd (omega (arith, e, d)))) refl

-- digits up to a blank or the end are the first word
pub ink_digits : (s : List ℕ) (i : ℕ) → i ≤ length s → AllDigits 10 (take i s) → prefix_len ink (drop i s) ≡ 0 → prefix_len ink s ≡ i
ink_digits s i within digits ends =
    prefix_len_is ink s i 0 within
    (λ k lt. ap ink (sym (get_or-take i s k 0 lt)) ∙ inky (get_or (take i s) k 0) (digit_at (take i s) k digits (omega (arith, length-take i s))))
    (λ lt. elim (cases_Bool (ink (get_or s i 0))) [
      | inl e ↦ absurd (let z = prefix_len-drop_yes ink s i 0 lt e in omega (arith, z, ends))
      | inr e ↦ e
    ])

-- the first word is a number: blanks, digits, and a blank or the end
pub number_first : (s rest after : List ℕ) (i n : ℕ) → rest ≡ drop (prefix_len blank s) s → after ≡ drop i rest → i ≤ length rest → 0 < i → FirstDigits rest i n → n < 2 ^ 32 → prefix_len ink after ≡ 0 → FirstNumber s n after
number_first s rest after i n rest_is after_is within some digits small ends =
    let k : prefix_len ink rest ≡ i = ink_digits rest i within digits.0 (sym (ap (prefix_len ink) after_is) ∙ ends) in
    let w = take i rest in
    let size : length w ≡ i = length-take i rest ∙ omega (arith, within) in
    let again : take i w ≡ w = take_all i w (omega (arith, size)) in
    let first : words rest ≡ take (prefix_len ink rest) rest ∷ words (drop (prefix_len ink rest) rest) = words_at_ink rest (omega (arith, k, some)) in (
      w,
      words_past_blanks s ∙ ap words (sym rest_is) ∙ first ∙ ap (λ m. take m rest ∷ words (drop m rest)) k ∙ ap (λ x. w ∷ words x) (sym after_is),
      sym (done w i n (omega (arith, size, some)) (omega (arith, size)) (rw again digits) small),
    )

-- the digits in front of a word that they are not, or that is too large, or of no word
module _ (s rest : List ℕ) (i n : ℕ) (rest_is : rest ≡ drop (prefix_len blank s) s) (within : i ≤ length rest) (digits : FirstDigits rest i n) (stops : i < length rest → IsInRange 48 57 (get_or rest i 0) → ⊥) where
  inky_digit : (k : ℕ) → k < i → ink (get_or rest k 0) ≡ true
  inky_digit k lt = ap ink (sym (get_or-take i rest k 0 lt)) ∙ inky (get_or (take i rest) k 0) (digit_at (take i rest) k digits.0 (omega (arith, length-take i rest)))

  least : i ≤ prefix_len ink rest
  least = elim (cases_lt (prefix_len ink rest) i) [
    | inl lt ↦ absurd (true≢false (sym (inky_digit (prefix_len ink rest) lt) ∙ prefix_len_stops ink rest 0 (omega (arith, lt, within))))
    | inr le ↦ le
  ]

  no_more : prefix_len ink rest ≡ i → prefix_len ink (drop i rest) ≡ 0
  no_more e = elim (cases_lt i (length rest)) [
    | inl lt ↦ prefix_len-drop_no ink rest i 0 lt (ap (λ k. ink (get_or rest k 0)) (sym e) ∙ prefix_len_stops ink rest 0 (omega (arith, e, lt)))
    | inr le ↦ prefix_len-drop_all ink rest i le
  ]

  module _ (w : List ℕ) (r : List (List ℕ)) (first : words s ≡ w ∷ r) where
    words_rest : words s ≡ words rest
    words_rest = words_past_blanks s ∙ ap words (sym rest_is)

    some : 0 < prefix_len ink rest
    some = elim (cases_lt 0 (prefix_len ink rest)) [
      | inl lt ↦ lt
      | inr le ↦ absurd (let e : words s ≡ [] = no_words s (ap (prefix_len ink) (sym rest_is) ∙ omega (arith, le)) in let z : [] ≡ w ∷ r = sym e ∙ first in cc)
    ]

    word_is : w ≡ take (prefix_len ink rest) rest
    word_is =
        let e : w ∷ r ≡ take (prefix_len ink rest) rest ∷ words (drop (prefix_len ink rest) rest) = sym first ∙ words_rest ∙ words_at_ink rest some in cc

    size : length w ≡ prefix_len ink rest
    size = ap length word_is ∙ length-prefix_len ink rest

    -- the word goes on behind the digits
    goes_on : i < prefix_len ink rest → Err NoDigit ≡ number w
    goes_on lt =
        let there : i < length rest = omega (arith, lt, prefix_len-le-length ink rest) in
        let same : get_or w i 0 ≡ get_or rest i 0 = ap (λ v. get_or v i 0) word_is ∙ get_or-take (prefix_len ink rest) rest i 0 lt in
        strange w i (omega (arith, size, lt)) (λ d. stops there (subst (IsInRange 48 57) same d))

    -- the word is the digits, and too large
    too_large : prefix_len ink rest ≡ i → n ≡ 2 ^ 32 → Err TooLarge ≡ number w
    too_large e limit =
        let is : take i rest ≡ w = ap (λ k. take k rest) (sym e) ∙ sym word_is in
        let again : take i w ≡ w = take_all i w (omega (arith, size, e)) in
        large w i n (omega (arith, size, some)) (omega (arith, size, e)) (rw again (rw is at digits)) (omega (arith, limit))

  pub none_first : (i ≡ 0) ⊎ ((n ≡ 2 ^ 32) ⊎ (prefix_len ink (drop i rest) ≡ 0 → ⊥)) → IsNoNumber (words s)
  none_first why w r m first ok = elim (cases_lt i (prefix_len ink rest)) [
    | inl lt ↦ absurd (let e = goes_on w r first lt ∙ ok in cc)
    | inr le ↦ let e : prefix_len ink rest ≡ i = omega (arith, le, least) in elim why [
      | inl zero ↦ absurd (omega (arith, some w r first, e, zero))
      | inr (inl limit) ↦ absurd (let f = too_large w r first e limit ∙ ok in cc)
      | inr (inr on) ↦ on (no_more e)
    ]
  ]
