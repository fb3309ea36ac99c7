-- Laws of whole numbers as words.
use Rattle.std.proofs.Common.{◌≡◌, ℕ, suc, ◌^◌, true, false, eqb, List, [], ◌∷◌, map, length, ℤ, pos, negsuc, Ok, Err, Result, MatchResult, sym, refl, ap, ◌∙◌, inl, inr, arith}
use Rattle.std.specs.Fmt.{decimal, signed_decimal}
use Rattle.std.specs.Int.{w64}
use Rattle.std.specs.Int.RustNames.{FitsSigned}
use Rattle.std.specs.List.{list_all}
use Rattle.std.specs.Str.{IsUtf8, IsAscii}
use Rattle.std.specs.Str.Parse.{AllDigits, IsNumeral, ParsesSigned, without_leading_sign, signed_digits_value}
use lib.Signed.{mag}
use Rattle.std.proofs.lemmas.Bool.{and_parts, cases_Bool, lt-ltb, ltb-true, eqb-true}
use Rattle.std.proofs.lemmas.Fmt.{digits_decimal, decimal_nonempty, parse-signed_decimal, IsAscii-from_digits}
use Rattle.std.proofs.lemmas.Result.{OkIff-at_ok}
use Rattle.std.proofs.lemmas.Str.{IsUtf8-from_ascii}
use Rattle.std.proofs.lemmas.Str.Ascii.{IsAscii-nil, IsAscii-cons}
use Rattle.lines.specs.Words.{blank}
use Rattle.lines.proofs.NumberLaws.{own}
use Rattle.fields.specs.declared.fault.Expected.{Expected}
use Rattle.fields.specs.declared.fault.Expected.TheVariants.{Whole}
use Rattle.writing.proofs.LineLaws.{IsWord, AreWords}
use Rattle.writing.proofs.FieldLaws.{dark_digits, word_from}
use Rattle.claim.specs.Numbers.{fits, is_numeral, integer, last_of}

-- digits behind a sign, or behind none, of which the number fits
abbrev IsInteger : List ℕ → Type 0
IsInteger w = IsNumeral 10 (without_leading_sign w) × FitsSigned w64 (signed_digits_value 10 w)

tested : (w : List ℕ) → is_numeral (without_leading_sign w) ≡ true → fits (signed_digits_value 10 w) ≡ true → IsInteger w
tested w n f =
    let p = and_parts _ _ n in
    ((ltb-true 0 (length (without_leading_sign w)) p.0, own.to (without_leading_sign w) p.1), record { sfits = ltb-true (mag (signed_digits_value 10 w)) (2 ^ 63) f })

number_is : (w : List ℕ) → IsInteger w → integer w ≡ Ok (signed_digits_value 10 w)
unfolding integer
number_is w h = rw (lt-ltb 0 (length (without_leading_sign w)) h.0.0, own.from (without_leading_sign w) h.0.1, lt-ltb (mag (signed_digits_value 10 w)) (2 ^ 63) h.1.sfits) refl

no_number : (w : List ℕ) → (IsInteger w → ⊥) → integer w ≡ Err Whole
unfolding integer
no_number w h =
    elim (cases_Bool (is_numeral (without_leading_sign w))) [
      | inl n ↦ elim (cases_Bool (fits (signed_digits_value 10 w))) [ inl f ↦ absurd (h (tested w n f)) | inr f ↦ rw (n, f) refl ]
      | inr n ↦ rw n refl
    ]

-- what `parse` makes of a word, where each of its errors is that no whole number stands there
pub parsed : {E : Type 0} (w : List ℕ) (r : Result ℤ E) (q : Result ℤ Expected) → ParsesSigned w64 10 w r → MatchResult r (λ z. q ≡ Ok z) (λ _. q ≡ Err Whole) → q ≡ integer w
parsed w (Ok z) q h is = is ∙ ap Ok h.1 ∙ sym (number_is w h.0)
parsed w (Err e) q h is = is ∙ sym (no_number w h)

-- an integer is text
ascii : (w : List ℕ) → AllDigits 10 (without_leading_sign w) → IsAscii w
ascii [] h = IsAscii-nil
ascii (b ∷ bs) h =
    elim (cases_Bool (eqb b 45)) [
      | inl e ↦ IsAscii-cons b bs (omega (arith, eqb-true b 45 e)) (IsAscii-from_digits bs (simp e at h))
      | inr e ↦ elim (cases_Bool (eqb b 43)) [
        | inl f ↦ IsAscii-cons b bs (omega (arith, eqb-true b 43 f)) (IsAscii-from_digits bs (simp (e, f) at h))
        | inr f ↦ IsAscii-from_digits (b ∷ bs) (simp (e, f) at h)
      ]
    ]

pub no_text : (w : List ℕ) → ¬ (IsUtf8 w) → Err Whole ≡ integer w
no_text w h = sym (no_number w (λ n. h (IsUtf8-from_ascii w (ascii w n.0.1))))

-- `integer` is as `parse`
as_parsed : (w : List ℕ) → ParsesSigned w64 10 w (integer w)
as_parsed w =
    elim (cases_Bool (is_numeral (without_leading_sign w))) [
      | inl n ↦ elim (cases_Bool (fits (signed_digits_value 10 w))) [
        | inl f ↦ rw (number_is w (tested w n f)) (tested w n f, refl)
        | inr f ↦ let none : IsInteger w → ⊥ = λ h. let z : false ≡ true = sym f ∙ lt-ltb (mag (signed_digits_value 10 w)) (2 ^ 63) h.1.sfits in cc in rw (no_number w none) none
      ]
      | inr n ↦ let none : IsInteger w → ⊥ = λ h. let z : false ≡ true = sym n ∙ rw (lt-ltb 0 (length (without_leading_sign w)) h.0.0, own.from (without_leading_sign w) h.0.1) refl in cc in rw (no_number w none) none
    ]

pub integer_fits : (w : List ℕ) (z : ℤ) → integer w ≡ Ok z → FitsSigned w64 z
integer_fits w z e = let p = OkIff-at_ok (integer w) (IsInteger w) (signed_digits_value 10 w) z (as_parsed w) e in rw p.1 p.0.1

-- a number that is written is one word, and is read as itself
pub integer_signed : (z : ℤ) → fits z ≡ true → integer (signed_decimal z) ≡ Ok z
integer_signed z h =
    let low = ltb-true (mag z) (2 ^ 63) h in
    parse-signed_decimal w64 z (signed_decimal z) (integer (signed_decimal z)) (record { sfits = low }) low refl (as_parsed (signed_decimal z))

pub word_signed : (z : ℤ) → fits z ≡ true → IsWord (signed_decimal z)
unfolding blank
word_signed (pos n) h =
    let low = ltb-true n (2 ^ 63) h in
    word_from (decimal n) (decimal_nonempty n (omega arith)) (dark_digits (decimal n) (digits_decimal own n (omega arith)))
word_signed (negsuc n) h =
    let low = ltb-true n (2 ^ 63) h in
    rw (dark_digits (decimal (suc n)) (digits_decimal own (suc n) (omega arith))) refl

pub words_signed : (zs : List ℤ) → list_all fits zs ≡ true → AreWords (map signed_decimal zs)
words_signed [] h = refl
words_signed (z ∷ zs) h = let p = and_parts (fits z) (list_all fits zs) h in rw (word_signed z p.0, words_signed zs p.1) refl

pub last_signed : (n : ℕ) (zs : List ℤ) → list_all fits zs ≡ true → last_of n (length zs) (map signed_decimal zs) ≡ Ok zs
unfolding last_of
last_signed n [] h = refl
last_signed n (z ∷ zs) h = let p = and_parts (fits z) (list_all fits zs) h in rw (integer_signed z p.0, last_signed n zs p.1) refl
