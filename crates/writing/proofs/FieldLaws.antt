-- Laws of written fields: each number and each table's name is a word, and is read as itself.
use Rattle.std.proofs.Common.{◌≡◌, ℕ, ◌+◌, ◌^◌, ◌<◌, Bool, true, false, eqb, List, [], ◌∷◌, length, map, Some, Ok, Err, Option, Result, refl, ap, arith}
use Rattle.std.specs.Fmt.{decimal}
use Rattle.std.specs.Int.{IsInRange}
use Rattle.std.specs.List.{list_all}
use Rattle.std.specs.Str.{all_ascii_digits}
use Rattle.std.proofs.lemmas.Bool.{ne_eqb, lt-ltb, eqb-true}
use Rattle.std.proofs.lemmas.Fmt.{digits_decimal, digits_value-decimal, decimal_nonempty}
use Rattle.std.proofs.lemmas.Str.Parse.{tells_all_ascii_digits}
use Rattle.circuit.proofs.Tables.{at}
use Rattle.lines.specs.Words.{blank}
use Rattle.lines.specs.Numbers.{number}
use Rattle.lines.proofs.NumberLaws.{own}
use Rattle.fields.specs.Fields.{name_of, named, field, fields}
use Rattle.fields.specs.declared.fault.Expected.{Expected}
use Rattle.writing.proofs.LineLaws.{dark, is_word, IsWord, AreWords}

-- numbers that can be read
abbrev pub AreSmall : List ℕ → Type 0
AreSmall [] = Unit {0}
AreSmall (n ∷ ns) = (n < 2 ^ 32) × AreSmall ns

dark_digit : (c : ℕ) → IsInRange 48 57 c → dark c ≡ true
unfolding blank
dark_digit c h = simp (ne_eqb c 32 (λ e. omega arith), ne_eqb c 9 (λ e. omega arith), ne_eqb c 13 (λ e. omega arith), ne_eqb c 10 (λ e. omega arith), ne_eqb c 35 (λ e. omega arith))

pub dark_digits : (ds : List ℕ) → all_ascii_digits ds ≡ true → list_all dark ds ≡ true
dark_digits [] h = refl
dark_digits (c ∷ cs) h = let p = tells_all_ascii_digits.parts c cs h in rw (dark_digit c p.0, dark_digits cs p.1) refl

pub word_from : (w : List ℕ) → 0 < length w → list_all dark w ≡ true → IsWord w
word_from [] h d = absurd (omega arith)
word_from (b ∷ bs) h d = d

pub word_decimal : (n : ℕ) → n < 2 ^ 32 → IsWord (decimal n)
word_decimal n h = word_from (decimal n) (decimal_nonempty n (omega arith)) (dark_digits (decimal n) (digits_decimal own n (omega arith)))

pub words_decimal : (ns : List ℕ) → AreSmall ns → AreWords (map decimal ns)
words_decimal [] h = refl
words_decimal (n ∷ ns) h = rw (word_decimal n h.0, words_decimal ns h.1) refl

number_decimal : (n : ℕ) → n < 2 ^ 32 → number (decimal n) ≡ Ok n
unfolding number
number_decimal n h =
    let d = digits_decimal own n (omega arith) in
    let v = digits_value-decimal own n (omega arith) in
    simp (lt-ltb 0 (length (decimal n)) (decimal_nonempty n (omega arith)), d, v, lt-ltb n (2 ^ 32) h)

pub field_decimal : (table : Bool) (n : ℕ) → n < 2 ^ 32 → field true table (decimal n) ≡ Ok n
unfolding field
field_decimal table n h = rw (number_decimal n h) refl

pub fields_decimal : (c : Option ℕ) (i : ℕ) (ns : List ℕ) → AreSmall ns → fields true c i (length ns) (map decimal ns) ≡ Ok (Some ns)
unfolding fields
fields_decimal c i [] h = refl
fields_decimal c i (n ∷ ns) h = rw (field_decimal _ n h.0, fields_decimal c (i + 1) ns h.1) refl

-- whether a field was read as the number t
abbrev is_read : ℕ → Result ℕ Expected → Bool
is_read t (Ok x) = eqb x t
is_read t (Err e) = false

read_is : (t : ℕ) (r : Result ℕ Expected) → is_read t r ≡ true → r ≡ Ok t
read_is t (Ok x) h = ap Ok (eqb-true x t h)
read_is t (Err e) h = absurd (let z : false ≡ true = h in cc)

-- one test that is computed over the sixteen names
pub word_name : (t : ℕ) → t < 16 → IsWord (name_of t)
unfolding blank
word_name t h = at (λ t. is_word (name_of t)) 16 refl t h

pub field_name : (t : ℕ) → t < 16 → field true true (name_of t) ≡ Ok t
unfolding field named number
field_name t h = read_is t (field true true (name_of t)) (at (λ t. is_read t (field true true (name_of t))) 16 refl t h)
