-- The lines of claims, as they are written and read.
use Rattle.std.specs.Prelude.{◌≡◌, ℕ, Bool, true, List, [], ◌∷◌, ◌++◌, map, ℤ, pos, codes, find, Some, None, Ok, Err, Option, Result, slice_index_or}
use Rattle.std.specs.Fmt.{signed_decimal}
use Rattle.std.specs.List.{list_all}
use Rattle.std.specs.Str.{bytes_eq}
use Rattle.lines.specs.Words.{words, lines, bare}
use Rattle.fields.specs.declared.fault.Expected.{Expected}
use Rattle.fields.specs.declared.fault.Expected.TheVariants.{Claim as AClaim}
use Rattle.writing.specs.Written.{line_of}
use Rattle.claim.specs.Numbers.{fits, integers}
use Rattle.claim.specs.declared.kinds.Claim.{Claim}
use Rattle.claim.specs.declared.kinds.Claim.TheVariants as claim
use Rattle.claim.specs.declared.kinds.Sums.{Sums}
use Rattle.claim.specs.declared.kinds.Worst.{Worst}
use Rattle.claim.specs.declared.word.Word.{Word}
use Rattle.claim.specs.declared.word.Word.TheVariants.{Passed, TooLate, TooEarly, From, Through, Margins, Smallest, Period}

-- a claim's word, as it is written
abbrev pub text_of : Word → List ℕ
text_of Passed = codes "passed"
text_of TooLate = codes "too-late"
text_of TooEarly = codes "too-early"
text_of From = codes "from"
text_of Through = codes "through"
text_of Margins = codes "margins"
text_of Smallest = codes "smallest"
text_of Period = codes "period"

abbrev pub all_words : List Word
all_words = Passed ∷ TooLate ∷ TooEarly ∷ From ∷ Through ∷ Margins ∷ Smallest ∷ Period ∷ []

-- the word that is written so
unfoldable pub named : List ℕ → Option Word
named t = find (λ w. bytes_eq t (text_of w)) all_words

-- a claim's word, and its numbers in order
abbrev pub word_of : Claim → Word
word_of claim.Passed = Passed
word_of (claim.TooLate s) = TooLate
word_of (claim.TooEarly s) = TooEarly
word_of (claim.From s) = From
word_of (claim.Through s i) = Through
word_of (claim.Margins s h) = Margins
word_of (claim.Smallest s h) = Smallest
word_of (claim.Period p) = Period

abbrev pub sum_numbers : Sums → List ℤ
sum_numbers s = s.register ∷ s.arrival ∷ s.limit ∷ []

abbrev pub numbers_of : Claim → List ℤ
numbers_of claim.Passed = []
numbers_of (claim.TooLate s) = sum_numbers s
numbers_of (claim.TooEarly s) = sum_numbers s
numbers_of (claim.From s) = s ∷ []
numbers_of (claim.Through s i) = s ∷ i ∷ []
numbers_of (claim.Margins s h) = s ∷ h ∷ []
numbers_of (claim.Smallest s h) = s.register ∷ s.margin ∷ h.register ∷ h.margin ∷ []
numbers_of (claim.Period p) = p ∷ []

-- a claim's line: its word and its numbers
abbrev pub claim_line : Claim → List ℕ
claim_line c = line_of (text_of (word_of c)) (map signed_decimal (numbers_of c))

-- how many numbers stand after a word
abbrev pub count_of : Word → ℕ
count_of Passed = 0
count_of TooLate = 3
count_of TooEarly = 3
count_of From = 1
count_of Through = 2
count_of Margins = 2
count_of Smallest = 4
count_of Period = 1

-- number i, from 0
abbrev pub at : List ℤ → ℕ → ℤ
at zs i = slice_index_or zs i (pos 0)

-- the first four of some numbers, and zeros where there are fewer
abbrev pub four : List ℤ → List ℤ
four zs = at zs 0 ∷ at zs 1 ∷ at zs 2 ∷ at zs 3 ∷ []

abbrev pub sums_of : List ℤ → Sums
sums_of zs = record { register = at zs 0; arrival = at zs 1; limit = at zs 2 }

abbrev pub worst_of : (register margin : ℤ) → Worst
worst_of register margin = record { register = register; margin = margin }

-- the claim of a word and its numbers
abbrev pub claim_with : Word → List ℤ → Claim
claim_with Passed zs = claim.Passed
claim_with TooLate zs = claim.TooLate (sums_of zs)
claim_with TooEarly zs = claim.TooEarly (sums_of zs)
claim_with From zs = claim.From (at zs 0)
claim_with Through zs = claim.Through (at zs 0) (at zs 1)
claim_with Margins zs = claim.Margins (at zs 0) (at zs 1)
claim_with Smallest zs = claim.Smallest (worst_of (at zs 0) (at zs 1)) (worst_of (at zs 2) (at zs 3))
claim_with Period zs = claim.Period (at zs 0)

abbrev pub made : {A : Type 0} → (List ℤ → A) → Result (List ℤ) Expected → Result A Expected
made f (Ok zs) = Ok (f zs)
made f (Err e) = Err e

abbrev pub claimed : Option Word → List (List ℕ) → Result Claim Expected
claimed (Some w) ws = made (claim_with w) (integers (count_of w) ws)
claimed None ws = Err AClaim

-- the claim of a line's words, or what they should have been
unfoldable pub claim_of : List (List ℕ) → Result Claim Expected
claim_of [] = Err AClaim
claim_of (w ∷ ws) = claimed (named w) ws

-- whether a claim's numbers fit 64 bits, as they do wherever a claim is held
abbrev pub claim_fits : Claim → Bool
claim_fits c = list_all fits (numbers_of c)

-- A CLAIM IS READ AS ITSELF: its line is one line of a text, wherever it stands, and those words are of that claim
abbrev pub ClaimsAreRead : Type 0
ClaimsAreRead =
    (c : Claim) (more : List ℕ) → claim_fits c ≡ true
    → (l : List ℕ) × (lines (claim_line c ++ more) ≡ l ∷ lines more) × (claim_of (words (bare l)) ≡ Ok c)
