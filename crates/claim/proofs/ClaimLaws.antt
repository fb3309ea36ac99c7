-- Laws of claims.
use Rattle.std.proofs.Common.{◌≡◌, ◌++◌, true, ◌∷◌, map, length, Some, Ok, refl, ap, ◌∙◌}
use Rattle.std.specs.Fmt.{signed_decimal}
use Rattle.lines.specs.Words.{blank}
use Rattle.writing.proofs.LineLaws.{IsWord, AreWords, spaced, lines_line, words_line}
use Rattle.claim.specs.Claims.{text_of, named, word_of, numbers_of, count_of, claim_with, claim_of, claim_fits, ClaimsAreRead}
use Rattle.claim.specs.declared.kinds.Claim.{Claim}
use Rattle.claim.specs.declared.kinds.Claim.TheVariants as claim
use Rattle.claim.specs.declared.word.Word.{Word}
use Rattle.claim.specs.declared.word.Word.TheVariants.{Passed, TooLate, TooEarly, From, Through, Margins, Smallest, Period}
use Rattle.claim.proofs.NumberLaws.{words_signed, last_signed}

pub word_of_claim : (w : Word) → IsWord (text_of w)
unfolding blank
word_of_claim Passed = refl
word_of_claim TooLate = refl
word_of_claim TooEarly = refl
word_of_claim From = refl
word_of_claim Through = refl
word_of_claim Margins = refl
word_of_claim Smallest = refl
word_of_claim Period = refl

named_back : (w : Word) → named (text_of w) ≡ Some w
unfolding named
named_back Passed = refl
named_back TooLate = refl
named_back TooEarly = refl
named_back From = refl
named_back Through = refl
named_back Margins = refl
named_back Smallest = refl
named_back Period = refl

-- a claim has as many numbers as its word wants, and is the claim with them
counted : (c : Claim) → length (numbers_of c) ≡ count_of (word_of c)
counted claim.Passed = refl
counted (claim.TooLate s) = refl
counted (claim.TooEarly s) = refl
counted (claim.From s) = refl
counted (claim.Through s i) = refl
counted (claim.Margins s h) = refl
counted (claim.Smallest s h) = refl
counted (claim.Period p) = refl

back : (c : Claim) → claim_with (word_of c) (numbers_of c) ≡ c
back claim.Passed = refl
back (claim.TooLate s) = refl
back (claim.TooEarly s) = refl
back (claim.From s) = refl
back (claim.Through s i) = refl
back (claim.Margins s h) = refl
back (claim.Smallest s h) = refl
back (claim.Period p) = refl

pub words_of_claim : (c : Claim) → claim_fits c ≡ true → AreWords (map signed_decimal (numbers_of c))
words_of_claim c h = words_signed (numbers_of c) h

pub claim_back : (c : Claim) → claim_fits c ≡ true → claim_of (text_of (word_of c) ∷ map signed_decimal (numbers_of c)) ≡ Ok c
unfolding claim_of
claim_back c h =
    rw (named_back (word_of c), ← counted c, last_signed (length (numbers_of c)) (numbers_of c) h, back c) refl

pub claims_are_read : ClaimsAreRead
claims_are_read c more h =
    let w = text_of (word_of c) in
    let ws = map signed_decimal (numbers_of c) in
    let word = word_of_claim (word_of c) in
    let are = words_of_claim c h in
    (w ++ spaced ws, lines_line w ws word are more, ap claim_of (words_line w ws word are) ∙ claim_back c h)
