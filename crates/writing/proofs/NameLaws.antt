-- Laws of names that can be read again.
use Rattle.std.proofs.Common.{◌≡◌, ℕ, ◌≤◌, true, List, [], ◌∷◌, nat_le, Ok, Err, Result, MatchResult, arith}
use Rattle.std.specs.Borrow.{Bor}
use Rattle.std.specs.Result.{result_ok}
use Rattle.std.specs.List.{list_all}
use Rattle.std.specs.Str.{IsUtf8, IsAscii}
use Rattle.std.proofs.lemmas.Bool.{and_parts, leb-true}
use Rattle.std.proofs.lemmas.Str.{IsUtf8-from_ascii}
use Rattle.std.proofs.lemmas.Str.Ascii.{IsAscii-nil, IsAscii-cons}
use Rattle.text.specs.Meaning.{printable}
use Rattle.lines.specs.Words.{plain}
use Rattle.writing.specs.Written.{nameable, IsTitled}

pub printed : (b : ℕ) → nameable b ≡ true → (33 ≤ b) × (b ≤ 126)
printed b h = let p = and_parts (nat_le 33 b) (nat_le b 126) (and_parts (printable b) (plain b) h).0 in (leb-true 33 b p.0, leb-true b 126 p.1)

name_ascii : (name : List ℕ) → list_all nameable name ≡ true → IsAscii name
name_ascii [] h = IsAscii-nil
name_ascii (b ∷ bs) h = let p = and_parts (nameable b) (list_all nameable bs) h in IsAscii-cons b bs (omega (arith, printed b p.0)) (name_ascii bs p.1)

pub name_utf8 : (name : List ℕ) → list_all nameable name ≡ true → IsUtf8 name
name_utf8 name h = IsUtf8-from_ascii name (name_ascii name h)

-- what `from_utf8` makes of such a name
pub titled : {E : Type 0} (A : Type 0) (B : E → Type 0) (name : List ℕ) → list_all nameable name ≡ true → (r : Result (Bor (List ℕ)) E) → MatchResult r (λ s. (s.now ≡ name) × A) (λ e. ¬ (IsUtf8 name) × B e) → IsTitled name (result_ok r)
titled A B name all (Ok s) is = (all, is.0)
titled A B name all (Err e) is = absurd (is.0 (name_utf8 name all))
