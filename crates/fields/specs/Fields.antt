-- The fields of a line: numbers, and a table by its name.
use Rattle.std.specs.Prelude.{◌≡◌, ℕ, zero, suc, ◌+◌, ◌-◌, ◌^◌, Bool, true, false, cond, List, [], ◌∷◌, map, position, Some, None, Ok, Err, Option, Result, MatchOption, MatchResult, ◌==◌, slice_index_or}
use Rattle.std.specs.Option.{option_eq}
use Rattle.std.specs.Str.{bytes_eq}
use Rattle.circuit.specs.Gate.{tables}
use Rattle.lines.specs.Numbers.{number, IsNext}
use Rattle.lines.specs.declared.Unread.{Unread}
use Rattle.lines.specs.declared.Unread.TheVariants.{NoDigit, TooLarge}
use Rattle.fields.specs.declared.fault.Expected.{Expected}
use Rattle.fields.specs.declared.fault.Expected.TheVariants.{Number, Small, Table}

-- the table that a word names
unfoldable pub named : List ℕ → Option ℕ
named w = position (bytes_eq w) (map (λ t. t.0) tables)

-- the name of a table; empty past the sixteen
abbrev pub name_of : ℕ → List ℕ
name_of t = (slice_index_or tables t ([], λ a b. false)).0

abbrev pub or_fault : Option ℕ → Result ℕ Expected
or_fault (Some t) = Ok t
or_fault None = Err Table

-- what was expected in place of a word that is no number
abbrev pub wanted : Unread → Expected
wanted NoDigit = Number
wanted TooLarge = Small

-- the largest number that is read; where numbers are capped, a larger one is read as this
abbrev pub cap : ℕ
cap = 2 ^ 32 - 1

-- a number that was read, or what was expected in its place: where a table may stand, its name or its number
abbrev pub read_as : (capped table : Bool) → List ℕ → Result ℕ Unread → Result ℕ Expected
read_as capped table w (Ok x) = Ok x
read_as capped table w (Err TooLarge) = cond capped (Ok cap) (Err (wanted TooLarge))
read_as capped table w (Err NoDigit) = cond table (or_fault (named w)) (Err (wanted NoDigit))

-- the number that a word stands for
unfoldable pub field : (capped table : Bool) → List ℕ → Result ℕ Expected
field capped table w = read_as capped table w (number w)

-- one value before the others, unless their count is wrong; or the first fault
abbrev pub also : Result ℕ Expected → Result (Option (List ℕ)) Expected → Result (Option (List ℕ)) Expected
also (Err e) r = Err e
also (Ok x) (Err e) = Err e
also (Ok x) (Ok None) = Ok None
also (Ok x) (Ok (Some xs)) = Ok (Some (x ∷ xs))

-- whether column i is the one where a table may stand
abbrev pub may_be_table : Option ℕ → ℕ → Bool
may_be_table c i = option_eq (λ a b. a == b) c (Some i)

-- just n numbers, of which the first is in column i and a table may stand in column c; None where there are fewer or more.
-- Words are looked at from left to right, and no further than the first fault or one word too many
unfoldable pub fields : (capped : Bool) (c : Option ℕ) (i n : ℕ) → List (List ℕ) → Result (Option (List ℕ)) Expected
fields capped c i zero [] = Ok (Some [])
fields capped c i zero (w ∷ ws) = Ok None
fields capped c i (suc n) [] = Ok None
fields capped c i (suc n) (w ∷ ws) = also (field capped (may_be_table c i) w) (fields capped c (i + 1) n ws)

-- the answer r for the next of some words, ws, after which others are left
abbrev pub NextField : (capped table : Bool) (ws others : List (List ℕ)) → Result (Option ℕ) Expected → Type 0
NextField capped table ws others r =
    MatchResult r
    (λ x. MatchOption x (ws ≡ []) (λ n. IsNext (field capped table) ws n others))
    (λ e. (w : List ℕ) × (ws ≡ w ∷ others) × (field capped table w ≡ Err e))

-- the answer r where a line's numbers are f, and out has them if they are all that the line has
abbrev pub FieldsRead : Result (Option (List ℕ)) Expected → (out : List ℕ) → Result Bool Expected → Type 0
FieldsRead f out (Ok true) = f ≡ Ok (Some out)
FieldsRead f out (Ok false) = f ≡ Ok None
FieldsRead f out (Err e) = f ≡ Err e
