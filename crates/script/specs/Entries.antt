-- Statements of one kind, in order.
use Rattle.std.specs.Prelude.{◌≡◌, ℕ, zero, suc, ◌<◌, Bool, true, false, cond, ◌&&◌, List, [], ◌∷◌, ◌++◌, length, Some, None, Option, ◌==◌, nat_le, slice_index_or}
use Rattle.std.specs.List.Sorted.{IsNonDecreasingBy}
use Rattle.script.specs.declared.entry.Entry.{Entry}

abbrev pub no_entry : Entry
no_entry = record { line = 0; when = 0; who = 0; one = 0; two = 0 }

-- statement i
abbrev pub entry : List Entry → ℕ → Entry
entry es i = slice_index_or es i no_entry

-- 1 is the bit 1
abbrev pub bit_said : Entry → Bool
bit_said e = e.one == 1

-- the last of the first n statements for which a test holds
unfoldable pub last_of : (Entry → Bool) → List Entry → ℕ → Option Entry
last_of test es zero = None
last_of test es (suc n) = cond (test (entry es n)) (Some (entry es n)) (last_of test es n)

-- it speaks of this gate or register
abbrev pub about : (who : ℕ) → Entry → Bool
about who e = e.who == who

-- it speaks of this gate or register from moment t or an earlier one on
abbrev pub due : (t who : ℕ) → Entry → Bool
due t who e = nat_le e.when t && about who e

-- it speaks of this register in cycle n
abbrev pub on : (n who : ℕ) → Entry → Bool
on n who e = e.when == n && about who e

-- statements come in order of their moments or cycles
abbrev pub Ordered : List Entry → Type 0
Ordered es = IsNonDecreasingBy (λ (e : Entry). e.when) es

-- a statement was added to a list, true; or it would stand out of order in it, false, and the list is as it was
abbrev pub Added : Entry → (es es' : List Entry) → Bool → Type 0
Added e es es' true = (es' ≡ es ++ (e ∷ [])) × Ordered es'
Added e es es' false = ((i : ℕ) × (i < length es) × (e.when < (entry es i).when)) × (es' ≡ es)

-- the last statement of a kind about a gate or register that is due at moment t; the last that speaks of it in cycle n
abbrev pub said_by : List Entry → (t who : ℕ) → Option Entry
said_by es t who = last_of (due t who) es (length es)

abbrev pub said_in : List Entry → (n who : ℕ) → Option Entry
said_in es n who = last_of (on n who) es (length es)
