-- What a text of circuits means.
use Rattle.std.specs.Prelude.{◌≡◌, ℕ, ◌+◌, ◌-◌, Bool, true, false, cond, ◌⊎◌, List, [], ◌∷◌, ◌++◌, Some, None, Ok, Err, vec_items, codes, Option, Result, MatchResult, ◌==◌, nat_lt}
use Rattle.std.specs.Borrow.{Bor}
use Rattle.std.specs.List.{list_all}
use Rattle.std.specs.Option.{option_map}
use Rattle.std.specs.Char.{is_ascii_graphic}
use Rattle.std.specs.Str.{bytes_eq}
use Rattle.circuit.specs.Refused.{place_of}
use Rattle.circuit.specs.declared.refusal.Refusal.{Refusal}
use Rattle.circuit.specs.declared.refusal.Refusal.TheVariants.{GateNumbers, RegisterNumbers, TimeNumbers}
use Rattle.lines.specs.Words.{words, bare}
use Rattle.fields.specs.Fields.{fields}
use Rattle.fields.specs.declared.fault.Expected.{Expected}
use Rattle.fields.specs.declared.fault.Expected.TheVariants.{Memory, Statement, Name, Nothing, Circuit as Opening, End as Ending}
use Rattle.fields.specs.declared.fault.Fault.{Fault}
use Rattle.text.specs.declared.draft.Draft.{Draft}
use Rattle.text.specs.declared.draft.Miscount.{Miscount}
use Rattle.text.specs.declared.draft.Keyword.{Keyword}
use Rattle.text.specs.declared.draft.Keyword.TheVariants.{Circuit, Times, Register, Gate, End}
use Rattle.text.specs.declared.part.Part.{Part}
use Rattle.text.specs.declared.part.Part.TheVariants.{Gates, Registers, Times as TimesPart}
use Rattle.text.specs.declared.draft.Progress.{Progress}
use Rattle.text.specs.declared.draft.Progress.TheVariants.{More, Done}

-- what the first word of a line says that the line is
abbrev pub meaning : List ℕ → Option Keyword
meaning w =
    cond (bytes_eq w (codes "gate")) (Some Gate)
    (cond (bytes_eq w (codes "register")) (Some Register)
    (cond (bytes_eq w (codes "times")) (Some Times)
    (cond (bytes_eq w (codes "circuit")) (Some Circuit)
    (cond (bytes_eq w (codes "end")) (Some End) None))))

-- what refuses a circuit where the numbers of a part are too few or too many
abbrev pub refusal_of : Part → Refusal
refusal_of Gates = GateNumbers
refusal_of Registers = RegisterNumbers
refusal_of TimesPart = TimeNumbers

-- its place, which orders the parts: gates, then registers, then times
abbrev pub part_place : Part → ℕ
part_place p = place_of (refusal_of p)

-- a circuit as it is read: its name, the line where it began, its numbers in the order of their lines,
-- and a line that had another count of numbers than it should
pub record Drafted : Type 0 where
  pub name : List ℕ
  pub line : ℕ
  pub gates : List ℕ
  pub registers : List ℕ
  pub times : List ℕ
  pub miscount : Option Miscount

abbrev pub drafted : Draft → Drafted
drafted d = record { name = vec_items d.name; line = d.line; gates = vec_items d.gates; registers = vec_items d.registers; times = vec_items d.times; miscount = d.miscount }

abbrev pub fresh : (name : List ℕ) (line : ℕ) → Drafted
fresh name line = record { name = name; line = line; gates = []; registers = []; times = []; miscount = None }

-- a miscounted line is kept unless one is kept already of the same part or an earlier one
abbrev pub noted : Option Miscount → Part → ℕ → Option Miscount
noted None p n = Some (record { part = p; line = n })
noted (Some m) p n = cond (nat_lt (part_place p) (part_place m.part)) (Some (record { part = p; line = n })) (Some m)

-- a draft with other numbers of one part and another miscounted line
abbrev pub with_gates : Drafted → List ℕ → Option Miscount → Drafted
with_gates d xs m = record { name = d.name; line = d.line; gates = xs; registers = d.registers; times = d.times; miscount = m }

abbrev pub with_registers : Drafted → List ℕ → Option Miscount → Drafted
with_registers d xs m = record { name = d.name; line = d.line; gates = d.gates; registers = xs; times = d.times; miscount = m }

abbrev pub with_times : Drafted → List ℕ → Option Miscount → Drafted
with_times d xs m = record { name = d.name; line = d.line; gates = d.gates; registers = d.registers; times = xs; miscount = m }

-- numbers are added to those xs of their part p, or line n is a miscounted one of p
abbrev pub row : (put : List ℕ → Option Miscount → Drafted) (xs : List ℕ) (m : Option Miscount) (p : Part) (n : ℕ) → Result (Option (List ℕ)) Expected → Result (Progress × Drafted) Expected
row put xs m p n (Ok (Some ns)) = Ok (More, put (xs ++ ns) m)
row put xs m p n (Ok None) = Ok (More, put xs (noted m p n))
row put xs m p n (Err k) = Err k

abbrev pub ending : Drafted → List (List ℕ) → Result (Progress × Drafted) Expected
ending d [] = Ok (Done, d)
ending d (w ∷ ws) = Err Nothing

-- what line n makes of a circuit, by its keyword and its other words
abbrev pub said : Option Keyword → ℕ → Drafted → List (List ℕ) → Result (Progress × Drafted) Expected
said (Some Gate) n d ws = row (with_gates d) d.gates d.miscount Gates n (fields true (Some 2) 0 7 ws)
said (Some Register) n d ws = row (with_registers d) d.registers d.miscount Registers n (fields true None 0 3 ws)
said (Some Times) n d ws = row (with_times d) d.times d.miscount TimesPart n (fields true None 0 5 ws)
said (Some End) n d ws = ending d ws
said (Some Circuit) n d ws = Err Statement
said None n d ws = Err Statement

-- what line n makes of a circuit, and whether it goes on
unfoldable pub statement : ℕ → Drafted → List (List ℕ) → Result (Progress × Drafted) Expected
statement n d [] = Ok (More, d)
statement n d (w ∷ ws) = said (meaning w) n d ws

-- what was read: a circuit, with the number of the next line and the lines from there on; nothing; or the first fault
abbrev pub Outcome : Type 0
Outcome = Result (Option (Drafted × ℕ × List (List ℕ))) Fault

abbrev pub went : Result (Progress × Drafted) Expected → ℕ → List (List ℕ) → (Drafted → Outcome) → Outcome
went (Ok (More, d)) n ls more = more d
went (Ok (Done, d)) n ls more = Ok (Some (d, n + 1, ls))
went (Err e) n ls more = Err (record { line = n; expected = e })

-- line after line from line n on, up to the circuit's end
unfoldable pub inside : ℕ → Drafted → List (List ℕ) → Outcome
inside n d [] = Err (record { line = n; expected = Ending })
inside n d (l ∷ ls) = went (statement n d (words (bare l))) n ls (λ d'. inside (n + 1) d' ls)

-- a byte that a name may have: printable ASCII
abbrev pub printable : ℕ → Bool
printable = is_ascii_graphic

-- the name of a circuit: none, or one word
abbrev pub title : List (List ℕ) → Result (List ℕ) Expected
title [] = Ok []
title (w ∷ []) = cond (list_all printable w) (Ok w) (Err Name)
title (w ∷ (v ∷ ws)) = Err Name

abbrev pub entitled : ℕ → Result (List ℕ) Expected → Result (Option Drafted) Expected
entitled n (Ok name) = Ok (Some (fresh name n))
entitled n (Err e) = Err e

-- what line n is outside of a circuit: nothing, or the beginning of one
abbrev pub opened : ℕ → List (List ℕ) → Result (Option Drafted) Expected
opened n [] = Ok None
opened n (w ∷ ws) = cond (bytes_eq w (codes "circuit")) (entitled n (title ws)) (Err Opening)

abbrev pub found : Result (Option Drafted) Expected → ℕ → List (List ℕ) → Outcome → Outcome
found (Ok None) n ls more = more
found (Ok (Some d)) n ls more = inside (n + 1) d ls
found (Err e) n ls more = Err (record { line = n; expected = e })

-- line after line from line n on, up to a circuit's beginning
unfoldable pub first_circuit : ℕ → List (List ℕ) → Outcome
first_circuit n [] = Ok None
first_circuit n (l ∷ ls) = found (opened n (words (bare l))) n ls (first_circuit (n + 1) ls)

-- whether the first of the words is this one
abbrev pub begins_with : (word : List ℕ) → List (List ℕ) → Bool
begins_with word [] = false
begins_with word (w ∷ ws) = bytes_eq w word

-- the number of the line, from line n on, that is number i, from 0, of those that begin with a word
unfoldable pub line_of : (word : List ℕ) (i n : ℕ) → List (List ℕ) → Option ℕ
line_of word i n [] = None
line_of word i n (l ∷ ls) = cond (begins_with word (words (bare l))) (cond (i == 0) (Some n) (line_of word (i - 1) (n + 1) ls)) (line_of word i (n + 1) ls)

-- THE MEANING OF A TEXT is `first_circuit 1` of its lines, and then the same of the lines that are left.

-- the code's answer r to the numbers x of line n, with those of their part p and the miscounted line before and after it
abbrev pub Added : Result (Option (List ℕ)) Expected → (p : Part) (n : ℕ) (xs xs' : List ℕ) (m m' : Option Miscount) → Result (Unit {0}) Expected → Type 0
Added x p n xs xs' m m' r =
    MatchResult r
    (λ _. ((ns : List ℕ) × (x ≡ Ok (Some ns)) × (xs' ≡ xs ++ ns) × (m' ≡ m)) ⊎ ((x ≡ Ok None) × (xs' ≡ xs) × (m' ≡ noted m p n)))
    (λ k. (k ≡ Memory) ⊎ (x ≡ Err k))

-- the code's answer r for what is said of a line, with the draft d after it
abbrev pub Stated : Result (Progress × Drafted) Expected → Drafted → Result Progress Expected → Type 0
Stated o d r = MatchResult r (λ p. o ≡ Ok (p, d)) (λ e. (e ≡ Memory) ⊎ (o ≡ Err e))

-- the code's answer r for the words after `end`
abbrev pub Ended : List (List ℕ) → Result (Unit {0}) Expected → Type 0
Ended ws r = MatchResult r (λ _. ws ≡ []) (λ e. (e ≡ Nothing) × ((w : List ℕ) × (vs : List (List ℕ)) × (ws ≡ w ∷ vs)))

-- the code's answer r for a name
abbrev pub Titled : Result (List ℕ) Expected → Result (Bor (List ℕ)) Expected → Type 0
Titled t r = MatchResult r (λ name. t ≡ Ok name.now) (λ e. t ≡ Err e)

-- the code's answer r for a line outside of a circuit
abbrev pub Opened : Result (Option Drafted) Expected → Result (Option Draft) Expected → Type 0
Opened o r = MatchResult r (λ d. o ≡ Ok (option_map drafted d)) (λ e. (e ≡ Memory) ⊎ (o ≡ Err e))

-- the same r where a circuit goes on after the line
abbrev pub Taken : Result (Option (List ℕ)) Expected → (p : Part) (n : ℕ) (xs xs' : List ℕ) (m m' : Option Miscount) → Result Progress Expected → Type 0
Taken x p n xs xs' m m' r =
    MatchResult r
    (λ q. (q ≡ More) × (((ns : List ℕ) × (x ≡ Ok (Some ns)) × (xs' ≡ xs ++ ns) × (m' ≡ m)) ⊎ ((x ≡ Ok None) × (xs' ≡ xs) × (m' ≡ noted m p n))))
    (λ k. (k ≡ Memory) ⊎ (x ≡ Err k))

-- what was expected on line n, by the code's fault f, where o is what the line says
abbrev pub IsAtFault : {A : Type 0} → Result A Expected → ℕ → Fault → Type 0
IsAtFault o n f = (f.line ≡ n) × ((f.expected ≡ Memory) ⊎ (o ≡ Err f.expected))

-- the code's answer r for line n, with the draft d after it
abbrev pub LineStated : Result (Progress × Drafted) Expected → ℕ → Drafted → Result Progress Fault → Type 0
LineStated o n d r = MatchResult r (λ p. o ≡ Ok (p, d)) (IsAtFault o n)

-- the code's answer r for line n outside of a circuit
abbrev pub LineOpened : Result (Option Drafted) Expected → ℕ → Result (Option Draft) Fault → Type 0
LineOpened o n r = MatchResult r (λ d. o ≡ Ok (option_map drafted d)) (IsAtFault o n)
