-- Circuits that are read line by line, in memory that a circuit of the largest size takes.
use Rattle.std.specs.Prelude.{◌≡◌, ℕ, ◌+◌, ◌*◌, ◌<◌, cond, ◌&&◌, List, [], ◌∷◌, ◌++◌, length, take, slice_index, Some, None, Ok, Err, Option, Result, MatchResult, codes, nat_lt, vec_items}
use Rattle.std.specs.Option.{option_map}
use Rattle.circuit.specs.Whole.{Whole}
use Rattle.circuit.specs.Refused.{FirstRefusal}
use Rattle.circuit.specs.declared.refusal.Refusal.{Refusal}
use Rattle.lines.specs.Words.{words, bare}
use Rattle.fields.specs.declared.fault.Expected.{Expected}
use Rattle.fields.specs.declared.fault.Expected.TheVariants.{End as Ending}
use Rattle.fields.specs.declared.fault.Fault.{Fault}
use Rattle.text.specs.declared.draft.Keyword.{Keyword}
use Rattle.text.specs.declared.draft.Keyword.TheVariants.{Circuit, Times, Register, Gate, End}
use Rattle.text.specs.declared.draft.Progress.{Progress}
use Rattle.text.specs.declared.draft.Progress.TheVariants.{More, Done}
use Rattle.text.specs.declared.listing.Listing.{Listing}
use Rattle.text.specs.declared.listing.Places.{Places}
use Rattle.text.specs.Meaning.{Drafted, Outcome, IsAtFault, drafted, statement, opened, begins_with, first_circuit, line_of}

-- one gate, register or line of times more than a circuit can have: so many are kept of what is read
abbrev pub most_gates : ℕ
most_gates = 16385

abbrev pub most_registers : ℕ
most_registers = 1025

abbrev pub most_times : ℕ
most_times = 2

-- a circuit that is read, without the numbers of gates, registers and times past those: they are turned away without them too
abbrev pub trimmed : Drafted → Drafted
trimmed d = record d {
  gates = take (7 * most_gates) d.gates;
  registers = take (3 * most_registers) d.registers;
  times = take (5 * most_times) d.times;
}

-- the numbers of the lines of gates, registers and times
pub record Placed : Type 0 where
  pub gates : List ℕ
  pub registers : List ℕ
  pub times : List ℕ

abbrev pub placed_of : Places → Placed
placed_of p = record { gates = vec_items p.gates; registers = vec_items p.registers; times = vec_items p.times }

abbrev pub no_places : Placed
no_places = record { gates = []; registers = []; times = [] }

-- line n, of the words ws, is one more of those that begin with a word, unless there are most of them
unfoldable pub marked : (word : List ℕ) (most n : ℕ) → List (List ℕ) → List ℕ → List ℕ
marked word most n ws ns = cond (begins_with word ws && nat_lt (length ns) most) (ns ++ (n ∷ [])) ns

abbrev pub placed : ℕ → List (List ℕ) → Placed → Placed
placed n ws p = record {
  gates = marked (codes "gate") most_gates n ws p.gates;
  registers = marked (codes "register") most_registers n ws p.registers;
  times = marked (codes "times") most_times n ws p.times;
}

-- line n is one more of some lines, unless there are most of them
abbrev pub one_more : (most n : ℕ) → List ℕ → List ℕ
one_more most n ns = cond (nat_lt (length ns) most) (ns ++ (n ∷ [])) ns

-- line n is one more of those with its keyword
abbrev pub placed_by : Option Keyword → ℕ → Placed → Placed
placed_by (Some Gate) n p = record p { gates = one_more most_gates n p.gates }
placed_by (Some Register) n p = record p { registers = one_more most_registers n p.registers }
placed_by (Some Times) n p = record p { times = one_more most_times n p.times }
placed_by (Some Circuit) n p = p
placed_by (Some End) n p = p
placed_by None n p = p

-- a circuit that is read, with its lines
pub record Listed : Type 0 where
  pub draft : Drafted
  pub places : Placed

abbrev pub listed : Listing → Listed
listed l = record { draft = drafted l.draft; places = placed_of l.places }

-- the circuit that goes on after a line, if one does, and the one that ends on it, if one does
pub record Step : Type 0 where
  pub current : Option Listed
  pub done : Option Listed

abbrev pub begun : Result (Option Drafted) Expected → Result Step Expected
begun (Ok None) = Ok (record { current = None; done = None })
begun (Ok (Some d)) = Ok (record { current = Some (record { draft = d; places = no_places }); done = None })
begun (Err e) = Err e

abbrev pub went_on : Placed → Result (Progress × Drafted) Expected → Result Step Expected
went_on p (Ok (More, d)) = Ok (record { current = Some (record { draft = trimmed d; places = p }); done = None })
went_on p (Ok (Done, d)) = Ok (record { current = None; done = Some (record { draft = trimmed d; places = p }) })
went_on p (Err e) = Err e

-- what line n, of the words ws, makes of the circuit that is open before it, if one is
abbrev pub step : Option Listed → ℕ → List (List ℕ) → Result Step Expected
step None n ws = begun (opened n ws)
step (Some x) n ws = went_on (placed n ws x.places) (statement n x.draft ws)

-- the code's answer r for line n, where o is what the line makes of a circuit, with the circuit that is open after it
abbrev pub Stepped : Result Step Expected → ℕ → Option Listed → Result (Option Listing) Fault → Type 0
Stepped o n current r =
    MatchResult r
    (λ done. o ≡ Ok (record { current = current; done = option_map listed done }))
    (λ f. IsAtFault o n f × (current ≡ None))

-- the code's answer r for line n inside of a circuit, where o is what the line makes of it, and x is the circuit after it
abbrev pub WentOn : Result Step Expected → ℕ → Listed → Result Progress Fault → Type 0
WentOn o n x (Ok More) = o ≡ Ok (record { current = Some x; done = None })
WentOn o n x (Ok Done) = o ≡ Ok (record { current = None; done = Some x })
WentOn o n x (Err f) = IsAtFault o n f

-- line after line from line n on, up to the first circuit's end
abbrev pub Found : Type 0
Found = Result (Option (Listed × ℕ × List (List ℕ))) Fault

abbrev pub done_or : Option Listed → ℕ → List (List ℕ) → Found → Found
done_or (Some x) n ls more = Ok (Some (x, n + 1, ls))
done_or None n ls more = more

abbrev pub stepped : Result Step Expected → ℕ → List (List ℕ) → (Option Listed → Found) → Found
stepped (Err e) n ls more = Err (record { line = n; expected = e })
stepped (Ok s) n ls more = done_or s.done n ls (more s.current)

abbrev pub at_end : ℕ → Option Listed → Found
at_end n None = Ok None
at_end n (Some x) = Err (record { line = n; expected = Ending })

unfoldable pub by_lines : Option Listed → ℕ → List (List ℕ) → Found
by_lines s n [] = at_end n s
by_lines s n (l ∷ ls) = stepped (step s n (words (bare l))) n ls (λ s'. by_lines s' (n + 1) ls)

-- what was read, without its lines, or trimmed
abbrev pub without_places : Found → Outcome
without_places (Err f) = Err f
without_places (Ok None) = Ok None
without_places (Ok (Some (x, n, ls))) = Ok (Some (x.draft, n, ls))

abbrev pub trimmed_outcome : Outcome → Outcome
trimmed_outcome (Err f) = Err f
trimmed_outcome (Ok None) = Ok None
trimmed_outcome (Ok (Some (d, n, ls))) = Ok (Some (trimmed d, n, ls))

-- READ LINE BY LINE a text means what it means as a whole, but for what no circuit has
abbrev pub ByLines : Type 0
ByLines = (n : ℕ) (ls : List (List ℕ)) → without_places (by_lines None n ls) ≡ trimmed_outcome (first_circuit n ls)

-- the lines that are kept are those of the text that begin with the word
abbrev pub AreLinesOf : (word : List ℕ) (n : ℕ) → List (List ℕ) → List ℕ → Type 0
AreLinesOf word n ls ns = (k : ℕ) → k < length ns → Some (slice_index ns k) ≡ line_of word k n ls

abbrev pub PlacesAreLines : Type 0
PlacesAreLines =
    (n m : ℕ) (ls rest : List (List ℕ)) (x : Listed) → by_lines None n ls ≡ Ok (Some (x, m, rest)) →
    AreLinesOf (codes "gate") n ls x.places.gates × AreLinesOf (codes "register") n ls x.places.registers
    × AreLinesOf (codes "times") n ls x.places.times

-- numbers of whole gates and registers are turned away by the same refusal when they are trimmed
abbrev pub TrimmedAlike : Type 0
TrimmedAlike =
    (d : Drafted) (g r : ℕ) → length d.gates ≡ 7 * g → length d.registers ≡ 3 * r → (e : Refusal) →
    FirstRefusal (trimmed d).gates (trimmed d).registers (trimmed d).times e → FirstRefusal d.gates d.registers d.times e

-- numbers that are not turned away when they are trimmed are all that was read
abbrev pub TrimmedWhole : Type 0
TrimmedWhole = (d : Drafted) → Whole (trimmed d).gates (trimmed d).registers (trimmed d).times → trimmed d ≡ d
