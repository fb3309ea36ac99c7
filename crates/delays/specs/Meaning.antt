-- What a text of delays and the like means.
use Rattle.std.specs.Prelude.{◌≡◌, ℕ, ◌+◌, ◌-◌, Bool, cond, ◌⊎◌, List, [], ◌∷◌, ◌++◌, vec_items, Some, None, Ok, Err, Option, Result, MatchResult, nat_le}
use Rattle.std.specs.List.{list_all}
use Rattle.std.specs.Option.{option_map}
use Rattle.lines.specs.Words.{words, bare}
use Rattle.fields.specs.Lines.{line_of}
use Rattle.fields.specs.declared.fault.Expected.{Expected}
use Rattle.fields.specs.declared.fault.Expected.TheVariants.{Memory, FirstWord, Once, NoEarlier, Cycles as NoCycles}
use Rattle.fields.specs.declared.fault.Fault.{Fault}
use Rattle.fields.specs.declared.line.Line.{Line}
use Rattle.fields.specs.declared.line.Line.TheVariants.{Cycles, Start, Random, Clock, Delay, Show, Take}
use Rattle.script.specs.declared.entry.Entry.{Entry}
use Rattle.script.specs.declared.kind.Kind.{Kind}
use Rattle.script.specs.declared.kind.Kind.TheVariants.{Clock as Clocks, Take as Takes, Delay as Delays, Show as Shows}
use Rattle.script.specs.declared.script.Script.{Script}
use Rattle.delays.specs.declared.draft.Draft.{Draft}
use Rattle.delays.specs.Row.{and_then, number_after, bits, entry_after, bit_after, delay_after}

-- what is told so far
pub record Told : Type 0 where
  pub cycles : Option ℕ
  pub start : Option (List Bool)
  pub seed : Option ℕ
  pub clocks : List Entry
  pub takes : List Entry
  pub delays : List Entry
  pub shows : List Entry

abbrev pub nothing : Told
nothing = record { cycles = None; start = None; seed = None; clocks = []; takes = []; delays = []; shows = [] }

abbrev pub told : Option ℕ → Script → Told
told cycles s = record { cycles = cycles; start = option_map (λ bits. vec_items bits) s.start; seed = s.seed; clocks = s.clocks; takes = s.takes; delays = s.delays; shows = s.shows }

-- by a draft, and by a script
abbrev pub drafted : Draft → Told
drafted d = told d.cycles d.script

abbrev pub scripted : Script → Told
scripted s = told (Some s.cycles) s

-- the same with another value
abbrev pub with_cycles : Told → ℕ → Told
with_cycles t x = record { cycles = Some x; start = t.start; seed = t.seed; clocks = t.clocks; takes = t.takes; delays = t.delays; shows = t.shows }

abbrev pub with_start : Told → List Bool → Told
with_start t x = record { cycles = t.cycles; start = Some x; seed = t.seed; clocks = t.clocks; takes = t.takes; delays = t.delays; shows = t.shows }

abbrev pub with_seed : Told → ℕ → Told
with_seed t x = record { cycles = t.cycles; start = t.start; seed = Some x; clocks = t.clocks; takes = t.takes; delays = t.delays; shows = t.shows }

-- it may be told just once
abbrev pub once : {A : Type 0} → Line → Option A → (A → Told) → A → Result Told Expected
once l None put x = Ok (put x)
once l (Some y) put x = Err (Once l)

-- the statements of a kind
abbrev pub entries : Told → Kind → List Entry
entries t Clocks = t.clocks
entries t Takes = t.takes
entries t Delays = t.delays
entries t Shows = t.shows

-- the same with other statements of a kind
abbrev pub with_entries : Told → Kind → List Entry → Told
with_entries t Clocks es = record { cycles = t.cycles; start = t.start; seed = t.seed; clocks = es; takes = t.takes; delays = t.delays; shows = t.shows }
with_entries t Takes es = record { cycles = t.cycles; start = t.start; seed = t.seed; clocks = t.clocks; takes = es; delays = t.delays; shows = t.shows }
with_entries t Delays es = record { cycles = t.cycles; start = t.start; seed = t.seed; clocks = t.clocks; takes = t.takes; delays = es; shows = t.shows }
with_entries t Shows es = record { cycles = t.cycles; start = t.start; seed = t.seed; clocks = t.clocks; takes = t.takes; delays = t.delays; shows = es }

-- a statement comes last of its kind, if none of them is of a later moment or cycle
abbrev pub added : Told → Kind → Line → Entry → Result Told Expected
added t k l e = cond (list_all (λ x. nat_le x.when e.when) (entries t k)) (Ok (with_entries t k (entries t k ++ (e ∷ [])))) (Err (NoEarlier l))

-- what line n, counted from 0, tells of a circuit with q registers, by what follows its first word
abbrev pub said : (q n : ℕ) → Told → Option Line → List (List ℕ) → Result Told Expected
said q n t (Some Cycles) ws = and_then (number_after Cycles ws) (once Cycles t.cycles (with_cycles t))
said q n t (Some Start) ws = and_then (bits q ws) (once Start t.start (with_start t))
said q n t (Some Random) ws = and_then (number_after Random ws) (once Random t.seed (with_seed t))
said q n t (Some Clock) ws = and_then (entry_after n Clock ws) (added t Clocks Clock)
said q n t (Some Delay) ws = and_then (delay_after q n ws) (added t Delays Delay)
said q n t (Some Show) ws = and_then (bit_after q n Show ws) (added t Shows Show)
said q n t (Some Take) ws = and_then (bit_after q n Take ws) (added t Takes Take)
said q n t None ws = Err FirstWord

-- what line n, counted from 0, adds
unfoldable pub statement : (q n : ℕ) → Told → List (List ℕ) → Result Told Expected
statement q n t [] = Ok t
statement q n t (w ∷ ws) = said q n t (line_of w) ws

-- what is told, or the first fault
abbrev pub Outcome : Type 0
Outcome = Result Told Fault

abbrev pub went : Result Told Expected → ℕ → (Told → Outcome) → Outcome
went (Ok t) n more = more t
went (Err e) n more = Err (record { line = n; expected = e })

-- at the end of the text, before line n, the count of cycles is told
abbrev pub ended : ℕ → Told → Option ℕ → Outcome
ended n t None = Err (record { line = n; expected = NoCycles })
ended n t (Some x) = Ok t

-- line after line, n the number of the first
unfoldable pub meaning : (q n : ℕ) → Told → List (List ℕ) → Outcome
meaning q n t [] = ended n t t.cycles
meaning q n t (l ∷ ls) = went (statement q (n - 1) t (words (bare l))) n (λ t'. meaning q (n + 1) t' ls)

-- THE MEANING OF A TEXT about a circuit with q registers is `meaning q 1 nothing` of its lines.

-- the code's answer r for what is told, with what it says after it
abbrev pub Stated : Result Told Expected → Told → Result (Unit {0}) Expected → Type 0
Stated o t r = MatchResult r (λ _. o ≡ Ok t) (λ e. (e ≡ Memory) ⊎ (o ≡ Err e))

-- the code's answer r where x is told in the place of o, which is o' after it: where one was told already it stays
abbrev pub ToldOnce : {A : Type 0} → Line → (o o' : Option A) → A → Result (Unit {0}) Expected → Type 0
ToldOnce {A} l o o' x r = MatchResult r (λ _. (o ≡ None) × (o' ≡ Some x)) (λ e. (e ≡ Once l) × ((y : A) × (o ≡ Some y)) × (o' ≡ o))

-- the same where the value may not have been read
abbrev pub ReadOnce : {A : Type 0} → Line → (o o' : Option A) → Result A Expected → Result (Unit {0}) Expected → Type 0
ReadOnce l o o' x r = MatchResult x (λ y. ToldOnce l o o' y r) (λ e. r ≡ Err e)

-- the code's answer r for what is told on line n, with what it says after it
abbrev pub LineStated : Result Told Expected → ℕ → Told → Result (Unit {0}) Fault → Type 0
LineStated o n t r = MatchResult r (λ _. o ≡ Ok t) (λ f. (f.line ≡ n) × ((f.expected ≡ Memory) ⊎ (o ≡ Err f.expected)))

-- the code's answer r for line n, of the text l, of a circuit with q registers, with what is told before and after it: whatever
-- lines follow, they mean the same behind the line as behind what is told after it; or the line is the first fault
abbrev pub ReadsLine : (q : ℕ) → Told → (l : List ℕ) (n : ℕ) → Told → Result (Unit {0}) Fault → Type 0
ReadsLine q t l n t' r =
    (ls : List (List ℕ)) →
    MatchResult r (λ _. meaning q n t (l ∷ ls) ≡ meaning q (n + 1) t' ls) (λ f. (f.expected ≡ Memory) ⊎ (meaning q n t (l ∷ ls) ≡ Err f))

-- the code's answer r for a value, or what was expected or want of memory
abbrev pub Valued : {A B : Type 0} → (A → B) → Result B Expected → Result A Expected → Type 0
Valued view o r = MatchResult r (λ x. o ≡ Ok (view x)) (λ e. (e ≡ Memory) ⊎ (o ≡ Err e))

-- a script was read; or there is a fault, which may be want of memory
abbrev pub IsRead : Outcome → Result Script Fault → Type 0
IsRead o r = MatchResult r (λ s. o ≡ Ok (scripted s)) (λ e. (e.expected ≡ Memory) ⊎ (o ≡ Err e))
