-- What a text tells, by its lines.
use Rattle.std.specs.Prelude.{◌≡◌, ℕ, ◌+◌, ◌<◌, ◌≤◌, ◌⊎◌, cond, List, [], ◌∷◌, length, take, slice_index, slice_index_or, filter_map, option_to_list, None, Ok, Err, Option, Result}
use Rattle.std.specs.List.{enumerate_from}
use Rattle.std.specs.Result.{result_ok}
use Rattle.std.specs.Str.{bytes_eq}
use Rattle.circuit.specs.Lent.{register_count, signal_count}
use Rattle.circuit.specs.Whole.{FewGates}
use Rattle.lines.specs.Words.{words, bare}
use Rattle.fields.specs.Lines.{word_of}
use Rattle.fields.specs.declared.fault.Expected.{Expected}
use Rattle.fields.specs.declared.fault.Expected.TheVariants.{Cycles as NoCycles}
use Rattle.fields.specs.declared.fault.Fault.{Fault}
use Rattle.fields.specs.declared.line.Line.{Line}
use Rattle.fields.specs.declared.line.Line.TheVariants.{Cycles, Start, Random, Clock, Delay, Show, Take}
use Rattle.script.specs.declared.entry.Entry.{Entry}
use Rattle.script.specs.declared.kind.Kind.{Kind}
use Rattle.script.specs.declared.kind.Kind.TheVariants.{Clock as Clocks, Take as Takes, Delay as Delays, Show as Shows}
use Rattle.script.specs.declared.script.Script.{Script}
use Rattle.script.specs.Told.{DelayFits}
use Rattle.delays.specs.Row.{number_after, bits, entry_after, bit_after, delay_of, delay_after}
use Rattle.delays.specs.Meaning.{Told, nothing, entries, statement, meaning}

-- what a line says after its first word, if that is the word of l
abbrev pub after_word : {A : Type 0} → Line → (List (List ℕ) → Result A Expected) → List (List ℕ) → Option A
after_word l f [] = None
after_word l f (w ∷ ws) = cond (bytes_eq w (word_of l)) (result_ok (f ws)) None

-- the statement of a kind on line n, counted from 0
abbrev pub entry_on : (q n : ℕ) → Kind → List (List ℕ) → Option Entry
entry_on q n Clocks = after_word Clock (entry_after n Clock)
entry_on q n Takes = after_word Take (bit_after q n Take)
entry_on q n Delays = after_word Delay (delay_after q n)
entry_on q n Shows = after_word Show (bit_after q n Show)

-- what the lines ls tell: each value that is told once on the one line that tells it, and the statements of each kind
-- with their lines, in their order
pub record ByLines (q : ℕ) (ls : List (List ℕ)) (t : Told) : Type 0 where
  pub cycles : filter_map (λ l. after_word Cycles (number_after Cycles) (words (bare l))) ls ≡ option_to_list t.cycles
  pub start : filter_map (λ l. after_word Start (bits q) (words (bare l))) ls ≡ option_to_list t.start
  pub seed : filter_map (λ l. after_word Random (number_after Random) (words (bare l))) ls ≡ option_to_list t.seed
  pub entries : (k : Kind) → filter_map (λ x. entry_on q x.0 k (words (bare x.1))) (enumerate_from 0 ls) ≡ entries t k

-- line i, counted from 0, is not at fault: it adds to what the lines above it tell
abbrev pub Adds : (q : ℕ) (ls : List (List ℕ)) (i : ℕ) → Type 0
Adds q ls i = (t : Told) × (t' : Told) × ByLines q (take i ls) t × (statement q i t (words (bare (slice_index_or ls i []))) ≡ Ok t')

-- f is the first fault of the lines ls: none above its line is at fault, those tell `told`, and its line is at fault below them; or no line
-- is, and none tells how many cycles
pub record FirstFault (q : ℕ) (ls : List (List ℕ)) (f : Fault) : Type 0 where
  pub above : ℕ
  pub sound_above : (i : ℕ) → i < above → Adds q ls i
  pub told : Told
  pub told_above : ByLines q (take above ls) told
  pub line : f.line ≡ above + 1
  pub fault : ((above < length ls) × (statement q above told (words (bare (slice_index_or ls above []))) ≡ Err f.expected))
      ⊎ ((above ≡ length ls) × (told.cycles ≡ None) × (f.expected ≡ NoCycles))

-- a text with a fault has it first on its line
abbrev pub FaultIsFirst : Type 0
FaultIsFirst = (q : ℕ) (ls : List (List ℕ)) (f : Fault) → meaning q 1 nothing ls ≡ Err f → FirstFault q ls f

-- a text with no fault tells what its lines tell
abbrev pub ToldByLines : Type 0
ToldByLines = (q : ℕ) (ls : List (List ℕ)) (t : Told) → meaning q 1 nothing ls ≡ Ok t → ByLines q ls t

-- a delay lies within the bounds of a circuit only if its signal is the output of a gate, and then it is told of that gate
abbrev pub ToldOfGate : Type 0
ToldOfGate =
    (s : Script) (g r ts : List ℕ) (n : ℕ) (ns : List ℕ) → FewGates g → DelayFits s g r ts (delay_of (register_count r) n ns) →
    (register_count r ≤ slice_index ns 1) × (slice_index ns 1 < signal_count g r) × (register_count r + (delay_of (register_count r) n ns).who ≡ slice_index ns 1)
