-- What comes of a text of circuits that is read piece by piece.
use Rattle.std.specs.Prelude.{◌≡◌, ℕ, ◌+◌, ◌-◌, ◌^◌, ◌<◌, ◌⊎◌, true, false, List, [], ◌∷◌, ◌++◌, length, map, nat_eq, vec_items, Some, None, Ok, Err, Option, Result, MatchResult}
use Rattle.std.specs.List.{starts_with}
use Rattle.std.specs.Option.{option_map}
use Rattle.fields.specs.declared.fault.Fault.{Fault as LineFault}
use Rattle.fields.specs.declared.fault.Expected.TheVariants.{Memory, End as Ending}
use Rattle.lines.specs.Words.{bare, lines, words}
use Rattle.input.specs.declared.text.Text.{Text}
use Rattle.input.specs.Line.{bare_lines, mark, shown}
use Rattle.input.specs.Pending.{at_hand, number_of, pending, Faults}
use Rattle.text.specs.declared.listing.Listing.{Listing}
use Rattle.text.specs.Meaning.{IsAtFault, Outcome, first_circuit}
use Rattle.text.specs.Reader.{Found, Listed, by_lines, listed, step, trimmed_outcome, without_places}
use Rattle.circuits.specs.declared.Next.{Next}
use Rattle.circuits.specs.declared.Next.TheVariants.{Circuit, Nothing, End}
use Rattle.circuits.specs.declared.Wrong.{Wrong}
use Rattle.circuits.specs.declared.Wrong.TheVariants.{Fault, Misread}

-- lines of which the first has number n, as they are shown
abbrev pub shown_lines : (n : ℕ) → List (List ℕ) → List (List ℕ)
shown_lines n [] = []
shown_lines n (l ∷ ls) = shown n l ∷ ls

-- the lines of a text that were not handed out yet, without their comments, where more follows what was read of it
abbrev pub left : Text → (more : List ℕ) → List (List ℕ)
left t more = shown_lines (t.number + 1) (bare_lines (pending t ++ more))

-- what they mean, where the circuit s is open before them, or none
abbrev pub meant : (s : Option Listed) → Text → (more : List ℕ) → Found
meant s t more = by_lines s (t.number + 1) (left t more)

-- anything may follow what was read, but nothing once the text has ended
abbrev pub CanFollow : Text → (more : List ℕ) → Type 0
CanFollow t more = t.ended ≡ true → more ≡ []

-- lines can still be counted in 64 bits
abbrev pub Counted : Text → Type 0
Counted t = t.number < 2 ^ 64 - 1

-- whatever follows what was read, the text means after a step, with s' and t', what it meant before
abbrev pub Goes : (s : Option Listed) (t : Text) (s' : Option Listed) (t' : Text) → Type 0
Goes s t s' t' = (more : List ℕ) → CanFollow t more → meant s t more ≡ meant s' t' more

-- what comes next is just what the text means
abbrev pub Comes : (s : Option Listed) (t : Text) (s' : Option Listed) (t' : Text) → Next → Type 0
Comes s t s' t' (Circuit x) =
    (s' ≡ None) × (Counted t' → (more : List ℕ) → CanFollow t more → meant s t more ≡ Ok (Some (listed x, t'.number + 1, left t' more)))
Comes s t s' t' Nothing = (at_hand t' ≡ []) × (t'.ended ≡ false) × (Counted t' → Goes s t s' t')
Comes s t s' t' End = (t'.ended ≡ true) × (Counted t' → (more : List ℕ) → CanFollow t more → meant s t more ≡ Ok None)

-- what is wrong is the text's first fault, or memory is short, on the line that was read last; or what no text has, on the
-- next line, before which nothing is wrong
abbrev pub Stops : (s : Option Listed) (t : Text) (s' : Option Listed) (t' : Text) → Wrong → Type 0
Stops s t s' t' (Fault f) =
    (f.line ≡ number_of t') × ((f.expected ≡ Memory) ⊎ (Counted t' → (more : List ℕ) → CanFollow t more → meant s t more ≡ Err f))
Stops s t s' t' (Misread e) = Faults t' e × (t'.whole ≡ false) × (Counted t' → Goes s t s' t')

-- the answer r for the line that was handed out, where s was open before it and s' is after it
abbrev pub LineTaken : (s : Option Listed) (t : Text) (s' : Option Listed) → Result (Option Listing) Wrong → Type 0
LineTaken s t s' r =
    MatchResult r
    (λ done. step s (number_of t) (words (shown t.number (vec_items t.line))) ≡ Ok (record { current = s'; done = option_map listed done }))
    (λ e. (f : LineFault) × (e ≡ Fault f) × IsAtFault (step s (number_of t) (words (shown t.number (vec_items t.line)))) (number_of t) f)

-- the code's answer r at the text's end
abbrev pub AtEnd : (s : Option Listed) (t : Text) → Result (Option Next) Wrong → Type 0
AtEnd s t r =
    MatchResult r
    (λ n. (n ≡ Some End) × (s ≡ None))
    (λ e. (e ≡ Fault (record { line = number_of t; expected = Ending })) × ((x : Listed) × (s ≡ Some x)))

-- one line less is left of those that were read, and no circuit ended on it
pub record Past (s : Option Listed) (t : Text) (s' : Option Listed) (t' : Text) : Type 0 where
  pub goes : Counted t' → Goes s t s' t'
  pub one_less : length (bare_lines (pending t)) ≡ length (bare_lines (pending t')) + 1

-- what the code's answer r for the next line says
abbrev pub Turned : (s : Option Listed) (t : Text) (s' : Option Listed) (t' : Text) → Result (Option Next) Wrong → Type 0
Turned s t s' t' (Ok None) = Past s t s' t'
Turned s t s' t' (Ok (Some n)) = Comes s t s' t' n
Turned s t s' t' (Err e) = Stops s t s' t' e

pub record Turns (s : Option Listed) (t : Text) (s' : Option Listed) (t' : Text) (r : Result (Option Next) Wrong) : Type 0 where
  pub turned : Turned s t s' t' r
  pub counts : Counted t' → Counted t
  pub ended_same : t'.ended ≡ t.ended

-- m was read: what follows it follows m, and means the same
abbrev pub ReadsOn : (t t' : Text) (m : List ℕ) → Type 0
ReadsOn t t' m = (s : Option Listed) (more : List ℕ) → meant s t (m ++ more) ≡ meant s t' more

-- comments mean nothing: without them lines mean the same, but for the comments of those that are left
abbrev pub bared : Found → Found
bared (Err f) = Err f
bared (Ok None) = Ok None
bared (Ok (Some (x, n, ls))) = Ok (Some (x, n, map bare ls))

abbrev pub CommentsMeanNothing : Type 0
CommentsMeanNothing = (s : Option Listed) (n : ℕ) (ls : List (List ℕ)) → by_lines s n (map bare ls) ≡ bared (by_lines s n ls)

-- the first of a text's lines, without its comment
abbrev pub front_of : List (List ℕ) → List ℕ
front_of [] = []
front_of (l ∷ ls) = l

-- no byte order mark stands at a text's beginning
abbrev pub HasNoMark : (text : List ℕ) → Type 0
HasNoMark text = starts_with nat_eq (front_of (bare_lines text)) mark ≡ false

-- the same without the comments of the lines that are left
abbrev pub bared_outcome : Outcome → Outcome
bared_outcome (Err f) = Err f
bared_outcome (Ok None) = Ok None
bared_outcome (Ok (Some (d, n, ls))) = Ok (Some (d, n, map bare ls))

-- READ PIECE BY PIECE a text means what it means as a whole, but for what no circuit has
abbrev pub MeansAsWhole : Type 0
MeansAsWhole =
    (t : Text) (more : List ℕ) → pending t ≡ [] → t.number ≡ 0 → HasNoMark more →
    without_places (meant None t more) ≡ bared_outcome (trimmed_outcome (first_circuit 1 (lines more)))
