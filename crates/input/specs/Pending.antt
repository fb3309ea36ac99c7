-- What was read of a text and not handed out, and what comes of it.
use Rattle.std.specs.Prelude.{◌≡◌, ℕ, ◌+◌, ◌-◌, ◌^◌, ◌<◌, ◌≤◌, min, Bool, true, false, cond, List, [], ◌∷◌, ◌++◌, drop, length, vec_items, Contains}
use Rattle.input.specs.declared.text.Text.{Text}
use Rattle.input.specs.declared.text.Next.{Next}
use Rattle.input.specs.declared.text.Next.TheVariants.{Line, Nothing, End}
use Rattle.input.specs.declared.text.Misread.{Misread}
use Rattle.input.specs.declared.text.Misread.TheVariants.{Nul, TooLong, Memory}
use Rattle.input.specs.Line.{bare_lines}

-- what is still needed of the piece that was read last
abbrev pub at_hand : Text → List ℕ
at_hand t = drop t.at (vec_items t.chunk)

-- a line so far; of its comment no more than that there is one
abbrev pub so_far : (comment : Bool) → (line : List ℕ) → List ℕ
so_far comment line = cond comment (line ++ (35 ∷ [])) line

-- a text that stands for all that was read and not handed out
abbrev pub pending : Text → List ℕ
pending t = cond t.whole [] (so_far t.comment (vec_items t.line)) ++ at_hand t

-- the number of the line that was handed out last, or else of the one that is read, counted from 1
abbrev pub number_of : Text → ℕ
number_of t = cond t.whole t.number (min (t.number + 1) (2 ^ 64 - 1))

-- nothing was handed out or lost
pub record Same (old new : Text) : Type 0 where
  pub pending_same : pending new ≡ pending old
  pub number_same : new.number ≡ old.number
  pub ended_same : new.ended ≡ old.ended

-- two texts have the same lines without comments, whatever follows them
abbrev pub SameLines : (t u : List ℕ) → Type 0
SameLines t u = (more : List ℕ) → bare_lines (t ++ more) ≡ bare_lines (u ++ more)

-- a line was handed out: the first without its comment, whatever follows what was read. It has no NUL and is not too
-- long
pub record HandsOut (old new : Text) : Type 0 where
  pub first : (more : List ℕ) → (old.ended ≡ true → more ≡ [])
      → bare_lines (pending old ++ more) ≡ vec_items new.line ∷ bare_lines (pending new ++ more)
  pub no_nul : Contains (vec_items new.line) 0 → ⊥
  pub short : length (vec_items new.line) ≤ 1048576
  pub handed : new.whole ≡ true
  pub counted : new.number ≡ min (old.number + 1) (2 ^ 64 - 1)
  pub ended_same : new.ended ≡ old.ended

-- the text goes on, and no more of it is at hand
pub record Wants (old new : Text) : Type 0 where
  pub lines_same : SameLines (pending old) (pending new)
  pub none_left : at_hand new ≡ []
  pub going_on : (old.ended ≡ false) × (new.ended ≡ false)
  pub number_same : (new.number ≡ old.number) × (new.whole ≡ false)

-- the text has ended, and all of it was handed out
pub record Ends (old new : Text) : Type 0 where
  pub none_left : (bare_lines (pending old) ≡ []) × (pending new ≡ [])
  pub ended : (old.ended ≡ true) × (new.ended ≡ true)
  pub number_same : (new.number ≡ old.number) × (new.whole ≡ false)

-- what comes next
abbrev pub Comes : (old new : Text) → Next → Type 0
Comes old new Line = HandsOut old new
Comes old new Nothing = Wants old new
Comes old new End = Ends old new

-- w is the first line without its comment, whatever follows
abbrev pub First : (w : List ℕ) (t : List ℕ) → Type 0
First w t = (others : List (List ℕ)) × (bare_lines t ≡ w ∷ others)

-- what is wrong with the next line, whatever follows what was read
abbrev pub Faults : Text → Misread → Type 0
Faults t Nul = (more : List ℕ) → (w : List ℕ) × First w (pending t ++ more) × Contains w 0
Faults t TooLong = (more : List ℕ) → (w : List ℕ) × First w (pending t ++ more) × (1048576 < length w)
Faults t Memory = Unit {0}
