-- The lines that tell delays and the like, by their first words.
use Rattle.std.specs.Prelude.{ℕ, List, [], ◌∷◌, Option, codes, find}
use Rattle.std.specs.Str.{bytes_eq}
use Rattle.fields.specs.declared.line.Line.{Line}
use Rattle.fields.specs.declared.line.Line.TheVariants.{Cycles, Start, Random, Clock, Delay, Show, Take}

-- the first word of a line
abbrev pub word_of : Line → List ℕ
word_of Cycles = codes "cycles"
word_of Start = codes "start"
word_of Random = codes "random"
word_of Clock = codes "clock"
word_of Delay = codes "delay"
word_of Show = codes "show"
word_of Take = codes "take"

abbrev pub all_lines : List Line
all_lines = Cycles ∷ Start ∷ Random ∷ Clock ∷ Delay ∷ Show ∷ Take ∷ []

-- what a line tells that begins with this word
unfoldable pub line_of : List ℕ → Option Line
line_of w = find (λ l. bytes_eq w (word_of l)) all_lines
