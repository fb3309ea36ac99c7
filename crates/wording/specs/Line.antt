-- What the line on a circuit says.
use Rattle.std.specs.Prelude.{◌≡◌, ℕ, List, [], ◌∷◌, ◌++◌, codes}
use Rattle.wording.specs.declared.Word.{Word}
use Rattle.wording.specs.declared.Word.TheVariants.{Passed, TooLate, TooEarly, TurnedAway, Shortest, Ratio}
use Rattle.wording.specs.Words.{margins}

-- w stands behind the front of the line t
abbrev pub StandsBehind : (front w t : List ℕ) → Type 0
StandsBehind front w t = (more : List ℕ) × (t ≡ front ++ (w ++ more))

-- behind its front a line t says that a circuit is passed, and just these margins, or just the words of a ratio, or begins as another word does
abbrev pub LineOf : (front : List ℕ) → Word → (t : List ℕ) → Type 0
LineOf front (Passed s) t = t ≡ front ++ (codes "passed, " ++ (margins s ++ (10 ∷ [])))
LineOf front (TooLate miss) t = StandsBehind front (codes "too late ") t
LineOf front (TooEarly miss) t = StandsBehind front (codes "too early ") t
LineOf front (TurnedAway refused) t = StandsBehind front (codes "turned away by ") t
LineOf front (Shortest period) t = StandsBehind front (codes "shortest period ") t
LineOf front (Ratio words) t = t ≡ front ++ (words.now ++ (10 ∷ []))
