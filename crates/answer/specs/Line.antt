-- What the line says that is printed of a circuit.
use Rattle.std.specs.Prelude.{◌≡◌, ℕ, Bool, true, false, ◌⊎◌, List, [], ◌∷◌, ◌++◌, Some, None, Option, codes}
use Rattle.std.specs.Float.{Float}
use Rattle.promise.specs.Machine.{Machine}
use Rattle.slack.specs.declared.worst.Smallest.{Smallest}
use Rattle.near.specs.Ratio.{IsSetupRatio}
use Rattle.near.specs.Words.{IsWords}
use Rattle.wording.specs.Line.{StandsBehind}
use Rattle.wording.specs.Words.{margins}

-- behind its front a line t tells a shortest period; or, with none, that the circuit is turned away
abbrev pub PeriodLine : (front : List ℕ) → Option ℕ → (t : List ℕ) → Type 0
PeriodLine front (Some p) t = StandsBehind front (codes "shortest period ") t
PeriodLine front None t = StandsBehind front (codes "turned away by ") t

-- behind its front a line t says that a circuit is passed, and just these margins; or, with none, goes on with another word
abbrev pub LineSays : (front : List ℕ) → Option Smallest → (t : List ℕ) → Type 0
LineSays front (Some s) t = t ≡ front ++ (codes "passed, " ++ (margins s ++ (10 ∷ [])))
LineSays front None t = StandsBehind front (codes "too late ") t ⊎ StandsBehind front (codes "too early ") t ⊎ StandsBehind front (codes "turned away by ") t

-- behind its front a line t tells a machine's smallest setup margin as a part of its period, or that the period is 0; or that the circuit is turned away
abbrev pub RatioLine : (front : List ℕ) → Machine → (turned_away : Bool) → (t : List ℕ) → Type 0
RatioLine front m true t = StandsBehind front (codes "turned away by ") t
RatioLine front m false t = (x : Option Float) × IsSetupRatio m x × (words : List ℕ) × IsWords x words × (t ≡ front ++ (words ++ (10 ∷ [])))
