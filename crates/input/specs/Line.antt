-- Lines without their comments, and how the first is shown.
use Rattle.std.specs.Prelude.{ℕ, ◌==◌, Bool, cond, not, ◌&&◌, List, [], ◌∷◌, drop, map, nat_eq}
use Rattle.std.specs.List.{starts_with}
use Rattle.lines.specs.Words.{inline, plain, bare, lines}

-- a byte that a line can have before its comment: no newline, number sign or NUL
abbrev pub kept : ℕ → Bool
kept b = inline b && (plain b && not (b == 0))

-- the lines of a text without their comments
abbrev pub bare_lines : List ℕ → List (List ℕ)
bare_lines t = map bare (lines t)

-- what a text may begin with, to say that it is UTF-8
abbrev pub mark : List ℕ
mark = 239 ∷ (187 ∷ (191 ∷ []))

-- a line as it is shown: the first without such a mark at its front
abbrev pub shown : (number : ℕ) (line : List ℕ) → List ℕ
shown number line = cond ((number == 1) && starts_with nat_eq line mark) (drop 3 line) line
