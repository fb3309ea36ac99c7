-- Choices of each kind.
use Rattle.std.specs.Prelude.{ℕ}
use Rattle.script.specs.declared.chance.Choice.{Choice}
use Rattle.script.specs.declared.chance.Choice.TheVariants.{Start, Delay, Show, Clock, Take}
use Rattle.script.specs.Chance.{drawn_from}

-- a kind of choice has its own number
abbrev pub choice_number : Choice → ℕ
choice_number Start = 0
choice_number Delay = 1
choice_number Show = 2
choice_number Clock = 3
choice_number Take = 4

-- the number of 64 bits that belongs to a seed, a kind of choice, and two numbers
abbrev pub drawn_for : (seed : ℕ) → Choice → (a b : ℕ) → ℕ
drawn_for seed c a b = drawn_from seed (choice_number c) a b
