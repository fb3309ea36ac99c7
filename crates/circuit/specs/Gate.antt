-- A gate, and what its table makes of two bits.
use Rattle.std.specs.Prelude.{◌≡◌, ℕ, ◌+◌, ◌/◌, ◌%◌, ◌^◌, ◌<◌, Bool, true, false, cond, not, ◌&&◌, ◌||◌, List, [], ◌∷◌, codes, ◌==◌, slice_index_or}
use Rattle.circuit.specs.declared.gate.Gate.{Gate}

-- what stands for a gate that is not there
abbrev pub no_gate : Gate
no_gate = record { one = 0; two = 0; table = 0; least_one = 0; greatest_one = 0; least_two = 0; greatest_two = 0 }

-- bit i of a number
abbrev pub bit : ℕ → ℕ → Bool
bit i n = n / 2 ^ i % 2 == 1

-- the bit of a table for two inputs: bit 0 for both 0, 1 for the first alone 1, 2 for the second alone 1, 3 for both 1
abbrev pub place : Bool → Bool → ℕ
place a b = cond a 1 0 + cond b 2 0

-- a table's output for two bits
unfoldable pub output : ℕ → Bool → Bool → Bool
output t a b = bit (place a b) t

-- how many of the four pairs of bits have the output 1
abbrev pub ones_of : ℕ → ℕ
ones_of t = cond (output t false false) 1 0 + (cond (output t true false) 1 0 + (cond (output t false true) 1 0 + cond (output t true true) 1 0))

-- the sixteen tables in order: each by its name and by what it says of two bits
abbrev pub tables : List (List ℕ × (Bool → Bool → Bool))
tables =
    (codes "never", λ a b. false)
    ∷ (codes "nor", λ a b. not (a || b))
    ∷ (codes "first-only", λ a b. a && not b)
    ∷ (codes "not-second", λ a b. not b)
    ∷ (codes "second-only", λ a b. not a && b)
    ∷ (codes "not-first", λ a b. not a)
    ∷ (codes "xor", λ a b. cond a (not b) b)
    ∷ (codes "nand", λ a b. not (a && b))
    ∷ (codes "and", λ a b. a && b)
    ∷ (codes "xnor", λ a b. cond a b (not b))
    ∷ (codes "first", λ a b. a)
    ∷ (codes "first-or-not-second", λ a b. a || not b)
    ∷ (codes "second", λ a b. b)
    ∷ (codes "second-or-not-first", λ a b. not a || b)
    ∷ (codes "or", λ a b. a || b)
    ∷ (codes "always", λ a b. true)
    ∷ []

-- the table of number t has this name
abbrev pub Named : ℕ → List ℕ → Type 0
Named t name = (slice_index_or tables t ([], λ a b. false)).0 ≡ name

-- what the table of number t says
abbrev pub says : ℕ → Bool → Bool → Bool
says t = (slice_index_or tables t ([], λ a b. false)).1

-- each of the sixteen tables does what its name says
abbrev pub TablesSay : Type 0
TablesSay = (t : ℕ) (a b : Bool) → t < 16 → output t a b ≡ says t a b
