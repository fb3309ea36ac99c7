-- Bits of rows at moments, of which the last ones are kept.
use Rattle.std.specs.Prelude.{◌≡◌, ℕ, ◌+◌, ◌*◌, ◌/◌, ◌%◌, ◌^◌, ◌<◌, ◌≤◌, Bool, false, ◌&&◌, List, vec_items, vec_len, ◌≢◌, nat_lt, slice_index}
use Rattle.circuit.specs.Gate.{bit}
use Rattle.history.specs.declared.history.History.{History}

-- bit i of a list of numbers, 64 to each
unfoldable pub bit_in : List ℕ → ℕ → Bool
bit_in ws i = bit (i % 64) (slice_index ws (i / 64))

-- where a row's bit of a moment is kept, if each row has 2 ^ log places: a later moment takes the place of the one 2 ^ log before it
abbrev pub place : (log row at : ℕ) → ℕ
place log row at = row * 2 ^ log + at % 2 ^ log

-- the bit that is kept of a row at a moment, false of a row that is not there
unfoldable pub kept : History → (row at : ℕ) → Bool
kept h row at = nat_lt row h.rows && bit_in (vec_items h.words) (place h.log row at)

-- for how many moments a bit is kept
abbrev pub span : History → ℕ
span h = 2 ^ h.log

-- one bit was put: it is kept, and so are those of other rows, and of other moments that are less than the span away
pub record Put (before after : History) (row at : ℕ) (b : Bool) : Type 0 where
  pub rows_same : after.rows ≡ before.rows
  pub span_same : span after ≡ span before
  pub here : row < before.rows → kept after row at ≡ b
  pub other : (r u : ℕ) → (r ≡ row → (u ≢ at) × (u < at + span before) × (at < u + span before)) → kept after r u ≡ kept before r u

-- a history of so many rows with nothing in it, for more than n moments, and with no more memory than that wants
pub record Fresh (h : History) (rows n : ℕ) : Type 0 where
  pub rows_are : h.rows ≡ rows
  pub long : n < span h
  pub short : span h ≤ 2 * n + 1
  pub small : 64 * vec_len h.words < rows * span h + 64
  pub none : (r u : ℕ) → kept h r u ≡ false
