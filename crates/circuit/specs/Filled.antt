-- Lent memory that is filled.
use Rattle.std.specs.Prelude.{◌≡◌, ℕ, ◌<◌, ◌≤◌, List, slice_index_or}

-- `after` has the values f at its first n places, and is as `before` was at the others; d stands past the end of both
pub record Filled {A : Type 0} (d : A) (n : ℕ) (f : ℕ → A) (before after : List A) : Type 0 where
  pub filled : (k : ℕ) → k < n → slice_index_or after k d ≡ f k
  pub rest : (k : ℕ) → n ≤ k → slice_index_or after k d ≡ slice_index_or before k d
