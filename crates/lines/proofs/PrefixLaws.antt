-- Laws of how many bytes stand first that pass a test.
use Rattle.std.proofs.Common.{◌≡◌, ℕ, ◌+◌, ◌<◌, ◌≤◌, Bool, true, false, List, length, get_or, drop, arith}
use Rattle.std.specs.List.{prefix_len}
use Rattle.std.proofs.lemmas.List.Sums.{prefix_len-drop_yes, prefix_len-drop_no, prefix_len-drop_all}

-- the first n bytes of s pass p
abbrev pub Passed : (ℕ → Bool) → List ℕ → ℕ → Type 0
Passed p s n = (n ≤ length s) × (prefix_len p s ≡ n + prefix_len p (drop n s))

module _ (p : ℕ → Bool) (s : List ℕ) (n : ℕ) (so_far : Passed p s n) where
  pub one_more : n < length s → p (get_or s n 0) ≡ true → Passed p s (n + 1)
  one_more lt pass = (omega (arith, lt), omega (arith, so_far.1, prefix_len-drop_yes p s n 0 lt pass))

  pub stopped : n < length s → p (get_or s n 0) ≡ false → n ≡ prefix_len p s
  stopped lt fails = omega (arith, so_far.1, prefix_len-drop_no p s n 0 lt fails)

  pub all_pass : length s ≤ n → n ≡ prefix_len p s
  all_pass le = omega (arith, so_far.1, prefix_len-drop_all p s n le)
