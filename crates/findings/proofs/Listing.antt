-- Claims that are put one after another.
use Rattle.std.proofs.Common.{◌≡◌, ℕ, ◌+◌, List, [], ◌∷◌, ◌++◌, map, arith}
use Rattle.std.specs.List.{range_with_len}
use Rattle.std.proofs.lemmas.List.{append_assoc}
use Rattle.std.proofs.lemmas.List.FromFn.{map-range_with_len_more}
use Rattle.claim.specs.declared.kinds.Claim.{Claim}
use Rattle.findings.specs.Findings.{gate_claim, path_claims}

-- the next of several
pub one_more : (f : ℕ → Claim) (k : ℕ) (old now : List Claim) → now ≡ old ++ map f (range_with_len 0 k) → now ++ (f k ∷ []) ≡ old ++ map f (range_with_len 0 (k + 1))
one_more f k old now is = rw (is, map-range_with_len_more f 0 k k (omega arith)) (append_assoc old _ _)

-- the next gate of a path
pub gate_more : (room : List ℕ) (k : ℕ) (old now : List Claim) → now ≡ old ++ path_claims k room → now ++ (gate_claim room k ∷ []) ≡ old ++ path_claims (k + 1) room
gate_more room k old now is = rw (is, map-range_with_len_more (gate_claim room) 0 k k (omega arith)) (append_assoc old _ _)

-- the word, the margins, the smallest and the period
pub all_put : (w m a b d e f : List Claim) (s p s' p' : Claim) → a ≡ [] → b ≡ a ++ w → d ≡ b ++ m → e ≡ d ++ (s ∷ []) → f ≡ e ++ (p ∷ []) → s ≡ s' → p ≡ p' →
    f ≡ w ++ m ++ (s' ∷ p' ∷ [])
all_put w m a b d e f s p s' p' none word margins smallest period same_s same_p = rw (period, smallest, margins, word, none, same_s, same_p) (append_assoc (w ++ m) _ _)
