-- What is found of a checked circuit, as the claims of a report.
use Rattle.std.specs.Prelude.{◌≡◌, ℕ, ◌+◌, ◌*◌, ◌/◌, ◌^◌, ◌<◌, pos, List, [], ◌∷◌, ◌++◌, map, slice_index}
use Rattle.std.specs.List.{range_with_len}
use Rattle.arrival.specs.declared.edge.Edge.TheVariants.{Late, Early}
use Rattle.promise.specs.Machine.{Machine, machine_in}
use Rattle.signoff.specs.Verdict.{Says}
use Rattle.signoff.specs.declared.verdict.Miss.{Miss}
use Rattle.signoff.specs.declared.verdict.Verdict.{Verdict}
use Rattle.signoff.specs.declared.verdict.Verdict.TheVariants as verdict
use Rattle.slack.specs.Margin.{margin_of, AreSmallest}
use Rattle.slack.specs.Period.{IsShortest}
use Rattle.slack.specs.declared.worst.Worst.{Worst}
use Rattle.slack.specs.declared.worst.Smallest.{Smallest}
use Rattle.claim.specs.declared.kinds.Claim.{Claim}
use Rattle.claim.specs.declared.kinds.Claim.TheVariants as claim
use Rattle.claim.specs.declared.kinds.Sums.{Sums}
use Rattle.claim.specs.declared.kinds.Worst as claimed

-- gate k of the path that a room begins with: its signal, and the input that the path comes in by, counted from 1
abbrev pub gate_claim : List ℕ → ℕ → Claim
gate_claim room k = claim.Through (pos (slice_index room (2 * k + 1))) (pos (slice_index room (2 * k + 2) + 1))

-- a path through so many gates: the signal of the register where it begins, and its gates in order
abbrev pub path_claims : ℕ → List ℕ → List Claim
path_claims gates room = claim.From (pos (slice_index room 0)) ∷ map (gate_claim room) (range_with_len 0 gates)

-- the register that is named, and its two sums
abbrev pub sums_of : Miss → Sums
sums_of x = record { register = pos x.register; arrival = pos x.arrival; limit = pos x.limit }

-- these fit, and no path is longer than the longest
abbrev pub SmallMiss : Miss → Type 0
SmallMiss x = (x.register < 2 ^ 63) × (x.arrival < 2 ^ 63) × (x.limit < 2 ^ 63) × (2 * (x.path / 2) < 32769)

abbrev pub SmallWord : Verdict → Type 0
SmallWord verdict.Passed = Unit {0}
SmallWord (verdict.TooLate x) = SmallMiss x
SmallWord (verdict.TooEarly x) = SmallMiss x

-- the word, and where it is not passed the path in the room that it left
abbrev pub word_claims : Verdict → (after : List ℕ) → List Claim
word_claims verdict.Passed after = claim.Passed ∷ []
word_claims (verdict.TooLate x) after = claim.TooLate (sums_of x) ∷ path_claims (x.path / 2) after
word_claims (verdict.TooEarly x) after = claim.TooEarly (sums_of x) ∷ path_claims (x.path / 2) after

-- both margins of every register, in order
abbrev pub margin_claim : Machine → ℕ → Claim
margin_claim m r = claim.Margins (margin_of Late m r) (margin_of Early m r)

abbrev pub margin_claims : Machine → List Claim
margin_claims m = map (margin_claim m) (range_with_len 0 m.registers)

-- the smallest margins, each with the first register that has it
abbrev pub worst_of : Worst → claimed.Worst
worst_of w = record { register = pos w.register; margin = w.margin }

abbrev pub smallest_of : Smallest → Claim
smallest_of s = claim.Smallest (worst_of s.setup) (worst_of s.hold)

-- THE FINDINGS OF A CIRCUIT: its word with the path by which that is so, the margins of all registers, the smallest of each kind, and the
-- shortest period
pub record AreFindings (gates registers times : List ℕ) (claims : List Claim) : Type 0 where
  pub word : Verdict
  pub before : List ℕ
  pub after : List ℕ
  pub says : Says gates registers times before after word
  pub smallest : Smallest
  pub are_smallest : AreSmallest (machine_in gates registers times) smallest
  pub period : ℕ
  pub is_shortest : IsShortest (machine_in gates registers times) period
  pub are : claims ≡ word_claims word after ++ margin_claims (machine_in gates registers times) ++ (smallest_of smallest ∷ claim.Period (pos period) ∷ [])

-- they are one and the same list
abbrev pub FindingsAreOne : Type 0
FindingsAreOne = (gates registers times : List ℕ) (xs ys : List Claim) → AreFindings gates registers times xs → AreFindings gates registers times ys → xs ≡ ys
