use Rattle.std.proofs.Common.{◌≡◌, ℕ, ◌+◌, ◌*◌, ◌-◌, ◌^◌, ◌<◌, ◌≤◌, inl, inr, arith, pow_mono}
use lib.Count.{count_leading_zeros}
use Rattle.std.proofs.lemmas.Bool.{cases_lt}
use Rattle.std.proofs.lemmas.Nat.{leading_length}
use Rattle.history.proofs.keeping.bits_of.Goals as goal

few : (n m : ℕ) → 2 ^ m ≤ 2 * n + 1 → n < 2 ^ 31 → m ≤ 31
few n m least small = elim (cases_lt 31 m) [ inl l ↦ absurd (omega (arith, let k : 32 ≤ m = l in pow_mono k)) | inr l ↦ l ]

-- a number of bits is what is left of 64 above its leading zeros
pub returns : goal.returns
returns c =
    let l = leading_length 64 c.args.n (omega arith) in
    let e : 64 - count_leading_zeros 64 c.args.n ≡ l.0 = omega (arith, l.1) in
    rw e (record { low = few c.args.n l.0 l.3; above = l.2; least = l.3 })
