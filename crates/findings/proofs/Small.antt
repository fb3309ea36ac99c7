-- Numbers of findings are small.
use Rattle.std.proofs.Common.{ℕ, ◌+◌, ◌*◌, ◌/◌, ◌^◌, ◌<◌, ◌≤◌, List, get_or, arith}
use Rattle.circuit.specs.Lent.{register_count, takes}
use Rattle.circuit.specs.Whole.{Whole}
use Rattle.circuit.proofs.Joined.{small_registers, small_times}
use Rattle.arrival.specs.declared.edge.Edge.{Edge}
use Rattle.arrival.specs.declared.edge.Edge.TheVariants.{Late, Early}
use Rattle.arrival.specs.Lent.{time_of}
use Rattle.arrival.proofs.Turns.{time_small}
use Rattle.path.specs.Path.{PathTold}
use Rattle.promise.specs.Machine.{machine_in}
use Rattle.signoff.specs.Verdict.{Says}
use Rattle.signoff.specs.declared.verdict.Verdict.{Verdict}
use Rattle.signoff.specs.declared.verdict.Verdict.TheVariants as verdict
use Rattle.slack.specs.Period.{IsShortest}
use Rattle.findings.specs.Findings.{SmallWord}
use Rattle.findings.proofs.Paths.{sound, path_short}

module _ (g r t : List ℕ) (whole : Whole g r t) where
  pub registers_small : (i : ℕ) → get_or r i 0 ≤ 1000000
  registers_small = small_registers g r t whole.small

  pub times_small : (i : ℕ) → get_or t i 0 ≤ 1000000
  times_small = small_times g r t whole.small

  -- the time of the signal that a register takes
  pub taken_small : (e : Edge) (q : ℕ) → q < register_count r → time_of e g r t (takes r q) < 2 ^ 34
  taken_small e q h = time_small e g r t whole.gates_few whole.small (sound g r t whole) _ (whole.tied q h).0

  told_small : (e : Edge) (signal len : ℕ) (before after : List ℕ) →
      PathTold e g r t signal len before after → 2 * (len / 2) < 32769
  told_small e signal len before after (i, p, told, is, enough, begins) =
      let l = path_short g r t whole i p signal told.leads in
      omega arith

  -- the sums of a verdict are small
  pub small_word : (before after : List ℕ) (v : Verdict) → Says g r t before after v → SmallWord v
  small_word before after verdict.Passed says = tt
  small_word before after (verdict.TooLate x) (first, sums, told) =
      let q = x.register in
      let time = taken_small Late q first.0 in
      let some = whole.registers_some.1 in
      (omega (arith, first.0), omega (arith, sums.0, times_small 3), omega (arith, sums.1, times_small 0, registers_small (3 * q + 1)), told_small Late _ _ before after told)
  small_word before after (verdict.TooEarly x) (first, sums, told) =
      let q = x.register in
      let time = taken_small Early q first.1.0 in
      let some = whole.registers_some.1 in
      (omega (arith, first.1.0), omega (arith, sums.0), omega (arith, sums.1, times_small 4, registers_small (3 * q + 2)), told_small Early _ _ before after told)

  -- the shortest period is
  pub small_period : (p : ℕ) → IsShortest (machine_in g r t) p → p ≤ 2 ^ 35
  small_period p shortest = shortest.1 (2 ^ 35) (λ q h. let time = taken_small Late q h in omega (arith, times_small 3))
