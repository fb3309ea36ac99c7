use Rattle.std.proofs.Common.{◌∙◌, FitsSigned, w64, arith, ◌-ℤ◌}
use Rattle.std.proofs.lemmas.Int.{ints, to_z-of_z}
use Rattle.slack.proofs.margin.ends_of.Goals as goal

pub returns-in-Late : goal.returns-in-Late
returns-in-Late c =
    let a = c.arrival_at-arrival.ensures in
    let q = c.required-required.ensures in
    let a_fits : FitsSigned w64 c.arrival_at-arrival.result = omega (arith, ints) in
    let q_fits : FitsSigned w64 c.required-required.result = omega (arith, ints) in
    let between_fits : FitsSigned w64 (c.required-required.result -ℤ c.arrival_at-arrival.result) = omega (arith, ints, a.time, a.small, q.small) in
    let arrival = rw c.in-Late.is at a.time in
    let required = rw c.in-Late.is at q.time in (
      to_z-of_z w64 _ a_fits ∙ a.time,
      to_z-of_z w64 _ q_fits ∙ q.time,
      rw (to_z-of_z w64 _ a_fits, to_z-of_z w64 _ q_fits, to_z-of_z w64 _ between_fits, c.in-Late.is) (omega (arith, ints, arrival, required)),
    )

pub returns-in-Early : goal.returns-in-Early
returns-in-Early c =
    let a = c.arrival_at-arrival.ensures in
    let q = c.required-required.ensures in
    let a_fits : FitsSigned w64 c.arrival_at-arrival.result = omega (arith, ints) in
    let q_fits : FitsSigned w64 c.required-required.result = omega (arith, ints) in
    let between_fits : FitsSigned w64 (c.arrival_at-arrival.result -ℤ c.required-required.result) = omega (arith, ints, a.time, a.small, q.small) in
    let arrival = rw c.in-Early.is at a.time in
    let required = rw c.in-Early.is at q.time in (
      to_z-of_z w64 _ a_fits ∙ a.time,
      to_z-of_z w64 _ q_fits ∙ q.time,
      rw (to_z-of_z w64 _ a_fits, to_z-of_z w64 _ q_fits, to_z-of_z w64 _ between_fits, c.in-Early.is) (omega (arith, ints, arrival, required)),
    )
