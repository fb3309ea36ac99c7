-- False-path exceptions: false paths that are left out of the setup sums one by one, as many tools let a person do.
-- What is passed in this way may go wrong.
use Rattle.std.specs.Prelude.{◌≡◌, ℕ, ◌+◌, ◌<◌, ◌≤◌}
use Rattle.arrival.specs.declared.edge.Edge.TheVariants.{Late}
use Rattle.path.specs.Path.{Steps, sum}
use Rattle.promise.specs.Machine.{Machine, Formed, Passed, HoldKept, since}
use Rattle.promise.specs.Promise.{with_period}
use Rattle.values.specs.Examples.{SomeCircuit, GoesWrong}
use Rattle.values.specs.FalsePath.{IsFalsePath, Violates}

-- A machine is passed with n exceptions that are late by at most d: it is well formed and its hold sums are right;
-- every path that violates the setup time is one of n paths, each named with its register; each such path is a false
-- path, and takes at most d longer than allowed
pub record PassedWithExceptions (n d : ℕ) (m : Machine) : Type 0 where
  pub formed : Formed m
  pub hold_kept : (r : ℕ) → r < m.registers → HoldKept m r
  pub excepted :
      (exception : ℕ → ℕ × Steps)
      × ((r i : ℕ) (p : Steps) → Violates m r i p → (k : ℕ) × (k < n) × (exception k ≡ (r, p)))
  pub are_false : (r i : ℕ) (p : Steps) → Violates m r i p → IsFalsePath m.circuit p
  pub late_by : (r i : ℕ) (p : Steps) → Violates m r i p →
      since m i + sum Late m.circuit p + m.setup ≤ m.period + m.early r + d

-- EXCEPTIONS ARE NOT SAFE. Some circuit with a period of 20 is passed with two exceptions that are late by 1, and
-- goes wrong: two false paths together let a change through that neither lets through alone
abbrev pub TwoExceptionsFail : Type 0
TwoExceptionsFail = SomeCircuit (λ m. (m.period ≡ 20) × PassedWithExceptions 2 1 m × GoesWrong m)

-- Nor is one. Some circuit with a period of 20 is passed with one exception that is late by 1, and goes wrong: the
-- delays of the path's gates alone are longer than the period
abbrev pub OneExceptionFails : Type 0
OneExceptionFails = SomeCircuit (λ m. (m.period ≡ 20) × PassedWithExceptions 1 1 m × GoesWrong m)

-- What exceptions do promise: the machine is passed with a period that is longer by as much as they are late, or by
-- more
abbrev pub PassedWithLonger : Type 0
PassedWithLonger =
    (m : Machine) (n d p : ℕ) → PassedWithExceptions n d m → m.period + d ≤ p → Passed (with_period m p)
