-- Laws of the shortest period.
use Rattle.std.proofs.Common.{◌≡◌, ℕ, ◌+◌, ◌-◌, ◌≤◌, inl, inr, arith, pos, ◌-ℤ◌}
use Rattle.std.proofs.lemmas.Bool.{cases_lt}
use Rattle.std.proofs.lemmas.Int.{ints, clamps}
use Rattle.std.specs.Int.{int_max}
use Rattle.arrival.specs.declared.edge.Edge.TheVariants.{Late}
use Rattle.promise.specs.Machine.{Machine, Formed}
use Rattle.promise.specs.Promise.{with_period}
use Rattle.slack.specs.Margin.{IsWorst}
use Rattle.slack.specs.Period.{SetupKeptWith, IsShortest, OneLessIsNot, PassedFromShortest}
use Rattle.slack.specs.declared.worst.Worst.{Worst}

-- a longer period keeps the first sum right
pub longer : (m : Machine) (p q : ℕ) → p ≤ q → SetupKeptWith m p → SetupKeptWith m q
longer m p q more kept r h = omega (arith, kept r h)

pub one_less : OneLessIsNot
one_less m p = (
  λ shortest. (shortest.0, λ q less kept. absurd (omega (arith, shortest.1 q kept))),
  λ (kept, none). (kept, least p kept none),
)
  where
    least : (p : ℕ) → SetupKeptWith m p → ((q : ℕ) → q + 1 ≡ p → SetupKeptWith m q → ⊥) → (q : ℕ) → SetupKeptWith m q → p ≤ q
    least p kept none q kept_q = elim (cases_lt q p) [
      | inl below ↦ absurd (none (p - 1) (omega arith) (longer m q (p - 1) (omega arith) kept_q))
      | inr above ↦ above
    ]

formed_with : (m : Machine) (p : ℕ) → Formed m → Formed (with_period m p)
formed_with m p f = record { sources = f.sources; sound = f.sound; taken = f.taken; clocked = f.clocked; output_ordered = f.output_ordered }

pub passed_from : PassedFromShortest
passed_from m s formed shortest p = (
  λ passed. (shortest.1 p passed.setup_kept, passed.hold_kept),
  λ (more, hold). record { formed = formed_with m p formed; setup_kept = longer m s p more shortest.0; hold_kept = hold },
)

-- the machine's period less the smallest first margin, or 0 where that is below it
pub from_worst : (m : Machine) (w : Worst) (p : ℕ) → IsWorst Late m m.registers w → pos p ≡ int_max (pos m.period -ℤ w.margin) (pos 0) → IsShortest m p
from_worst m w p worst is = (
  λ r h. omega (arith, ints, clamps, is, worst.smallest r h),
  λ q kept. omega (arith, ints, clamps, is, kept w.register worst.inside, worst.has),
)
