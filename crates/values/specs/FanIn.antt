-- Some registers whose sums are right, in a machine whose other registers may have any sums.
use Rattle.std.specs.Prelude.{◌≡◌, ℕ, ◌<◌, Bool, true}
use Rattle.arrival.specs.Window.{Wave}
use Rattle.path.specs.Path.{Steps}
use Rattle.promise.specs.Machine.{Machine, Formed, HoldKept, drawing}
use Rattle.promise.specs.Run.{Run}
use Rattle.values.specs.ByValues.{SetupByValues}
use Rattle.values.specs.FalsePath.{EndsAt}

-- a set S of registers that is closed under fan-in, each path to one of them being launched by one of them, and whose
-- sums are right by values
pub record IsClosedPart (m : Machine) (S : ℕ → Bool) : Type 0 where
  pub inside : (r : ℕ) → S r ≡ true → r < m.registers
  pub closed : (r i : ℕ) (p : Steps) → S r ≡ true → EndsAt m r i p → S i ≡ true
  pub setup_kept : (r : ℕ) → S r ≡ true → SetupByValues m r
  pub hold_kept : (r : ℕ) → S r ≡ true → HoldKept m r

-- they hold the drawing's bits after every cycle of every run, whatever the other registers do
abbrev pub PartPromise : Type 0
PartPromise =
    (m : Machine) (S : ℕ → Bool) → Formed m → IsClosedPart m S →
    (start : ℕ → Bool) (clock : ℕ → ℕ → ℕ) (holds : ℕ → ℕ → Bool) (w : ℕ → Wave) → Run m start clock holds w →
    (n r : ℕ) → S r ≡ true → holds n r ≡ drawing m start n r
