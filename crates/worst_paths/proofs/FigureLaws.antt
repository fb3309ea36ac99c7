-- Figures of slacks, register by register.
use Rattle.std.proofs.Common.{◌≡◌, ℕ, zero, suc, ◌+◌, ◌*◌, ◌^◌, ◌<◌, ◌≤◌, inl, inr, refl, ap, arith, ℤ, pos, negsuc, ◌+ℤ◌, ◌≤ℤ◌, ◌<ℤ◌, FitsSigned, w64}
use Rattle.std.proofs.lemmas.Bool.{cases_lt}
use Rattle.std.proofs.lemmas.Int.{ints}
use Rattle.circuit.specs.Checked.{of, registers_of}
use Rattle.circuit.specs.declared.circuit.Circuit as checked
use Rattle.circuit.proofs.Known.{sound_of, taken_of, registers_small, times_small}
use Rattle.arrival.specs.declared.edge.Edge.{Edge}
use Rattle.arrival.specs.declared.edge.Edge.TheVariants.{Late, Early}
use Rattle.arrival.proofs.Turns.{time_small}
use Rattle.promise.specs.Machine.{Machine, machine_in}
use Rattle.slack.specs.Margin.{margin_of, Enough}
use Rattle.slack.proofs.MarginLaws.{by_margins}
use Rattle.worst_paths.specs.Figures.{violation, negative_part, violations, total_negative, PassedByFigures, TotalOfNone}

none_of : (x : ℤ) → violation x ≡ 0 → pos 0 ≤ℤ x
none_of (pos n) h = omega (arith, ints)
none_of (negsuc n) h = absurd (omega arith)

none_from : (x : ℤ) → pos 0 ≤ℤ x → violation x ≡ 0
none_from (pos n) h = refl
none_from (negsuc n) h = absurd (omega (arith, ints))

all_enough : (e : Edge) (m : Machine) (n : ℕ) → violations e m n ≡ 0 → (r : ℕ) → r < n → Enough e m r
unfolding violations
all_enough e m zero h r l = absurd (omega arith)
all_enough e m (suc n) h r l = elim (cases_lt r n) [
  | inl b ↦ all_enough e m n (omega arith) r b
  | inr g ↦ let same : r ≡ n = omega arith in rw same (none_of (margin_of e m n) (omega arith))
]

no_violations : (e : Edge) (m : Machine) (n : ℕ) → ((r : ℕ) → r < n → Enough e m r) → violations e m n ≡ 0
unfolding violations
no_violations e m zero all = refl
no_violations e m (suc n) all =
    let before = no_violations e m n (λ r l. all r (omega arith)) in
    let here = none_from (margin_of e m n) (all n (omega arith)) in
    omega arith

pub passed_by_figures : PassedByFigures
passed_by_figures m formed = (
  λ passed. let all = ((by_margins m).0 passed).1 in (no_violations Late m m.registers (all Late), no_violations Early m m.registers (all Early)),
  λ none. (by_margins m).1 (formed, kinds none.0 none.1),
)
  where
    kinds : violations Late m m.registers ≡ 0 → violations Early m m.registers ≡ 0 → (e : Edge) (r : ℕ) → r < m.registers → Enough e m r
    kinds late early Late = all_enough Late m m.registers late
    kinds late early Early = all_enough Early m m.registers early

-- a slack's own part is at most 0, and 0 exactly where it is no violation
part_small : (x : ℤ) → negative_part x ≤ℤ pos 0
part_small (pos n) = omega (arith, ints)
part_small (negsuc n) = omega (arith, ints)

part_none : (x : ℤ) → negative_part x ≡ pos 0 → violation x ≡ 0
part_none (pos n) h = refl
part_none (negsuc n) h = absurd (omega (arith, ints))

none_part : (x : ℤ) → violation x ≡ 0 → negative_part x ≡ pos 0
none_part (pos n) h = refl
none_part (negsuc n) h = absurd (omega arith)

pub total_small : (e : Edge) (m : Machine) (n : ℕ) → total_negative e m n ≤ℤ pos 0
unfolding total_negative
total_small e m zero = omega (arith, ints)
total_small e m (suc n) = let a = total_small e m n in let b = part_small (margin_of e m n) in omega (arith, ints)

pub total_of_none : TotalOfNone
unfolding total_negative violations
total_of_none e m zero = (λ h. refl, λ h. refl)
total_of_none e m (suc n) =
    let a = total_small e m n in
    let b = part_small (margin_of e m n) in
    let before = total_of_none e m n in (
      λ h.
          let total : total_negative e m n ≡ pos 0 = omega (arith, ints) in
          let part : negative_part (margin_of e m n) ≡ pos 0 = omega (arith, ints) in
          let none = before.0 total in
          let here = part_none (margin_of e m n) part in
          omega arith,
      λ h.
          let total = before.1 (omega arith) in
          let part = none_part (margin_of e m n) (omega arith) in
          omega (arith, ints),
    )

-- a slack of a circuit takes few bits
margin_small : (e : Edge) (c : checked.Circuit) (r : ℕ) → r < registers_of c → pos 0 ≤ℤ (margin_of e (of c machine_in) r +ℤ pos (2 ^ 35))
margin_small Late c r h =
    let small = time_small Late c.gates.now c.registers.now c.times.now c.few c.small (sound_of c) _ (taken_of c r h) in
    omega (arith, ints, times_small c 3)
margin_small Early c r h = omega (arith, ints, registers_small c (3 * r + 2), times_small c 4)

-- so does the sum of some
pub total_low : (e : Edge) (c : checked.Circuit) (n : ℕ) → n ≤ registers_of c → pos 0 ≤ℤ (total_negative e (of c machine_in) n +ℤ pos (n * 2 ^ 35))
unfolding total_negative
total_low e c zero h = omega (arith, ints)
total_low e c (suc n) h =
    let before = total_low e c n (omega arith) in
    let here = part_low (margin_of e (of c machine_in) n) (margin_small e c n (omega arith)) in
    let more : suc n * 2 ^ 35 ≡ n * 2 ^ 35 + 2 ^ 35 = omega arith in
    omega (arith, ints)
  where
    part_low : (x : ℤ) → pos 0 ≤ℤ (x +ℤ pos (2 ^ 35)) → pos 0 ≤ℤ (negative_part x +ℤ pos (2 ^ 35))
    part_low (pos n) h = omega (arith, ints)
    part_low (negsuc n) h = h

pub few_violations : (e : Edge) (m : Machine) (n : ℕ) → violations e m n ≤ n
unfolding violations
few_violations e m zero = omega arith
few_violations e m (suc n) = let before = few_violations e m n in let here = few (margin_of e m n) in omega arith
  where
    few : (x : ℤ) → violation x ≤ 1
    few (pos n) = omega arith
    few (negsuc n) = omega arith

-- one register more
pub record IsTally (e : Edge) (m : Machine) (n v : ℕ) (t : ℤ) : Type 0 where
  pub violations : v ≡ violations e m n
  pub total : t ≡ total_negative e m n

pub none_yet : (e : Edge) (m : Machine) → IsTally e m 0 0 (pos 0)
unfolding violations total_negative
none_yet e m = record { violations = refl; total = refl }

pub one_violation : (e : Edge) (m : Machine) (n v : ℕ) (t x : ℤ) → IsTally e m n v t → x ≡ margin_of e m n → x <ℤ pos 0 → IsTally e m (n + 1) (v + 1) (t +ℤ x)
unfolding violations total_negative
one_violation e m n v t (pos k) sofar is low = absurd (omega (arith, ints))
one_violation e m n v t (negsuc k) sofar is low =
    let one : n + 1 ≡ suc n = omega arith in
    let a = sofar.violations in
    let b = sofar.total in
    let here : 1 ≡ violation (margin_of e m n) = ap violation is in
    let part : negsuc k ≡ negative_part (margin_of e m n) = ap negative_part is in
    record { violations = rw one (omega arith); total = rw (one, ← b, ← part) }

pub no_violation : (e : Edge) (m : Machine) (n v : ℕ) (t x : ℤ) → IsTally e m n v t → x ≡ margin_of e m n → pos 0 ≤ℤ x → IsTally e m (n + 1) v t
unfolding violations total_negative
no_violation e m n v t (negsuc k) sofar is low = absurd (omega (arith, ints))
no_violation e m n v t (pos k) sofar is low =
    let one : n + 1 ≡ suc n = omega arith in
    let a = sofar.violations in
    let b = sofar.total in
    let here : 0 ≡ violation (margin_of e m n) = ap violation is in
    let part : pos 0 ≡ negative_part (margin_of e m n) = ap negative_part is in
    record { violations = rw one (omega arith); total = rw one (omega (arith, ints)) }

-- the next sum fits its type
pub total_fits : (e : Edge) (c : checked.Circuit) (n v : ℕ) (t : ℤ) → n ≤ registers_of c → IsTally e (of c machine_in) n v t → FitsSigned w64 t
total_fits e c n v t h tally =
    let is = tally.total in
    let some = c.some.1 in
    let low = total_low e c n h in
    let high = total_small e (of c machine_in) n in
    omega (arith, ints)
