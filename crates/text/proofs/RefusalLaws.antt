-- Why a circuit is turned away, of whose numbers those past the largest circuit's are forgotten.
use Rattle.std.proofs.Common.{◌≡◌, ℕ, ◌*◌, ◌≤◌, List, length, take, min, inl, inr, arith}
use Rattle.std.proofs.lemmas.Bool.{cases_lt}
use Rattle.std.proofs.lemmas.List.{length-take, take_all}
use Rattle.circuit.specs.Whole.{Whole}
use Rattle.circuit.specs.Refused.{number_of, Applies, FirstRefusal}
use Rattle.circuit.specs.declared.refusal.Refusal.{Refusal}
use Rattle.circuit.specs.declared.refusal.Refusal.TheVariants.{GateNumbers, RegisterNumbers, TimeNumbers, RegisterCount, GateCount, TooLarge, BadGate, BadDelay, BadRegister, BadOutput, NoSignal, NoRoom, OutOfBounds, NoPeriod, NoMoment}
use Rattle.text.specs.Meaning.{Drafted}
use Rattle.text.specs.Reader.{trimmed, TrimmedAlike, TrimmedWhole}

-- xs is what is kept of ys where n numbers are kept
record Kept (n : ℕ) (xs ys : List ℕ) : Type 0 where
  count : length xs ≡ min n (length ys)
  all : length ys ≤ n → xs ≡ ys

kept_of : (n : ℕ) (ys : List ℕ) → Kept n (take n ys) ys
kept_of n ys = record { count = length-take n ys; all = take_all n ys }

-- the numbers gs, rs and ts that are kept of the numbers gates, registers and times
module _ (gs rs ts gates registers times : List ℕ)
    (kg : Kept 114695 gs gates) (kr : Kept 3075 rs registers) (kt : Kept 10 ts times) where
  module _ (g r : ℕ) (sevens : length gates ≡ 7 * g) (threes : length registers ≡ 3 * r) where
    -- a case of a number up to 2 applies to all numbers if and only if it applies to those that are kept
    low : (f : Refusal) → number_of f ≤ 2 →
        (Applies gs rs ts f → Applies gates registers times f) × (Applies gates registers times f → Applies gs rs ts f)
    low GateNumbers h = ((λ a z. a (omega arith)), (λ a z. a (omega arith)))
    low RegisterNumbers h = ((λ a z. a (omega arith)), (λ a z. a (omega arith)))
    low TimeNumbers h = ((λ a z. a (omega arith)), (λ a z. a (omega arith)))
    low RegisterCount h = ((λ a z. a (omega arith, omega arith)), (λ a z. a (omega arith, omega arith)))
    low GateCount h = ((λ a z. a (omega arith)), (λ a z. a (omega arith)))
    low (TooLarge p) h = absurd (omega arith)
    low (BadGate k) h = absurd (omega arith)
    low (BadDelay k) h = absurd (omega arith)
    low (BadRegister k) h = absurd (omega arith)
    low BadOutput h = absurd (omega arith)
    low (NoSignal s) h = absurd (omega arith)
    low (NoRoom n) h = absurd (omega arith)
    low (OutOfBounds n) h = absurd (omega arith)
    low NoPeriod h = absurd (omega arith)
    low NoMoment h = absurd (omega arith)

    -- where a case of a number up to 2 applies, the first one is the same
    alike_low : (e f : Refusal) → FirstRefusal gs rs ts e → Applies gs rs ts f → number_of f ≤ 2 →
        FirstRefusal gates registers times e
    alike_low e f refused applies h =
        let low_e : number_of e ≤ 2 =
        elim (refused.first f applies) [ inl below ↦ omega arith | inr same ↦ omega arith ] in
        record {
          applies = (low e low_e).0 refused.applies;
          first = λ k a. elim (cases_lt 2 (number_of k)) [
            | inl high ↦ inl (omega arith)
            | inr lower ↦ refused.first k ((low k lower).1 a)
          ];
        }

    alike : (e : Refusal) → FirstRefusal gs rs ts e → FirstRefusal gates registers times e
    alike e refused = elim (cases_lt 114695 (length gates)) [
      | inl many ↦ alike_low e GateCount refused (λ z. omega arith) (omega arith)
      | inr gates_few ↦ elim (cases_lt 3075 (length registers)) [
        | inl many ↦ alike_low e RegisterCount refused (λ z. omega arith) (omega arith)
        | inr registers_few ↦ elim (cases_lt 10 (length times)) [
          | inl many ↦ alike_low e TimeNumbers refused (λ z. omega arith) (omega arith)
          | inr times_few ↦ rw (kg.all gates_few, kr.all registers_few, kt.all times_few) at refused
        ]
      ]
    ]

  -- where the numbers that are kept are whole, they are all
  nothing_cut : Whole gs rs ts → (gs ≡ gates) × (rs ≡ registers) × (ts ≡ times)
  nothing_cut whole = (
    kg.all (omega (arith, whole.gates_few)),
    kr.all (omega (arith, whole.registers_some.1)),
    kt.all (omega (arith, whole.shaped.2)),
  )

module _ (d : Drafted) where
  abbrev gates_kept : Kept 114695 (trimmed d).gates d.gates
  gates_kept = kept_of 114695 d.gates

  abbrev registers_kept : Kept 3075 (trimmed d).registers d.registers
  registers_kept = kept_of 3075 d.registers

  abbrev times_kept : Kept 10 (trimmed d).times d.times
  times_kept = kept_of 10 d.times

pub trimmed_alike : TrimmedAlike
trimmed_alike d = alike _ _ _ _ _ _ (gates_kept d) (registers_kept d) (times_kept d)

pub trimmed_whole : TrimmedWhole
trimmed_whole d whole =
    let same = nothing_cut _ _ _ _ _ _ (gates_kept d) (registers_kept d) (times_kept d) whole in
    rw (same.0, same.1, same.2)
