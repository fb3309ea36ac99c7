-- When a circuit that was read is passed, why it is turned away, and its shortest period.
use Rattle.std.specs.Prelude.{◌≡◌, ℕ, Bool, true, false, Some, None, Option, slice_get}
use Rattle.std.specs.Option.{unwrap_or}
use Rattle.circuit.specs.Whole.{Whole}
use Rattle.circuit.specs.declared.circuit.Circuit.{Circuit}
use Rattle.circuit.specs.Refused.{FirstRefusal}
use Rattle.circuit.specs.declared.refusal.Refusal.{Refusal}
use Rattle.detail.specs.declared.Detail.{Detail}
use Rattle.detail.specs.declared.Detail.TheVariants as detail
use Rattle.reason.specs.Reason.{TrueOf}
use Rattle.text.specs.Meaning.{Drafted, refusal_of}
use Rattle.text.specs.Reader.{Listed, Placed}
use Rattle.text.specs.declared.draft.Miscount.{Miscount}
use Rattle.wording.specs.Words.{miscount_words}
use Rattle.wording.specs.declared.Refused.{Refused}
use Rattle.wording.specs.declared.Why.{Why}
use Rattle.wording.specs.declared.Why.TheVariants as why
use Rattle.promise.specs.Machine.{Machine, machine_in, Passed}
use Rattle.promise.specs.Promise.{AsDrawn}
use Rattle.slack.specs.Period.{IsShortest}

abbrev pub machine_of : Drafted → Machine
machine_of d = machine_in d.gates d.registers d.times

-- every line has its count of numbers, and the numbers are a circuit
abbrev pub Taken : Drafted → Type 0
Taken d = (d.miscount ≡ None) × Whole d.gates d.registers d.times

-- a checked circuit has the numbers that were read
abbrev pub HasNumbers : Drafted → Circuit → Type 0
HasNumbers d c = (c.gates.now ≡ d.gates) × (c.registers.now ≡ d.registers) × (c.times.now ≡ d.times)

-- b says whether it is turned away
abbrev pub TurnedAwayIf : Drafted → Bool → Type 0
TurnedAwayIf d true = Taken d → ⊥
TurnedAwayIf d false = Taken d

-- the number of the line that a detail is about: of its gate, register or times
abbrev pub line_about : Placed → Detail → Option ℕ
line_about p (detail.Gate k x) = slice_get p.gates k
line_about p (detail.Register r x) = slice_get p.registers r
line_about p (detail.Times x) = slice_get p.times 0
line_about p x = None

-- of a circuit that was read with its lines: the refusal e is that of the line that is miscounted, which is told; or there is no
-- such line, e is the first of the list that applies to the numbers, the detail is one of e and true of them, and the line
-- that is told is the one that it is about, or else the one on which the circuit began
abbrev pub FirstOf : Listed → (e : Refusal) → (line : ℕ) → Why → Type 0
FirstOf l e line (why.Miscount words) =
    (m : Miscount) × (l.draft.miscount ≡ Some m) × (e ≡ refusal_of m.part) × (words.now ≡ miscount_words m.part) × (line ≡ m.line)
FirstOf l e line (why.Detail x) =
    (l.draft.miscount ≡ None) × FirstRefusal l.draft.gates l.draft.registers l.draft.times e
    × TrueOf l.draft.gates l.draft.registers l.draft.times e x × (line ≡ unwrap_or (line_about l.places x) l.draft.line)

abbrev pub RefusedFirst : Listed → Refused → Type 0
RefusedFirst l x = FirstOf l x.what.refusal x.line x.what.why

-- it is taken, and both sums are right at every register
abbrev pub Fit : Drafted → Type 0
Fit d = Taken d × Passed (machine_of d)

-- b says whether it is passed; if it is, every run of it holds the drawing's bits
abbrev pub PassedIf : Drafted → Bool → Type 0
PassedIf d true = Fit d × AsDrawn (machine_of d)
PassedIf d false = Fit d → ⊥

-- p is its shortest period; there is none where it is turned away
abbrev pub PeriodIf : Drafted → Option ℕ → Type 0
PeriodIf d (Some p) = Taken d × IsShortest (machine_of d) p
PeriodIf d None = Taken d → ⊥
