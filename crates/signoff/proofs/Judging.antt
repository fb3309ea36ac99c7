-- From a judgement to an answer.
use Rattle.std.proofs.Common.{◌≡◌, ℕ, ◌<◌, List, Ok, Err, Result, inl, inr, arith}
use Rattle.circuit.specs.Checked.{of, registers_of}
use Rattle.circuit.specs.Lent.{takes}
use Rattle.circuit.specs.Whole.{Whole}
use Rattle.circuit.specs.declared.circuit.Circuit as checked
use Rattle.circuit.proofs.Known.{taken_of, whole_of}
use Rattle.circuit.specs.declared.refusal.Refusal.{Refusal}
use Rattle.arrival.specs.declared.edge.Edge.{Edge}
use Rattle.arrival.specs.declared.edge.Edge.TheVariants.{Late, Early}
use Rattle.path.specs.Path.{PathRefused}
use Rattle.signoff.specs.Verdict.{Named, Short, Judged, Answers}
use Rattle.signoff.specs.declared.verdict.Verdict.{Verdict}

pub answered : (g r t before after : List ℕ) (v : Result Verdict Refusal) → Whole g r t → Judged g r t before after v → Answers g r t before after v
answered g r t before after (Ok v) whole judged = (whole, judged)
answered g r t before after (Err e) whole judged = (inr (whole, judged.0), judged.1)

-- the same of numbers that a checked circuit has
pub answered_through : (c : checked.Circuit) (g r t before after : List ℕ) (v : Result Verdict Refusal) → c.gates.now ≡ g → c.registers.now ≡ r → c.times.now ≡ t → of c Judged before after v → Answers g r t before after v
answered_through c g r t before after v eg er et judged = rw (← eg, ← er, ← et) (answered _ _ _ before after v (whole_of c) judged)

-- where the path of the register that is named has no room, this is what is short
pub short_of : (e : Edge) (c : checked.Circuit) (r : ℕ) (before after : List ℕ) (refusal : Refusal) → r < registers_of c → of c Named e r →
    of c (PathRefused e) (takes c.registers.now r) before refusal → of c Short before after refusal
short_of Late c r before after refusal h named refused = elim refused [
  | inl past ↦ absurd (omega (arith, past.0, taken_of c r h))
  | inr short ↦ inl (r, named, short.1)
]
short_of Early c r before after refusal h named refused = elim refused [
  | inl past ↦ absurd (omega (arith, past.0, taken_of c r h))
  | inr short ↦ inr (r, named, short.1)
]
