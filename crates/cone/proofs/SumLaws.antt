-- Sums of a register, and the margin between them.
use Rattle.std.proofs.Common.{◌≡◌, ℕ, ◌^◌, ◌<◌, ℤ, FitsSigned, w64, arith}
use Rattle.std.proofs.lemmas.Int.{ints}
use Rattle.circuit.specs.Checked.{of, registers_of}
use Rattle.circuit.specs.Lent.{takes}
use Rattle.circuit.specs.declared.circuit.Circuit as checked
use Rattle.circuit.proofs.Known.{sound_of, taken_of}
use Rattle.arrival.specs.declared.edge.Edge.{Edge}
use Rattle.arrival.specs.declared.edge.Edge.TheVariants.{Late, Early}
use Rattle.arrival.specs.Lent.{time_of}
use Rattle.arrival.proofs.Turns.{time_small}
use Rattle.promise.specs.Machine.{machine_in}
use Rattle.signoff.specs.Verdict.{SumsOf}
use Rattle.slack.specs.Margin.{margin_of}
use Rattle.cone.specs.Alone.{margin_between}

pub taken_small : (e : Edge) (c : checked.Circuit) (r : ℕ) → r < registers_of c → of c (time_of e) (takes c.registers.now r) < 2 ^ 34
taken_small e c r h = time_small e c.gates.now c.registers.now c.times.now c.few c.small (sound_of c) _ (taken_of c r h)

-- between the sums of a register lies its margin
pub margin_is : (e : Edge) (c : checked.Circuit) (r arrival limit : ℕ) → of c SumsOf e r arrival limit → margin_between e arrival limit ≡ margin_of e (of c machine_in) r
margin_is Late c r arrival limit sums = omega (arith, ints, sums.0, sums.1)
margin_is Early c r arrival limit sums = omega (arith, ints, sums.0, sums.1)

-- a margin between two sums of few bits fits 64 bits
pub margin_fits : (e : Edge) (arrival limit : ℕ) (z : ℤ) → arrival < 2 ^ 35 → limit < 2 ^ 35 → z ≡ margin_between e arrival limit → FitsSigned w64 z
margin_fits Late arrival limit z a l is = omega (arith, ints, is)
margin_fits Early arrival limit z a l is = omega (arith, ints, is)
