-- A delay is told of a gate.
use Rattle.std.proofs.Common.{◌≡◌, ℕ, ◌+◌, ◌-◌, ◌<◌, ◌≤◌, nat_lt, slice_index, inl, inr, arith}
use Rattle.std.proofs.lemmas.Bool.{cases_Bool, ltb-false}
use Rattle.circuit.specs.Lent.{gate_count, register_count}
use Rattle.delays.specs.Row.{gate_of, no_gate}
use Rattle.delays.specs.ByLines.{ToldOfGate}

-- a gate among few is that of its signal
of_signal : (q signal n : ℕ) → n ≤ 16384 → gate_of q signal < n → (q ≤ signal) × (signal < q + n) × (q + gate_of q signal ≡ signal)
of_signal q signal n few within = elim (cases_Bool (nat_lt signal q)) [
  | inl below ↦ absurd (let h : no_gate < n = rw below at within in omega arith)
  | inr above ↦ let least : q ≤ signal = ltb-false signal q above in
      let h : signal - q < n = rw above at within in
      rw above (least, omega (arith, least, h), omega (arith, least))
]

pub told_of_gate : ToldOfGate
told_of_gate s g r ts n ns few fits = of_signal (register_count r) (slice_index ns 1) (gate_count g) few fits.gate
