-- Only signals with a changed gate in their cone depend on the change.
use Rattle.std.proofs.Common.{◌≡◌, ℕ, ◌+◌, ◌<◌, length, sym, refl, ◌∙◌, inl, inr, arith}
use Rattle.std.proofs.lemmas.Bool.{cases_Bool}
use Rattle.circuit.specs.Circuit.{gate}
use Rattle.circuit.specs.declared.gate.Gate.{Gate}
use Rattle.cone.specs.Cone.{InCone, IsMappedGate, HasSameCone, OthersKeepTimes}
use Rattle.cone.proofs.ConeLaws.{cone_times, cone_told, same_cone, mapped_same, closed}

same_gate : (g h : Gate) → g ≡ h → IsMappedGate (λ i. i) g h
same_gate g h same = record { one = rw same; two = rw same; least_one = rw same; greatest_one = rw same; least_two = rw same; greatest_two = rw same }

pub others_keep : OthersKeepTimes
others_keep e a b s is_changed sound_a sound_b inputs gates others to inside off =
    let kept : (j : ℕ) → j < length a.gates → InCone a to (a.inputs + j) → gate a j ≡ gate b j = λ j h on. elim (cases_Bool (is_changed j)) [
      | inl changed ↦ absurd (off j changed on)
      | inr unchanged ↦ others j h unchanged
    ] in
    let same : HasSameCone a b to = (inputs, λ j h on. (omega (arith, gates), same_gate (gate a j) (gate b j) (kept j h on))) in
    let cone = same_cone a b to same in
    let on = (closed a to sound_a inside).0 in
    let path = cone_told e (λ i. i) a b s s to sound_a sound_b cone (λ i l on. refl) to inside on in (
      cone_times e (λ i. i) a b s s to sound_a sound_b cone (λ i l on. refl) to inside on,
      sym path.0,
      sym (path.1 ∙ mapped_same a b _ inputs),
    )
