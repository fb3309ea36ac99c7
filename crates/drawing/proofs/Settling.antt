-- One turn of the loop that goes through the gates, handing on the part from the next gate on.
use Rattle.std.proofs.Common.{◌≡◌, ℕ, ◌+◌, ◌-◌, ◌*◌, ◌%◌, ◌<◌, ◌≤◌, Bool, false, List, length, get_or, take, drop, set, sym, refl, ap, ◌∙◌, arith}
use Rattle.std.proofs.lemmas.List.{get_or-take, get_or-drop, length-drop, drop-drop}
use Rattle.circuit.specs.Gate.{output}
use Rattle.circuit.specs.Circuit.{Sound}
use Rattle.circuit.specs.Lent.{gate_count, gate_in, gate_of, circuit_in}
use Rattle.circuit.specs.declared.gate.Gate.{Gate}
use Rattle.circuit.proofs.Chunks.{gate_like}
use Rattle.circuit.proofs.LentLaws.{inputs_before}
use Rattle.drawing.specs.Drawing.{ideal}
use Rattle.circuit.specs.Filled.{Filled}
use Rattle.drawing.specs.Lent.{bit_at}
use Rattle.circuit.proofs.Filling.{filled_more}
use Rattle.drawing.proofs.IdealLaws.{ideal_in, ideal_lent}

-- the signals below `at` are settled, and `rest` has the gates from `at` on
pub record Sofar (n : ℕ) (gates : List ℕ) (before : List Bool) (at : ℕ) (rest : List ℕ) (after : List Bool) : Type 0 where
  pub from : n ≤ at
  pub within : at ≤ n + gate_count gates
  pub rest_is : rest ≡ drop (7 * (at - n)) gates
  pub filled : Filled false at (ideal (circuit_in n gates) (bit_at before)) before after

module _ (n : ℕ) (gates : List ℕ) (sound : Sound (circuit_in n gates)) (before : List Bool) where
  pub none_yet : Sofar n gates before n gates before
  none_yet =
      let z : 7 * (n - n) ≡ 0 = omega arith in
      record {
        from = omega arith;
        within = omega arith;
        rest_is = rw z;
        filled = record { filled = λ k h. sym (ideal_in (circuit_in n gates) sound (bit_at before) k h); rest = λ k h. refl };
      }

  module _ (whole : length gates % 7 ≡ 0) (at : ℕ) (rest : List ℕ) (after : List Bool) (sofar : Sofar n gates before at rest after) where
    pub left : length rest ≡ length gates - 7 * (at - n)
    left = ap length sofar.rest_is ∙ length-drop (7 * (at - n)) gates

    pub all_done : length rest < 7 → at ≡ n + gate_count gates
    all_done none = let l = left in let h = sofar.from in let w = sofar.within in omega arith

    -- where a gate's numbers are left, the first of them are those of the gate whose signal is `at`
    module _ (some : 7 ≤ length rest) where
      pub here : at - n < gate_count gates
      here = let l = left in let h = sofar.from in omega arith

      pub room : at < n + gate_count gates
      room = let h = here in let f = sofar.from in omega arith

      first : gate_of (take 7 rest) ≡ gate_in gates (at - n)
      first = gate_like (take 7 rest) gates (at - n) (λ j l. get_or-take 7 rest j 0 l ∙ (ap (λ xs. get_or xs j 0) sofar.rest_is ∙ get_or-drop (7 * (at - n)) gates j 0))

      module _ (row : List ℕ) (is_first : row ≡ take 7 rest) (gate : Gate) (is_gate : gate ≡ gate_of row) where
        pub is_here : gate ≡ gate_in gates (at - n)
        is_here = is_gate ∙ rw is_first first

        pub inputs : (gate.one < at) × (gate.two < at)
        inputs =
            let b = inputs_before n gates sound (at - n) here in
            let f = sofar.from in
            rw is_here (omega arith, omega arith)

        pub one_more : (v : Bool) → at < length after → v ≡ output gate.table (bit_at after gate.one) (bit_at after gate.two) → Sofar n gates before (at + 1) (drop 7 rest) (set after at v)
        one_more v within is =
            let f = sofar.from in
            let h = here in
            let d : 7 * (at - n) + 7 ≡ 7 * (at + 1 - n) = omega arith in
            let a : n + (at - n) ≡ at = omega arith in
            let settled = ideal (circuit_in n gates) (bit_at before) in
            let one : bit_at after gate.one ≡ settled gate.one = sofar.filled.filled _ inputs.0 in
            let two : bit_at after gate.two ≡ settled gate.two = sofar.filled.filled _ inputs.1 in
            let value : v ≡ settled at = is ∙ rw (one, two, is_here) (sym (ideal_lent n gates sound (bit_at before) (at - n) h) ∙ ap settled a) in
            record {
              from = omega arith;
              within = omega arith;
              rest_is = ap (drop 7) sofar.rest_is ∙ drop-drop 7 (7 * (at - n)) gates ∙ ap (λ i. drop i gates) d;
              filled = filled_more sofar.filled v within value;
            }
