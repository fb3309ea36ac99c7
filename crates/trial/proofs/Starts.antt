-- A room before the first moment.
use Rattle.std.proofs.Common.{◌≡◌, ℕ, ◌+◌, ◌-◌, ◌/◌, ◌<◌, ◌≤◌, min, max, Bool, List, IfOk, IsErrAnd, MatchResult, Ok, Err, Result, sym, refl, ap, ◌∙◌, inl, inr, arith, below_more}
use Rattle.std.proofs.lemmas.Nat.{le-div, div-add-mod'}
use Rattle.std.proofs.lemmas.Bool.{cases_eq}
use Rattle.circuit.specs.Lent.{gate_count, register_count, gate_in, register_in, early, late, period, setup, output_late}
use Rattle.circuit.specs.declared.gate.Gate.{Gate}
use Rattle.circuit.specs.declared.register.Register.{Register}
use Rattle.circuit.proofs.LentLaws.{gates_in_length, gates_in_at}
use Rattle.promise.specs.Machine.{machine_in}
use Rattle.history.specs.declared.history.History.{History}
use Rattle.history.specs.Kept.{kept, Put, Fresh}
use Rattle.simulation.specs.Simulated.{cycle, bits}
use Rattle.step.specs.Stands.{Wide, Stands, cycle_of}
use Rattle.step.specs.declared.state.State.{State}
use Rattle.script.specs.declared.script.Script.{Script}
use Rattle.script.specs.Told.{start_told, told_by, Fits}
use Rattle.circuit.specs.Checked.{of}
use Rattle.circuit.specs.declared.circuit.Circuit.{Circuit}
use Rattle.promise.proofs.Lent.{formed_in}
use Rattle.trial.specs.declared.stop.Stop.{Stop}
use Rattle.trial.specs.declared.stop.Stop.TheVariants.{Memory}
use Rattle.trial.specs.Stopped.{Stopped}
use Rattle.trial.specs.declared.room.Room.{Room}
use Rattle.trial.specs.Standing.{ReadyToGo, DelaysWithin, ClocksWithin, Started, BitsReady, Furnished, Standing}

less_apart : (a b k : ℕ) → 0 < k → a ≤ b → a / k ≤ b / k
less_apart a b k pos l = le-div (a / k) b k pos (omega (arith, div-add-mod' a k))

-- what holds of what was made
pub made_so : {X Y : Type 0} (r : Result X Y) (P Q : X → Type 0) → ((x : X) → P x → Q x) → IfOk r P → IfOk r Q
made_so (Ok x) P Q so p = so x p
made_so (Err y) P Q so p = tt

-- one gate more
pub delays_more : (g : List ℕ) (n before after : ℕ) (gate : Gate) → gate ≡ gate_in g n → before ≤ after → gate.greatest_one ≤ after → gate.greatest_two ≤ after → DelaysWithin g n before → DelaysWithin g (n + 1) after
delays_more g n before after gate is more one two so_far =
    let first : gate.greatest_one ≡ (gate_in g n).greatest_one = ap (λ (x : Gate). x.greatest_one) is in
    let second : gate.greatest_two ≡ (gate_in g n).greatest_two = ap (λ (x : Gate). x.greatest_two) is in
    below_more (λ k. ((gate_in g k).greatest_one ≤ after) × ((gate_in g k).greatest_two ≤ after)) n (λ k h. (omega (arith, so_far k h), omega (arith, so_far k h))) (omega arith, omega arith)

-- one register more
pub clocks_more : (r : List ℕ) (n early_before late_before early_after late_after : ℕ) (register : Register) → register ≡ register_in r n → early_after ≡ min early_before register.early → late_after ≡ max late_before register.late →
    late r n ≤ 1000000 → ClocksWithin r n early_before late_before → ClocksWithin r (n + 1) early_after late_after
clocks_more r n early_before late_before early_after late_after register is lower upper small so_far =
    let e : register.early ≡ early r n = ap (λ (x : Register). x.early) is in
    let l : register.late ≡ late r n = ap (λ (x : Register). x.late) is in
    record {
      early = below_more (λ q. early_after ≤ early r q) n (λ q h. omega (arith, so_far.early q h)) (omega arith);
      late = below_more (λ q. late r q ≤ late_after) n (λ q h. omega (arith, so_far.late q h)) (omega arith);
      small = omega (arith, so_far.small);
    }

-- a history that goes back further than any delay and any register's decision
pub wide_enough : (g r ts : List ℕ) (back seen most : ℕ) (h : History) → Fresh h (register_count r + gate_count g) back → seen ≡ output_late ts + setup ts → back ≡ max seen most →
    DelaysWithin g (gate_count g) most → Wide (machine_in g r ts) h
wide_enough g r ts back seen most h fresh see is all = record {
  rows = fresh.rows_are ∙ ap (λ (n : ℕ). register_count r + n) (sym (gates_in_length g));
  delays = λ k l.
      let b : k < gate_count g = omega (arith, gates_in_length g) in
      let d = all k b in
      rw (gates_in_at g k b) (omega (arith, fresh.long), omega (arith, fresh.long));
  look_back = omega (arith, fresh.long);
}

module _ (s : Script) (g r ts : List ℕ) where
  pub started_more : (i : ℕ) (start before after : History) (b : Bool) → i < register_count r → start.rows ≡ register_count r → b ≡ start_told s g r ts i → Put before after i 0 b → Started s g r ts i start before → Started s g r ts (i + 1) start after
  started_more i start before after b h rows is put so_far = record {
    rows_same = put.rows_same ∙ so_far.rows_same;
    span_same = put.span_same ∙ so_far.span_same;
    bits = λ q l. elim (cases_eq q i) [
      | inl e ↦ rw e (put.here (omega (arith, so_far.rows_same)) ∙ is)
      | inr ne ↦ put.other q 0 (λ e. absurd (ne e)) ∙ so_far.bits q (omega (arith, ne))
    ];
  }

  -- no moment has gone, and all registers stand in cycle 0
  stands_first : (b : State) → ((q : ℕ) → cycle_of b q ≡ 0) → ((q : ℕ) → q < register_count r → kept b.bits q 0 ≡ start_told s g r ts q) → Stands (machine_in g r ts) (told_by s g r ts) 0 b
  unfolding cycle bits told_by
  stands_first b first started = record {
    remembered = λ k u h before near. absurd (omega arith);
    registers = λ q h. rw (first q) (record { shown = refl; held = λ i l near. let e : i ≡ 0 = omega arith in rw e (started q h) });
  }

  -- bits for as many cycles as two registers can be apart
  pub bits_ready : (earliest latest far apart : ℕ) (start after : History) → 0 < period ts → ((q : ℕ) → q < register_count r → earliest ≤ early r q) → far ≡ latest - earliest → apart ≡ far / period ts → Fresh start (register_count r) apart →
      (start.rows ≡ register_count r → Started s g r ts (register_count r) start after) → BitsReady s g r ts latest after
  bits_ready earliest latest far apart start after some all far_is is fresh started =
      let now = started fresh.rows_are in
      record {
        rows = now.rows_same ∙ fresh.rows_are;
        apart = λ q h. rw now.span_same (omega (arith, fresh.long, less_apart (latest - early r q) far (period ts) some (omega (arith, all q h))));
        start = now.bits;
      }

  -- a furnished room stands before the first moment
  pub stands_furnished : (y : Room) → ReadyToGo s g r ts → Furnished s g r ts y → Standing s g r ts 0 y
  unfolding cycle
  stands_furnished y ready f = record {
    ready = ready;
    roomy = f.roomy;
    stands = stands_first y.state f.cycles f.bits;
    knows = f.begins.knows;
    stood = λ q h. f.begins.stand q;
  }

-- a circuit and a script that fit can go
pub ready_in : (s : Script) (c : Circuit) → of c (Fits s) → (0 < period c.times.now) × (0 < setup c.times.now + output_late c.times.now) → of c (ReadyToGo s)
ready_in s c fits times = record {
  formed = formed_in c.gates.now c.registers.now c.times.now c.placed c.ranged c.tied c.ordered;
  fits = fits;
  some_period = times.0;
  some_moment = times.1;
}

-- memory is short, with which they could
pub out_of_memory : {s : Script} {g r ts : List ℕ} (res : Result Room Stop) → IsErrAnd res (λ e. e ≡ Memory) → ReadyToGo s g r ts → MatchResult res (λ y. Standing s g r ts 0 y) (λ e. Stopped s g r ts e)
out_of_memory (Ok y) short ready = absurd short
out_of_memory (Err e) short ready = rw short ready
