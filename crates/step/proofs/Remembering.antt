-- The history of a run: one more signal settled, and the gates one after another.
use Rattle.std.proofs.Common.{◌≡◌, ℕ, suc, ◌+◌, ◌-◌, ◌<◌, Bool, List, length, sym, refl, ◌∙◌, ap₂, inl, inr, arith}
use Rattle.std.proofs.lemmas.Bool.{cases_eq}
use Rattle.circuit.specs.Gate.{output}
use Rattle.circuit.specs.declared.gate.Gate.{Gate}
use Rattle.circuit.specs.Circuit.{signals}
use Rattle.circuit.specs.Lent.{gate_count, register_count, gate_in, drawn}
use Rattle.circuit.proofs.LentLaws.{gates_in_length, gates_in_at, inputs_before}
use Rattle.promise.specs.Machine.{Machine, machine_in}
use Rattle.history.specs.declared.history.History.{History}
use Rattle.history.specs.Kept.{kept, span, Put}
use Rattle.simulation.specs.Simulated.{Told, run_waves}
use Rattle.simulation.proofs.Running.{gate_moves}
use Rattle.step.specs.Lent.{TellsGates, delays_at}
use Rattle.step.specs.Stands.{Wide, Ready, Remembers, Remembered, SameSize, Settles}
use Rattle.step.specs.declared.told.Delays.{Delays}

-- a bit was put: histories keep their size
pub same_none : (h : History) → SameSize h h
same_none h = record { rows_same = refl; span_same = refl }

pub same_put : {a b c : History} {row at : ℕ} {bit : Bool} → SameSize a b → Put b c row at bit → SameSize a c
same_put s p = record { rows_same = p.rows_same ∙ s.rows_same; span_same = p.span_same ∙ s.span_same }

pub wide_same : {m : Machine} {before after : History} → SameSize before after → Wide m before → Wide m after
wide_same s w = record {
  rows = s.rows_same ∙ w.rows;
  delays = λ k h. rw s.span_same (w.delays k h);
  look_back = rw s.span_same w.look_back;
}

module _ (m : Machine) (x : Told) (t : ℕ) where
  -- one more signal is settled
  pub remembers_more : (j : ℕ) (before after : History) (b : Bool) → before.rows ≡ signals m.circuit → j < signals m.circuit → Put before after j t b → b ≡ run_waves m x j t →
      Remembers m x t j before → Remembers m x t (suc j) after
  remembers_more j before after b rows h put is so_far k u l le q s =
      let near : t < u + span before = rw put.span_same at s in
      elim (cases_eq k j) [
        | inl kj ↦ elim (cases_eq u t) [
          | inl ut ↦ rw (kj, ut) (put.here (omega arith) ∙ is)
          | inr ne ↦ put.other k u (λ _. (ne, omega arith, near)) ∙ so_far k u l le (λ e. absurd (ne e)) near
        ]
        | inr kne ↦ put.other k u (λ e. absurd (kne e)) ∙ so_far k u l le (λ e. omega (arith, q e, kne)) near
      ]

  -- all settled at moment t
  pub remembered_next : (past : History) → Remembers m x t (signals m.circuit) past → Remembered m x (suc t) past
  remembered_next past so k u l before near = so k u l (omega arith) (λ _. l) (omega arith)

  -- nothing yet at moment t
  pub remembers_first : (past : History) → Remembered m x t past → Remembers m x t 0 past
  remembers_first past so k u l le q s = elim (cases_eq u t) [
    | inl e ↦ absurd (omega (arith, q e))
    | inr ne ↦ so k u l (omega (arith, ne)) (omega arith)
  ]

module _ {g r ts : List ℕ} {delays : List Delays} {t : ℕ} where
  pub none_yet : (past : History) → Settles g r ts t delays (register_count r + 0) past past
  none_yet past = record { size = same_none past; settled = λ x ready wide told so. let e : register_count r + 0 ≡ register_count r = omega arith in rw e so }

  pub one_more : (k : ℕ) {start before after : History} {gate : Gate} {b : Bool} → k < gate_count g → gate ≡ gate_in g k →
      b ≡ output gate.table (kept before gate.one (t - (delays_at delays k).one)) (kept before gate.two (t - (delays_at delays k).two)) →
      Put before after (register_count r + k) t b → Settles g r ts t delays (register_count r + k) start before → Settles g r ts t delays (register_count r + (k + 1)) start after
  one_more k {start} {before} {after} {gate} {b} h here is put so_far = record { size = same_put so_far.size put; settled = settled }
    where
      settled : (x : Told) → Ready (machine_in g r ts) x → Wide (machine_in g r ts) start → TellsGates (machine_in g r ts) x t delays → Remembers (machine_in g r ts) x t (register_count r) start → Remembers (machine_in g r ts) x t (register_count r + (k + 1)) after
      settled x ready wide told so =
          let e : register_count r + (k + 1) ≡ suc (register_count r + k) = omega arith in
          let l : k < length (drawn g r).gates = omega (arith, gates_in_length g) in
          let now = so_far.settled x ready wide told so in
          let w = wide_same so_far.size wide in
          let in_front = inputs_before (register_count r) g ready.runnable.formed.sound k h in
          let far = rw (gates_in_at g k h) at (w.delays k l) in
          let one = rw (gates_in_at g k h) at (ready.may.delays.one_within k t l) in
          let two = rw (gates_in_at g k h) at (ready.may.delays.two_within k t l) in
          let first = now (gate_in g k).one (t - x.one k t) (omega (arith, gates_in_length g)) (omega arith) (λ _. in_front.0) (omega arith) in
          let second = now (gate_in g k).two (t - x.two k t) (omega (arith, gates_in_length g)) (omega arith) (λ _. in_front.1) (omega arith) in
          let moves = rw (gates_in_at g k h) at (gate_moves (machine_in g r ts) x ready.runnable ready.may k t l) in
          rw e (remembers_more (machine_in g r ts) x t (register_count r + k) before after b w.rows (omega (arith, gates_in_length g)) put
          (is ∙ rw (here, told.one k l, told.two k l) (ap₂ (output (gate_in g k).table) first second ∙ sym moves)) now)
