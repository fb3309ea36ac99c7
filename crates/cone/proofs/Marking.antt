-- Marks of a fan-in cone, from its signal backward.
use Rattle.std.proofs.Common.{◌≡◌, ℕ, ◌+◌, ◌<◌, ◌≤◌, ◌⊎◌, Bool, true, false, List, [], ◌∷◌, ◌++◌, length, get_or, set, sym, subst, ◌∙◌, inl, inr, arith}
use Rattle.std.proofs.lemmas.Bool.{cases_eq}
use Rattle.std.proofs.lemmas.List.{get_or-set_same, get_or-set_other}
use Rattle.std.proofs.Math.ListN.{length-set}
use mathlib.Core.Bool.{false≢true}
use Rattle.circuit.specs.Circuit.{Circuit, gate, signals}
use Rattle.circuit.specs.Checked.{of, gates_of, registers_of, signals_of}
use Rattle.circuit.specs.Lent.{gate_in, drawn}
use Rattle.circuit.specs.declared.circuit.Circuit as checked
use Rattle.circuit.proofs.Known.{sound_of}
use Rattle.circuit.proofs.LentLaws.{gates_in_length, gates_in_at}
use Rattle.path.specs.Path.{Steps, input, Leads}
use Rattle.cone.specs.Alone.{IsMarked, HasInputs}
use Rattle.cone.specs.Cone.{InCone}
use Rattle.cone.proofs.ConeLaws.{closed, ends}

-- a set of signals that has a signal and both inputs of each of its gates has the whole cone of that signal
pub whole_cone : (c : Circuit) (M : ℕ → Type 0) → ((g : ℕ) (second : Bool) → g < length c.gates → M (c.inputs + g) → M (input second (gate c g))) →
    (i : ℕ) (q p : Steps) (k to : ℕ) → Leads c i p k → Leads c i (q ++ p) to → M to → M k
unfolding Leads
whole_cone c M step i [] p k to a b m = subst M (ends c i p to k b a) m
whole_cone c M step i ((g, second) ∷ q) p k to a b m = whole_cone c M step i q p k (input second (gate c g)) a b.2 (step g second b.1 (subst M b.0 m))

-- the gates of a checked circuit over its registers
abbrev pub wires : checked.Circuit → Circuit
wires c = drawn c.gates.now c.registers.now

-- gates from number k on are done: the marked signals are in the cone, `to` is one, and both inputs of each marked gate are
pub record IsMarking (c : checked.Circuit) (to k : ℕ) (marks : List Bool) : Type 0 where
  pub target : get_or marks to false ≡ true
  pub sound : (s : ℕ) → s < signals_of c → get_or marks s false ≡ true → InCone (wires c) to s
  pub done : (g : ℕ) → k ≤ g → g < gates_of c → get_or marks (registers_of c + g) false ≡ true →
      (get_or marks (gate_in c.gates.now g).one false ≡ true) × (get_or marks (gate_in c.gates.now g).two false ≡ true)

pub marking_at : (c : checked.Circuit) (to k j : ℕ) (marks : List Bool) → k ≡ j → IsMarking c to k marks → IsMarking c to j marks
marking_at c to k j marks is m = subst (λ (i : ℕ). IsMarking c to i marks) is m

module _ (c : checked.Circuit) (to : ℕ) (inside : to < signals_of c) where
  abbrev n : ℕ
  n = registers_of c

  within : to < signals (wires c)
  within = omega (arith, gates_in_length c.gates.now, inside)

  pub here : InCone (wires c) to to
  here = (closed (wires c) to (sound_of c) within).0

  -- both inputs of a gate in the cone are in it
  pub back : (g : ℕ) (second : Bool) → g < gates_of c → InCone (wires c) to (n + g) → InCone (wires c) to (input second (gate_in c.gates.now g))
  back g second h on =
      let few : g < length (wires c).gates = omega (arith, h, gates_in_length c.gates.now) in
      rw (gates_in_at c.gates.now g h) at ((closed (wires c) to (sound_of c) within).1 g second few on)

  stays : (marks : List Bool) (i s : ℕ) → i < length marks → get_or marks s false ≡ true → get_or (set marks i true) s false ≡ true
  stays marks i s room is = elim (cases_eq s i) [
    | inl same ↦ rw same (get_or-set_same marks i true false room)
    | inr other ↦ get_or-set_other marks i s true false other ∙ is
  ]

  came : (marks : List Bool) (i s : ℕ) → get_or (set marks i true) s false ≡ true → (s ≡ i) ⊎ (get_or marks s false ≡ true)
  came marks i s is = elim (cases_eq s i) [
    | inl same ↦ inl same
    | inr other ↦ inr (sym (get_or-set_other marks i s true false other) ∙ is)
  ]

  -- at first `to` alone is marked
  pub first_mark : (marks : List Bool) (k : ℕ) → ((s : ℕ) → get_or marks s false ≡ false) → to < length marks → to < n + k → IsMarking c to k (set marks to true)
  first_mark marks k none room past = record {
    target = get_or-set_same marks to true false room;
    sound = λ s h is. elim (came marks to s is) [
      | inl same ↦ rw same here
      | inr was ↦ absurd (false≢true (sym (none s) ∙ was))
    ];
    done = λ g from h is. elim (came marks to (n + g) is) [
      | inl same ↦ absurd (omega arith)
      | inr was ↦ absurd (false≢true (sym (none (n + g)) ∙ was))
    ];
  }

  -- a gate that is not marked is passed over
  pub passed_over : (k j : ℕ) (marks : List Bool) → k ≡ j + 1 → IsMarking c to k marks → get_or marks (n + j) false ≡ false → IsMarking c to j marks
  passed_over k j marks is m off = record {
    target = m.target;
    sound = m.sound;
    done = λ g from h on. elim (cases_eq g j) [
      | inl same ↦ absurd (false≢true (sym off ∙ rw same at on))
      | inr other ↦ m.done g (omega arith) h on
    ];
  }

  -- and of one that is marked the inputs are marked
  pub marked : (k j : ℕ) (marks : List Bool) → k ≡ j + 1 → j < gates_of c → signals_of c ≤ length marks → IsMarking c to k marks → get_or marks (n + j) false ≡ true →
      IsMarking c to j (set (set marks (gate_in c.gates.now j).one true) (gate_in c.gates.now j).two true)
  marked k j marks is h room m on =
      let one : ℕ = (gate_in c.gates.now j).one in
      let two : ℕ = (gate_in c.gates.now j).two in
      let one_before : one < n + j = (c.placed j h).0 in
      let two_before : two < n + j = (c.placed j h).1 in
      let room_one : one < length marks = omega arith in
      let room_two : two < length (set marks one true) = omega (arith, length-set {A = Bool}) in
      let in_cone : InCone (wires c) to (n + j) = m.sound (n + j) (omega arith) on in
      let stay : (s : ℕ) → get_or marks s false ≡ true → get_or (set (set marks one true) two true) s false ≡ true =
      λ s was. stays (set marks one true) two s room_two (stays marks one s room_one was) in
      record {
        target = stay to m.target;
        sound = λ s l is. elim (came (set marks one true) two s is) [
          | inl same ↦ rw same (back j true h in_cone)
          | inr then ↦ elim (came marks one s then) [
            | inl same ↦ rw same (back j false h in_cone)
            | inr was ↦ m.sound s l was
          ]
        ];
        done = λ g from l shown. elim (cases_eq g j) [
          | inl same ↦ rw same (
            stays (set marks one true) two one room_two (get_or-set_same marks one true false room_one),
            get_or-set_same (set marks one true) two true false room_two,
          )
          | inr other ↦
              let apart_two : n + g ≡ two → ⊥ = λ e. omega (arith, e, two_before, from, other) in
              let apart_one : n + g ≡ one → ⊥ = λ e. omega (arith, e, one_before, from, other) in
              let was : get_or marks (n + g) false ≡ true = sym (get_or-set_other (set marks one true) two (n + g) true false apart_two ∙ get_or-set_other marks one (n + g) true false apart_one) ∙ shown in
              let both = m.done g (omega (arith, is, from, other)) l was in
              (stay _ both.0, stay _ both.1)
        ];
      }

  -- in the end just the cone is marked
  pub all_marked : (marks : List Bool) → IsMarking c to 0 marks → of c IsMarked to marks
  all_marked marks m k h = (
    m.sound k h,
    λ on. whole_cone (wires c) (λ s. get_or marks s false ≡ true)
        (λ g second l is.
        let few : g < gates_of c = omega (arith, l, gates_in_length c.gates.now) in
        let both = m.done g (omega arith) few is in
        rw (gates_in_at c.gates.now g few) (of_inputs g second both))
        on.0 on.1 on.2 k to on.3 on.4 m.target,
  )
    where
      of_inputs : (g : ℕ) (second : Bool) → (get_or marks (gate_in c.gates.now g).one false ≡ true) × (get_or marks (gate_in c.gates.now g).two false ≡ true) →
          get_or marks (input second (gate_in c.gates.now g)) false ≡ true
      of_inputs g false both = both.0
      of_inputs g true both = both.1

  pub inputs_marked : (marks : List Bool) → IsMarking c to 0 marks → of c HasInputs marks
  inputs_marked marks m k h is = m.done k (omega arith) h is
