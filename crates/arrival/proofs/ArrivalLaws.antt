-- Laws of arrival times, for both kinds at once.
use Rattle.std.proofs.Common.{◌≡◌, ℕ, ◌+◌, ◌<◌, true, false, length, sym, ap, ◌∙◌, arith}
use Rattle.circuit.specs.declared.gate.Gate.{Gate}
use Rattle.circuit.specs.Circuit.{Circuit, gate, Sound}
use Rattle.circuit.proofs.Signals.{all_in, all_at, each_signal}
use Rattle.arrival.specs.declared.edge.Edge.{Edge}
use Rattle.arrival.specs.declared.edge.Edge.TheVariants.{Late, Early}
use Rattle.arrival.specs.Arrival.{delay, choose, gate_time, arrival, NoWorse, GateWithin, Monotone, Shifts, Agrees}

module _ (e : Edge) (c : Circuit) (sound : Sound c) (s : ℕ → ℕ) where
  pub arrival_in : (i : ℕ) → i < c.inputs → arrival e c s i ≡ s i
  unfolding arrival
  arrival_in = all_in (gate_time e) c sound s

  pub arrival_at : (k : ℕ) → k < length c.gates →
      arrival e c s (c.inputs + k) ≡ choose e (arrival e c s (gate c k).one + delay e false (gate c k)) (arrival e c s (gate c k).two + delay e true (gate c k))
  unfolding arrival
  arrival_at = all_at (gate_time e) c sound s

-- a gate's time is monotone in its inputs' times and its bounds
gate_monotone : (e : Edge) (new old : Gate) (a b x y : ℕ) → GateWithin new old → NoWorse e a x → NoWorse e b y →
    NoWorse e (choose e (a + delay e false new) (b + delay e true new)) (choose e (x + delay e false old) (y + delay e true old))
gate_monotone Late new old a b x y v p q = omega (arith, v)
gate_monotone Early new old a b x y v p q = omega (arith, v)

pub monotone : Monotone
monotone e new old s u sound_new sound_old v sources = each_signal old sound_old (λ k. NoWorse e (arrival e new s k) (arrival e old u k))
    (λ i h. let j : i < new.inputs = omega (arith, v.inputs_same) in rw (arrival_in e new sound_new s i j, arrival_in e old sound_old u i h) (sources i h))
    (λ k h p q.
    let w = v.gates_within k h in
    let j : old.inputs + k ≡ new.inputs + k = omega (arith, v.inputs_same) in
    let l : k < length new.gates = omega (arith, v.gates_same) in
    rw (ap (arrival e new s) j ∙ arrival_at e new sound_new s k l, arrival_at e old sound_old u k h, w.one_same, w.two_same)
    (gate_monotone e (gate new k) (gate old k) _ _ _ _ w p q))

gate_shifts : (e : Edge) (a x y d f : ℕ) → choose e (a + x + d) (a + y + f) ≡ a + choose e (x + d) (y + f)
gate_shifts Late a x y d f = omega arith
gate_shifts Early a x y d f = omega arith

pub shifts : Shifts
shifts e c s a sound = each_signal c sound (λ k. arrival e c (λ i. a + s i) k ≡ a + arrival e c s k)
    (λ i h. rw (arrival_in e c sound (λ i. a + s i) i h, arrival_in e c sound s i h))
    (λ k h p q. rw (arrival_at e c sound (λ i. a + s i) k h, arrival_at e c sound s k h, p, q) (gate_shifts e a _ _ _ _))

pub agrees : Agrees
agrees e c s u sound same = each_signal c sound (λ k. arrival e c s k ≡ arrival e c u k)
    (λ i h. arrival_in e c sound s i h ∙ same i h ∙ sym (arrival_in e c sound u i h))
    (λ k h p q. rw (arrival_at e c sound s k h, arrival_at e c sound u k h, p, q))
