-- What a script tells lies within bounds.
use Rattle.std.proofs.Common.{◌≡◌, ℕ, zero, suc, ◌+◌, ◌*◌, ◌<◌, ◌≤◌, max, List, length, Some, None, Option, refl, ◌∙◌, arith}
use Rattle.std.specs.Option.{option_map_or}
use Rattle.std.proofs.lemmas.Bool.{and_parts, eqb-true}
use Rattle.circuit.specs.Lent.{gate_count, register_count, gate_in, early, late, period}
use Rattle.circuit.proofs.LentLaws.{gates_in_length, gates_in_at}
use Rattle.promise.specs.Machine.{machine_in, Formed}
use Rattle.script.specs.declared.entry.Entry.{Entry}
use Rattle.script.specs.declared.script.Script.{Script}
use Rattle.script.specs.declared.chance.Choice.TheVariants.{Clock}
use Rattle.script.specs.Choices.{drawn_for}
use Rattle.script.specs.Entries.{due, on, said_by, said_in}
use Rattle.script.specs.Told.{one_told, two_told, clock_between, clock_told, told_by, Fits, MayBeTold}
use Rattle.script.proofs.Choosing.{between_in}
use Rattle.script.proofs.Last.{last_is}

-- what holds of what a statement says, and of what is chosen, holds of what is told
pub told_either : {A : Type 0} (P : A → Type 0) (o : Option Entry) (f : Entry → A) (seed : Option ℕ) (h : ℕ → A) (other : A) →
    ((e : Entry) → o ≡ Some e → P (f e)) → ((n : ℕ) → P (h n)) → P other → P (option_map_or f o (option_map_or h seed other))
told_either P None f None h other said chosen rest = rest
told_either P None f (Some n) h other said chosen rest = chosen n
told_either P (Some e) f seed h other said chosen rest = said e refl

module _ (s : Script) (g r ts : List ℕ) (formed : Formed (machine_in g r ts)) (fits : Fits s g r ts) where
  -- a told delay is about its gate, and within its bounds
  delay_said : (k t : ℕ) (e : Entry) → said_by s.delays t k ≡ Some e →
      (((gate_in g k).least_one ≤ e.one) × (e.one ≤ (gate_in g k).greatest_one)) × (((gate_in g k).least_two ≤ e.two) × (e.two ≤ (gate_in g k).greatest_two))
  delay_said k t e found =
      let at = last_is (due t k) s.delays (length s.delays) e found in
      let who : e.who ≡ k = eqb-true _ _ (and_parts _ _ at.3).1 in
      let f = rw at.2 at (fits.delays at.0 at.1) in
      rw (← who) (f.one_within, f.two_within)

  one_in : (k t : ℕ) → k < gate_count g → ((gate_in g k).least_one ≤ one_told s g r ts k t) × (one_told s g r ts k t ≤ (gate_in g k).greatest_one)
  one_in k t h =
      let range = rw (gates_in_at g k h) at (formed.sound.ranges k (omega (arith, gates_in_length g))) in
      told_either (λ d. ((gate_in g k).least_one ≤ d) × (d ≤ (gate_in g k).greatest_one)) (said_by s.delays t k) (λ e. e.one) s.seed _ _
      (λ e found. (delay_said k t e found).0) (λ n. between_in _ _ _ range.0) (omega arith, range.0)

  two_in : (k t : ℕ) → k < gate_count g → ((gate_in g k).least_two ≤ two_told s g r ts k t) × (two_told s g r ts k t ≤ (gate_in g k).greatest_two)
  two_in k t h =
      let range = rw (gates_in_at g k h) at (formed.sound.ranges k (omega (arith, gates_in_length g))) in
      told_either (λ d. ((gate_in g k).least_two ≤ d) × (d ≤ (gate_in g k).greatest_two)) (said_by s.delays t k) (λ e. e.two) s.seed _ _
      (λ e found. (delay_said k t e found).1) (λ n. between_in _ _ _ range.1) (omega arith, range.1)

  -- a told clock is of its register and cycle, and within its bounds
  clock_said : (n q : ℕ) (e : Entry) → said_in s.clocks n q ≡ Some e → (early r q ≤ e.one) × (e.one ≤ late r q) × ((k : ℕ) → n ≡ suc k → clock_told s g r ts k q < n * period ts + e.one)
  clock_said n q e found =
      let at = last_is (on n q) s.clocks (length s.clocks) e found in
      let when : e.when ≡ n = eqb-true _ _ (and_parts _ _ at.3).0 in
      let who : e.who ≡ q = eqb-true _ _ (and_parts _ _ at.3).1 in
      let f = rw at.2 at (fits.clocks at.0 at.1) in
      let w = rw who at f.within in
      (w.0, w.1, λ k is. rw (when, who) at (f.in_turn k (when ∙ is)))

  -- what is told between two moments lies between them, or is told and within its bounds
  clock_in : (n q low high : ℕ) → n * period ts + early r q ≤ low → low ≤ high → high ≤ n * period ts + late r q →
      (n * period ts + early r q ≤ clock_between s g r ts n q low high) × (clock_between s g r ts n q low high ≤ n * period ts + late r q)
  clock_in n q low high a b c =
      told_either (λ d. (n * period ts + early r q ≤ d) × (d ≤ n * period ts + late r q)) (said_in s.clocks n q) (λ e. n * period ts + e.one) s.seed _ _
      (λ e found. let t = clock_said n q e found in (omega (arith, t.0), omega (arith, t.1)))
      (λ k. let i = between_in (drawn_for k Clock n q) low high b in (omega (arith, i.0), omega (arith, i.1)))
      (omega arith, omega arith)

  module _ (some : 0 < period ts) where
    clocks_in : (n q : ℕ) → q < register_count r → (n * period ts + early r q ≤ clock_told s g r ts n q) × (clock_told s g r ts n q ≤ n * period ts + late r q)
    unfolding clock_told
    clocks_in zero q h = clock_in 0 q (early r q) (late r q) (omega arith) (formed.clocked q h) (omega arith)
    clocks_in (suc n) q h =
        let before = clocks_in n q h in
        clock_in (suc n) q (max (suc n * period ts + early r q) (suc (clock_told s g r ts n q))) (suc n * period ts + late r q) (omega arith) (omega (arith, before, formed.clocked q h)) (omega arith)

    in_turn : (n q : ℕ) → q < register_count r → clock_told s g r ts n q < clock_told s g r ts (suc n) q
    unfolding clock_told
    in_turn n q h =
        let before = clocks_in n q h in
        let low = max (suc n * period ts + early r q) (suc (clock_told s g r ts n q)) in
        told_either (λ d. clock_told s g r ts n q < d) (said_in s.clocks (suc n) q) (λ e. suc n * period ts + e.one) s.seed _ _
        (λ e found. (clock_said (suc n) q e found).2 n refl)
        (λ k. omega (arith, (between_in (drawn_for k Clock (suc n) q) (max (suc n * period ts + early r q) (suc (clock_told s g r ts n q))) (suc n * period ts + late r q) (omega (arith, formed.clocked q h))).0))
        (omega arith)

pub may_be_told : MayBeTold
unfolding told_by
may_be_told s g r ts formed some fits = record {
  delays = record {
    one_within = λ k t h. let l : k < gate_count g = omega (arith, gates_in_length g) in rw (gates_in_at g k l) (one_in s g r ts formed fits k t l);
    two_within = λ k t h. let l : k < gate_count g = omega (arith, gates_in_length g) in rw (gates_in_at g k l) (two_in s g r ts formed fits k t l);
  };
  clocks = clocks_in s g r ts formed fits some;
  in_turn = in_turn s g r ts formed fits some;
}
