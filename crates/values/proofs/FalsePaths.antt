-- What false paths do not delay.
use Rattle.std.proofs.Common.{◌≡◌, ℕ, ◌+◌, ◌-◌, ◌<◌, ◌≤◌, Bool, true, false, not, [], ◌∷◌, refl, sym, ap, ◌⊎◌, inl, inr, arith}
use Rattle.std.proofs.lemmas.Bool.{true≢false}
use Rattle.circuit.specs.Circuit.{Circuit, gate, signals, Sound}
use Rattle.drawing.specs.Drawing.{ideal}
use Rattle.arrival.specs.declared.edge.Edge.TheVariants.{Late}
use Rattle.path.specs.Path.{Steps, Leads, sum}
use Rattle.path.proofs.Telling.{told_is_first}
use Rattle.promise.specs.Machine.{since}
use Rattle.values.specs.Settling.{is_controlling_one, is_controlling_two, settle_time}
use Rattle.values.specs.FalsePath.{Sensitizes, OneFalsePathIsHarmless, ViolationsAreFalse}
use Rattle.values.proofs.SettlingLaws.{gate_no_later, gate_follows_one, gate_follows_two, fact_at, settle_at, settle_no_later, waits}

pub either : (x : Bool) → (x ≡ true) ⊎ (x ≡ false)
either true = inl refl
either false = inr refl

-- by which input a path comes in to its last gate, and the path up to there
newest : Steps → Bool
newest [] = false
newest ((g, second) ∷ p) = second

older : Steps → Steps
older [] = []
older (x ∷ p) = p

module _ (c : Circuit) (sound : Sound c) (b : ℕ → Bool) (s : ℕ → ℕ) where
  -- where all paths to a signal are within a limit but one that is not sensitized, the signal is settled within it
  in_time : (p : Steps) (i k limit : ℕ) → Leads c i p k → (Sensitizes c b p → ⊥) → sum Late c p ≤ limit →
      ((j : ℕ) (q : Steps) → Leads c j q k → (q ≡ p → ⊥) → s j + sum Late c q ≤ limit) → settle_time c b s k ≤ limit
  unfolding Leads Sensitizes sum newest older
  in_time [] i k limit leads shut gates_alone others = absurd (shut tt)
  in_time ((g, false) ∷ p) i k limit leads shut gates_alone others =
      let one : ℕ = (gate c g).one in
      let two : ℕ = (gate c g).two in
      let before = sound.before g leads.1 in
      let low : two < signals c = omega (arith, leads.1) in
      let side = told_is_first Late c s two sound low in
      let late = others _ ((g, true) ∷ _) (leads.0, leads.1, side.leads) (λ e. true≢false (ap newest e)) in
      let two_settled = settle_no_later c sound b s two low in
      let two_in_time : settle_time c b s two + (gate c g).greatest_two ≤ limit = omega (arith, side.reaches) in
      rw (leads.0, settle_at c sound b s g leads.1)
      (elim (either (is_controlling_two (gate c g) (ideal c b two))) [
        | inl controlled ↦ let le = fact_at c sound b s gate_follows_two (settle_time c b s) g controlled in omega arith
        | inr open_ ↦
            let le = fact_at c sound b s gate_no_later (settle_time c b s) g in
            let rest = in_time p i one (limit - (gate c g).greatest_one) leads.2 (λ through. shut (ap not open_, through))
            (omega arith)
            (λ j q to other.
            let late = others j ((g, false) ∷ q) (leads.0, leads.1, to) (λ e. other (ap older e)) in
            omega arith) in
            omega arith
      ])
  in_time ((g, true) ∷ p) i k limit leads shut gates_alone others =
      let one : ℕ = (gate c g).one in
      let two : ℕ = (gate c g).two in
      let before = sound.before g leads.1 in
      let low : one < signals c = omega (arith, leads.1) in
      let side = told_is_first Late c s one sound low in
      let late = others _ ((g, false) ∷ _) (leads.0, leads.1, side.leads) (λ e. true≢false (sym (ap newest e))) in
      let one_settled = settle_no_later c sound b s one low in
      let one_in_time : settle_time c b s one + (gate c g).greatest_one ≤ limit = omega (arith, side.reaches) in
      rw (leads.0, settle_at c sound b s g leads.1)
      (elim (either (is_controlling_one (gate c g) (ideal c b one))) [
        | inl controlled ↦ let le = fact_at c sound b s gate_follows_one (settle_time c b s) g controlled in omega arith
        | inr open_ ↦
            let le = fact_at c sound b s gate_no_later (settle_time c b s) g in
            let rest = in_time p i two (limit - (gate c g).greatest_two) leads.2 (λ through. shut (ap not open_, through))
            (omega arith)
            (λ j q to other.
            let late = others j ((g, true) ∷ q) (leads.0, leads.1, to) (λ e. other (ap older e)) in
            omega arith) in
            omega arith
      ])

pub one_false_path_is_harmless : OneFalsePathIsHarmless
one_false_path_is_harmless m formed r i p h one b =
    let limit : ℕ = m.period + m.early r - m.setup in
    let enough : m.setup ≤ m.period + m.early r = omega (arith, one.gates_alone) in
    let le = in_time m.circuit formed.sound b (since m) p i (m.takes r) limit one.ends (one.is_false b)
    (omega (arith, one.gates_alone)) (λ j q to other. omega (arith, one.others j q to other)) in
    omega arith

pub violations_are_false : ViolationsAreFalse
violations_are_false m formed r i p setup late b through =
    let w = waits m.circuit formed.sound b (since m) p i (m.takes r) late.1 through in
    late.2 (omega (arith, setup b))
