-- The window lemma.
use Rattle.std.proofs.Common.{◌≡◌, ℕ, ◌<◌, ◌≤◌, sym, ◌∙◌, ap₂, arith}
use Rattle.circuit.specs.Gate.{output}
use Rattle.circuit.specs.Circuit.{gate, signals}
use Rattle.circuit.proofs.Signals.{each_signal}
use Rattle.drawing.specs.Drawing.{ideal}
use Rattle.drawing.proofs.IdealLaws.{ideal_in, ideal_at}
use Rattle.arrival.specs.declared.edge.Edge.TheVariants.{Late, Early}
use Rattle.arrival.specs.Arrival.{latest, earliest}
use Rattle.arrival.specs.Window.{Window}
use Rattle.arrival.proofs.ArrivalLaws.{arrival_in, arrival_at}

pub window : Window
window c w b L E sound moves shown k t h a z = all_along k h t a z
  where
    all_along : (k : ℕ) → k < signals c → (t : ℕ) → latest c L k ≤ t → t < earliest c E k → w k t ≡ ideal c b k
    all_along = each_signal c sound (λ k. (t : ℕ) → latest c L k ≤ t → t < earliest c E k → w k t ≡ ideal c b k)
        (λ i h t a z. shown i t h (rw (arrival_in Late c sound L i h) at a) (rw (arrival_in Early c sound E i h) at z) ∙ sym (ideal_in c sound b i h))
        (λ k h p q t a z.
        let a' = rw (arrival_at Late c sound L k h) at a in
        let z' = rw (arrival_at Early c sound E k h) at z in
        let f = moves k t h (omega arith) (omega arith) in
        f.is ∙ ap₂ (output (gate c k).table) (p _ (omega arith) (omega arith)) (q _ (omega arith) (omega arith)) ∙ sym (ideal_at c sound b k h))
