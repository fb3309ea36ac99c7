-- Registers that are right, among others that may not be.
use Rattle.std.proofs.Common.{◌≡◌, ℕ, zero, suc, ◌<◌, Bool, true, false, [], ◌∷◌, refl, sym, ap₂, ◌∙◌}
use Rattle.circuit.specs.Gate.{output}
use Rattle.circuit.specs.Circuit.{Circuit, gate, signals, Sound}
use Rattle.circuit.proofs.Signals.{each_signal}
use Rattle.drawing.specs.Drawing.{ideal, held}
use Rattle.drawing.proofs.IdealLaws.{ideal_in, ideal_at}
use Rattle.path.specs.Path.{Steps, Leads}
use Rattle.promise.specs.Machine.{drawing}
use Rattle.values.specs.FanIn.{PartPromise}
use Rattle.values.proofs.Promising.{takes}

-- a signal depends on the sources alone from which a path leads to it
ideal_on : (c : Circuit) → Sound c → (a b : ℕ → Bool) (k : ℕ) → k < signals c →
    ((i : ℕ) (p : Steps) → Leads c i p k → a i ≡ b i) → ideal c a k ≡ ideal c b k
unfolding Leads
ideal_on c sound a b =
    each_signal c sound (λ k. ((i : ℕ) (p : Steps) → Leads c i p k → a i ≡ b i) → ideal c a k ≡ ideal c b k)
    (λ i h same. ideal_in c sound a i h ∙ same i [] (refl, h) ∙ sym (ideal_in c sound b i h))
    (λ k h p q same.
    let one = p (λ i x leads. same i ((k, false) ∷ x) (refl, h, leads)) in
    let two = q (λ i x leads. same i ((k, true) ∷ x) (refl, h, leads)) in
    ideal_at c sound a k h ∙ ap₂ (output (gate c k).table) one two ∙ sym (ideal_at c sound b k h))

pub part_promise : PartPromise
unfolding held
part_promise m S formed part start clock holds w run = part_holds
  where
    part_holds : (n r : ℕ) → S r ≡ true → holds n r ≡ drawing m start n r
    part_holds zero r in_s = run.starts r (part.inside r in_s)
    part_holds (suc n) r in_s =
        let h = part.inside r in_s in
        takes m formed start clock holds w run r h (part.setup_kept r in_s) (part.hold_kept r in_s) n
        ∙ ideal_on m.circuit formed.sound (holds n) (drawing m start n) (m.takes r) (formed.taken r h)
        (λ i p leads. part_holds n i (part.closed r i p in_s leads))
