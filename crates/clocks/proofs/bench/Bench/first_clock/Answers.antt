use Rattle.std.proofs.Common.{◌≡◌, ℕ, ◌*◌, ap, ◌∙◌, arith}
use Rattle.circuit.specs.Lent.{period}
use Rattle.clocks.proofs.Nexts.{clock_first}
use Rattle.clocks.proofs.bench.Bench.first_clock.Goals as goal

pub returns-clause-value : goal.returns-clause-value
returns-clause-value c =
    let k = c.args.self.circuit in
    let x = c.register-register.ensures in
    let z : ◌≡◌ {A = ℕ} 0 (0 * period k.times.now) = omega arith in
    c.clock_between.ensures.value k.gates.now k.registers.now k.times.now z (omega arith)
    ∙ clock_first c.args.self.script.now k.gates.now k.registers.now k.times.now c.args.r _ _ (c.from.ensures ∙ ap (λ y. y.early) x) (c.from-2.ensures ∙ ap (λ y. y.late) x)
