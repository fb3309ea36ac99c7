use Rattle.std.proofs.Common.{◌≡◌, suc, ◌+◌, ◌*◌, max, ap, ◌∙◌, ap₂, arith}
use Rattle.circuit.specs.Lent.{early, late, period}
use Rattle.script.specs.Told.{clock_between}
use Rattle.clocks.proofs.Nexts.{clock_next}
use Rattle.clocks.proofs.bench.Bench.next_clock.Goals as goal

pub returns-clause-value : goal.returns-clause-value
returns-clause-value c small m e b =
    let k = c.args.self.circuit in
    let s = c.args.self.script.now in
    let x = c.register-register.ensures in
    let begin : c.saturating_mul-begin.result ≡ c.args.n * period k.times.now = omega (arith, c.saturating_mul-begin.ensures, ap (λ p. c.args.n * p) (c.from.ensures ∙ c.period.ensures)) in
    let soon : c.register-register.result.early ≡ early k.registers.now c.args.r = ap (λ y. y.early) x in
    let last : c.register-register.result.late ≡ late k.registers.now c.args.r = ap (λ y. y.late) x in
    let low : c.max-low.result ≡ max (c.args.n * period k.times.now + early k.registers.now c.args.r) (suc c.args.before) =
    omega (arith, c.saturating_add-first.ensures, c.from-2.ensures, c.saturating_add.ensures, c.max-low.ensures) in
    let high : c.saturating_add-high.result ≡ c.args.n * period k.times.now + late k.registers.now c.args.r = omega (arith, c.saturating_add-high.ensures, c.from-3.ensures) in
    c.clock_between.ensures.value k.gates.now k.registers.now k.times.now begin (omega arith)
    ∙ ap₂ (clock_between s k.gates.now k.registers.now k.times.now c.args.n c.args.r) low high
    ∙ clock_next s k.gates.now k.registers.now k.times.now m c.args.n c.args.r c.args.before e b
