use Rattle.std.proofs.Common.{◌∷◌, [], unwrap_or, ap, ◌∙◌, arith}
use Rattle.circuit.specs.Lent.{register_of}
use Rattle.clocks.proofs.Nexts.{register_or_zeros}
use Rattle.clocks.proofs.bench.Bench.register.Goals as goal

pub returns : goal.returns
returns c =
    let k = c.args.self.circuit in
    c.from.ensures ∙ ap register_of (c.unwrap_or.ensures ∙ ap (λ o. unwrap_or o (0 ∷ 0 ∷ 0 ∷ [])) c.copied-numbers.ensures) ∙ register_or_zeros k.registers.now c.registers.result.now c.args.r c.get.result (omega arith) c.registers.ensures.count c.registers.ensures.each c.get.ensures.lookup
