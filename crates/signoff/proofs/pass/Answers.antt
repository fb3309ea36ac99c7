use Rattle.signoff.proofs.Judging.{answered_through}
use Rattle.signoff.proofs.pass.Goals as goal

pub returns : goal.returns
returns c =
    let o = c.in_ok-circuit.ensures in
    answered_through c.in_ok-circuit.circuit _ _ _ _ _ c.judge_circuit.result o.0 o.1 o.2 c.judge_circuit.ensures
