use Rattle.signoff.proofs.judge_within.Goals as goal

pub returns : goal.returns
returns g c = let same = c.new.ensures.circuit in rw (same.0, same.1, same.2) at c.judge.ensures
