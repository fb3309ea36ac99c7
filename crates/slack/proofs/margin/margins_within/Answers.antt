use Rattle.slack.proofs.margin.margins_within.Goals as goal

pub returns : goal.returns
returns g c =
    let same = c.new-a.ensures.circuit in
    record { margins = rw (same.0, same.1, same.2) at c.fill.ensures; smallest = rw (same.0, same.1, same.2) at c.smallest_of.ensures }
