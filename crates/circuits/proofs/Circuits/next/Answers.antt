use Rattle.std.proofs.Common.{Ok, subst}
use Rattle.std.specs.Option.{option_map}
use Rattle.text.specs.Reader.{listed}
use Rattle.circuits.specs.Coming.{Turns}
use Rattle.circuits.proofs.Lines.{comes_on}
use Rattle.circuits.proofs.Circuits.next.Goals as goal

pub returns-in-Some-clause-comes : goal.returns-in-Some-clause-comes
returns-in-Some-clause-comes g c =
    let l = c.loop-next.self in
    let u = c.turn.new.self in
    comes_on (option_map listed c.args.self.now.reader.current) c.args.self.now.feed.text (option_map listed l.reader.current) l.feed.text c.loop-next.invariant.goes c.loop-next.invariant.ended_same
    (option_map listed u.reader.current) u.feed.text c.in-Some.next
    (subst (λ n. Turns (option_map listed l.reader.current) l.feed.text (option_map listed u.reader.current) u.feed.text (Ok n)) c.in-Some.is c.in_ok-next.ensures.turns)
