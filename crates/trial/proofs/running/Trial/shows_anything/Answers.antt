use Rattle.trial.proofs.Seen.{shows_staying, shows_coming}
use Rattle.trial.proofs.running.Trial.shows_anything.Goals.{then-cycle-told, else-cycle-told}
use Rattle.trial.proofs.running.Trial.shows_anything.Goals as goal

pub returns : goal.returns
returns c =
    let l = c.in-Some.ensures in
    elim c.if-cycle-told.branch [
      | then-cycle-told w ↦ shows_staying c.args.self.now l.0 c.args.r c.in-Some.cycle c.in-Some.told l.1 l.2 l.3 w.if-cycle-told.true _ (rw w.clock-is at c.must_show.ensures)
      | else-cycle-told w ↦ shows_coming c.args.self.now l.0 c.args.r c.in-Some.cycle c.in-Some.told l.1 l.2 l.3 w.if-cycle-told.false _ (rw w.clock-is at c.must_show.ensures)
    ]
