use Rattle.std.proofs.Common.{◌∙◌, arith}
use Rattle.std.proofs.lemmas.List.{with_items_is}
use Rattle.telling.proofs.Keeping.{part_on}
use Rattle.telling.proofs.part.Part+bool.tell_shows.Goals as goal

pub returns-clause-on : goal.returns-clause-on
returns-clause-on c =
    let y = c.args.self.now in
    let values = with_items_is y.values c.fill_shows.new.shows (omega arith) in
    let said = with_items_is y.said c.keep_said-self.new.said (omega arith) in
    part_on (rw values (omega arith)) (rw said (omega arith)) (rw said (rw (c.as_slice.ensures.items, c.deref_mut.ensures.value) at c.keep_said-self.ensures))

pub returns-clause-told : goal.returns-clause-told
returns-clause-told c =
    let y = c.args.self.now in
    let values = with_items_is y.values c.fill_shows.new.shows (omega arith) in
    let said = with_items_is y.said c.keep_said-self.new.said (omega arith) in
    rw (values, said) (rw (c.deref.ensures.value ∙ said) at c.fill_shows.ensures)
