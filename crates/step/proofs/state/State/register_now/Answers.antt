use Rattle.std.proofs.Common.{◌≡◌, sym, arith, rules}
use Rattle.std.proofs.lemmas.Bool.{leb-true, leb-false}
use Rattle.std.proofs.lemmas.List.{get_or_read}
use Rattle.step.specs.Stands.{cycle_of}
use Rattle.step.proofs.Deciding.{decides, keeps}
use Rattle.step.proofs.state.State.register_now.Goals as goal

pub returns-then-reached : goal.returns-then-reached
returns-then-reached c =
    let on = leb-true _ _ (sym c.if-reached.ensures) in
    let n : c.index-n.result.now ≡ cycle_of c.args.self.now c.args.r = search (rules, get_or_read) in
    decides {b = c.args.self.now} c.requires.register c.requires.is (omega arith) (omega arith) c.settled.ensures c.unwrap_or-bit.ensures c.shown.ensures
    (rw n at c.saturating_add.ensures)

pub returns-else-reached : goal.returns-else-reached
returns-else-reached c =
    let not_yet = leb-false _ _ (sym c.if-reached.ensures) in
    let n : c.index-n.result.now ≡ cycle_of c.args.self.now c.args.r = search (rules, get_or_read) in
    keeps {b = c.args.self.now} c.requires.register c.requires.is (omega arith) (rw n at c.get-bit.ensures) c.shown-else-reached.ensures n
