use Rattle.std.proofs.Common.{◌≡◌, false, None, get_or, arith}
use Rattle.telling.specs.Said.{show_of}
use Rattle.telling.proofs.Keeping.{held_more}
use Rattle.telling.proofs.said.fill_shows.Goals as goal

pub loop-r-preserved : goal.loop-r-preserved
loop-r-preserved c =
    held_more false (λ q v. v ≡ show_of c.args.bench.script.now.seed q c.args.t (get_or c.args.said.now q None)) c.loop-r.shows c.loop-r.r c.show_of.result
    (omega (arith, c.requires.room, c.loop-r.auto.shows, c.loop-r-test.true, c.register_count-r-end.ensures)) c.show_of.ensures c.loop-r.invariant

pub returns : goal.returns
returns c q h = c.loop-r.invariant q (omega (arith, c.loop-r-test.false, c.register_count-r-end.ensures, h))
