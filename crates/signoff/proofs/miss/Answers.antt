use Rattle.std.proofs.Common.{rules}
use Rattle.signoff.proofs.Judging.{short_of}
use Rattle.signoff.proofs.miss.Goals as goal

pub returns-in_err-path : goal.returns-in_err-path
returns-in_err-path c =
    let refused = rw c.sums_at-sums.ensures.signal at c.in_err-path.ensures.0 in
    let short = short_of c.args.edge c.args.a.circuit c.args.register _ c.args.room.now _ c.requires.inside c.requires.named refused in
    search rules

pub returns-in-Late : goal.returns-in-Late
returns-in-Late c =
    let sums = c.sums_at-sums.ensures in
    (rw c.in-Late.is at c.requires.named, rw c.in-Late.is at sums.sums, rw (c.in-Late.is, sums.signal) at c.in_ok-path.ensures.1)

pub returns-in-Early : goal.returns-in-Early
returns-in-Early c =
    let sums = c.sums_at-sums.ensures in
    (rw c.in-Early.is at c.requires.named, rw c.in-Early.is at sums.sums, rw (c.in-Early.is, sums.signal) at c.in_ok-path.ensures.1)
