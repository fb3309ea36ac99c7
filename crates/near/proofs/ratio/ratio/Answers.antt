use Rattle.std.proofs.Common.{arith, ◌<◌, ◌^◌, FitsSigned, w64}
use Rattle.near.proofs.Ratios.{ratio_of}
use Rattle.near.proofs.ratio.ratio.Goals as goal

pub returns : goal.returns
returns c =
    let margin : FitsSigned w64 c.args.margin = c.ranges.margin in
    let period : c.args.period < 2 ^ 32 = omega (arith, c.ranges.period) in
    search (ratio_of, margin, period, c.requires.small, c.requires.some, c.nearest_i64_to_f64.ensures)
