use Rattle.std.proofs.Common.{rules}
use Rattle.near.proofs.Sizes.{smallest_size}
use Rattle.near.proofs.ratio.setup_ratio.Goals as goal

pub ratio-requires-clause-small : goal.ratio-requires-clause-small
ratio-requires-clause-small c = search (rules, smallest_size)
