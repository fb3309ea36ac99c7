use Rattle.worst_paths.proofs.MergingLaws.{named_at}
use Rattle.worst_paths.proofs.offer.Offer.at.Goals as goal

pub returns-in-Some : goal.returns-in-Some
returns-in-Some c = named_at c.args.self.by c.in-Some.by c.args.self.delay c.args.i c.args.self.row.now c.in-Some.is c.requires
