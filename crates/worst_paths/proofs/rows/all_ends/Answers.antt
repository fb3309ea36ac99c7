use Rattle.worst_paths.specs.FirstPaths.{register_paths}
use Rattle.worst_paths.proofs.rows.all_ends.Goals as goal

pub loop-r-init : goal.loop-r-init
unfolding register_paths
loop-r-init c = rw c.new-ends.ensures.items tt
