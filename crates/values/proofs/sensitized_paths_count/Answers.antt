use Rattle.values.proofs.SettlingLaws.{sensitized_paths_count}
use Rattle.values.proofs.sensitized_paths_count.Goals as goal

pub returns : goal.returns
returns c = sensitized_paths_count
