-- What a path that is listed says.
use Rattle.std.specs.Prelude.{◌≡◌, ℕ, Bool, map, reverse, vec_items}
use Rattle.arrival.specs.declared.edge.Edge.{Edge}
use Rattle.promise.specs.Machine.{Machine}
use Rattle.slack.specs.Required.{required_of}
use Rattle.worst_paths.specs.declared.timing_path.Pin.{Pin}
use Rattle.worst_paths.specs.declared.timing_path.TimingPath.{TimingPath}
use Rattle.worst_paths.specs.WorstPaths.{RegisterPath, arrival_of, slack_of}

-- a pin as a step: its gate, and whether it is the second input
abbrev pub step_of : Pin → ℕ × Bool
step_of p = (p.gate, p.second)

-- the path that a value describes: its pins stand from the source on
abbrev pub path_of : TimingPath → RegisterPath
path_of p = record { register = p.register; source = p.source; steps = reverse (map step_of (vec_items p.pins)) }

-- its times are the path's own
pub record HasItsTimes (e : Edge) (m : Machine) (p : TimingPath) : Type 0 where
  pub slack : p.slack ≡ slack_of e m (path_of p)
  pub arrival : p.arrival ≡ arrival_of e m (path_of p)
  pub required : p.required ≡ required_of e m p.register
