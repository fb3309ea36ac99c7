-- A path that was traced back from a signal to its source.
use Rattle.std.specs.Prelude.{map, reverse, vec_items}
use Rattle.worst_paths.specs.declared.tracing.Trace.{Trace}
use Rattle.worst_paths.specs.FirstPaths.{SignalPath}
use Rattle.worst_paths.specs.Value.{step_of}

-- its pins stand from the source on
abbrev pub trace_of : Trace → SignalPath
trace_of t = (t.source, reverse (map step_of (vec_items t.pins)))
