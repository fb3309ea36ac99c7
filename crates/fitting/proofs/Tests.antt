-- What the tests decide.
use Rattle.std.proofs.Common.{ℕ, List, arith, rules}
use Rattle.std.specs.Bool.{Decides}
use Rattle.script.specs.declared.entry.Entry.{Entry}
use Rattle.script.specs.declared.script.Script.{Script}
use Rattle.script.specs.Told.{DelayFits}
use Rattle.fitting.specs.Misfit.{ClockWithin, clock_passes, delay_passes}

pub delay_decides : (s : Script) (g r ts : List ℕ) (e : Entry) → Decides (delay_passes g e) (DelayFits s g r ts e)
delay_decides s g r ts e = grind (arith, rules)

pub clock_decides : (r : List ℕ) (e : Entry) → Decides (clock_passes r e) (ClockWithin r e)
clock_decides r e = grind (arith, rules)
