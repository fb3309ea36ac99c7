-- Why a circuit and a script are not put on the bench.
use Rattle.std.specs.Prelude.{◌≡◌, ℕ, ◌+◌, ◌<◌, ◌⊎◌, List}
use Rattle.circuit.specs.Lent.{period, setup, output_late}
use Rattle.script.specs.declared.script.Script.{Script}
use Rattle.script.specs.Told.{Fits}
use Rattle.circuit.specs.declared.refusal.Refusal.{Refusal}
use Rattle.circuit.specs.declared.refusal.Refusal.TheVariants.{NoPeriod, NoMoment}
use Rattle.fitting.specs.Misfit.{Misfit}
use Rattle.trial.specs.Standing.{ReadyToGo}
use Rattle.trial.specs.declared.stop.Stop.{Stop}
use Rattle.trial.specs.declared.stop.Stop.TheVariants.{Refused, Memory}

-- times with which no run is possible, or may not be
abbrev pub Timeless : (ts : List ℕ) → Refusal → Type 0
Timeless ts e = ((period ts ≡ 0) × (e ≡ NoPeriod)) ⊎ ((0 < period ts) × (setup ts + output_late ts ≡ 0) × (e ≡ NoMoment))

-- a statement out of its bounds, by the first such line; else times with which no run is possible; else want of memory, with which a run could be made
abbrev pub Stopped : (s : Script) (g r ts : List ℕ) → Stop → Type 0
Stopped s g r ts (Refused e) = Misfit s g r ts e ⊎ (Fits s g r ts × Timeless ts e)
Stopped s g r ts Memory = ReadyToGo s g r ts
