-- What is seen of a run at the last moment that has gone.
use Rattle.std.specs.Prelude.{◌≡◌, ℕ, ◌-◌, ◌<◌, ◌≤◌, Bool, ◌&&◌, ◌⊎◌, Option, Some, None, vec_items, nat_lt}
use Rattle.circuit.specs.Checked.{registers_of}
use Rattle.step.specs.Lent.{clocks_at}
use Rattle.step.specs.Stands.{cycle_of}
use Rattle.step.specs.declared.told.Clocks.{Clocks}
use Rattle.trial.specs.declared.running.Trial.{Trial}

-- what f is then of signal or register k of n; 0 before a moment has gone, and of one that is not there
abbrev pub at_last : Trial → (n k : ℕ) → (ℕ → Bool) → Bool
at_last y n k f = nat_lt 0 y.moment && (nat_lt k n && f (y.moment - 1))

-- what register q was told for that moment, and the cycle in which it stands after it; none before a moment has gone, and of a register that is not there
abbrev pub LastTold : Trial → (q : ℕ) → Option (Clocks × ℕ) → Type 0
LastTold y q None = (y.moment ≡ 0) ⊎ (registers_of y.bench.circuit ≤ q)
LastTold y q (Some l) = (0 < y.moment) × (q < registers_of y.bench.circuit) × (l.0 ≡ clocks_at (vec_items y.room.teller.clocks) q) × (l.1 ≡ cycle_of y.room.state q)
