-- The entries that a row gives to a gate or a register.
use Rattle.std.specs.Prelude.{ℕ, List, Option, Some, None}
use Rattle.worst_paths.specs.declared.entry.Entry.{Entry}
use Rattle.worst_paths.specs.declared.offer.Offer.{Offer}
use Rattle.worst_paths.specs.Merge.{offered}

abbrev pub no_entry : Entry
no_entry = record { time = 0; by = 0; rank = 0 }

-- the entries as they are, or later and named
abbrev pub named : Option ℕ → (d : ℕ) → List Entry → List Entry
named None d xs = xs
named (Some by) d xs = offered by d 0 xs

abbrev pub offers : Offer → List Entry
offers o = named o.by o.delay o.row.now
