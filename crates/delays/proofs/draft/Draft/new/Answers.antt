use Rattle.std.proofs.Common.{◌≡◌, [], refl}
use Rattle.script.specs.declared.kind.Kind.TheVariants.{Clock, Take, Delay, Show}
use Rattle.delays.proofs.draft.Draft.new.Goals as goal

pub returns : goal.returns
returns c =
    let e = c.new.ensures in
    let clocks : c.new.result.clocks ≡ [] = e.entries_none Clock in
    let takes : c.new.result.takes ≡ [] = e.entries_none Take in
    let delays : c.new.result.delays ≡ [] = e.entries_none Delay in
    let shows : c.new.result.shows ≡ [] = e.entries_none Show in
    rw (e.start_none, e.seed_none, clocks, takes, delays, shows) refl
