use Rattle.std.proofs.Common.{◌≡◌, length}
use Rattle.std.specs.Option.{option_map}
use Rattle.input.specs.Line.{bare_lines}
use Rattle.input.specs.Pending.{pending}
use Rattle.text.specs.Reader.{listed}
use Rattle.circuits.specs.Coming.{Counted, Goes}
use Rattle.circuits.proofs.Circuits.next.Given as goal

abbrev pub invariant-loop-next : goal.invariant-loop-next
invariant-loop-next g l = record {
  goes : Counted l.self.feed.text → Goes (option_map listed l.initial.self.reader.current) l.initial.self.feed.text (option_map listed l.self.reader.current) l.self.feed.text;
  ended_same : l.self.feed.text.ended ≡ l.initial.self.feed.text.ended;
  reader_same : l.self.feed.reader ≡ l.initial.self.feed.reader;
}

abbrev pub decreases-loop-next : goal.decreases-loop-next
decreases-loop-next g l = length (bare_lines (pending l.self.feed.text))
