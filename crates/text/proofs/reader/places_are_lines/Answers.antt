use Rattle.text.proofs.PlaceLaws.{places_are_lines}
use Rattle.text.proofs.reader.places_are_lines.Goals as goal

pub returns : goal.returns
returns c = places_are_lines
