use Rattle.std.proofs.Common.{take}
use Rattle.std.specs.Prelude.{encode_utf8_all}
use Rattle.std.specs.Fmt.{HasWritten, IsPlainFormatter}
use Rattle.wording.proofs.TitleDisplay.fmt.Given as goal

-- so many of the name's characters are written
abbrev pub invariant-loop-b : goal.invariant-loop-b
invariant-loop-b g l =
    IsPlainFormatter l.initial.f → HasWritten g.W.Write.write_str_gives l.initial.f (encode_utf8_all (take l.b-index l.initial.self.0.now)) l.f
