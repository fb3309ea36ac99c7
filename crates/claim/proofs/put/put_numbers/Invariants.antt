use Rattle.std.proofs.Common.{◌≡◌, ◌++◌, map, drop}
use Rattle.std.specs.Fmt.{signed_decimal}
use Rattle.std.specs.String.{string_bytes}
use Rattle.writing.specs.Written.{ended}
use Rattle.claim.proofs.put.put_numbers.Given as goal

abbrev pub invariant-loop-number : goal.invariant-loop-number
invariant-loop-number l = string_bytes l.text ++ ended (map signed_decimal (drop l.number-index l.numbers)) ≡ string_bytes l.initial.text ++ ended (map signed_decimal l.numbers)
