use Rattle.std.proofs.Common.{◌≡◌, ◌∙◌, ap, ap₂, arith}
use Rattle.path.specs.Path.{input, by_second}
use Rattle.cone.proofs.TimeLaws.{before}
use Rattle.cone.proofs.walk.back.Goals.{then-second, else-second}
use Rattle.cone.proofs.walk.back.Goals as goal

pub returns : goal.returns
returns c =
    let is = c.from-gate.ensures ∙ c.gates.ensures.each _ c.requires.gate in
    let from : c.if-second.from ≡ input c.is_second-second.result c.from-gate.result = elim c.if-second.branch [
      | then-second w ↦ rw (w.if-second.true, w.from-is)
      | else-second w ↦ rw (w.if-second.false, w.from-is)
    ] in
    let here = from ∙ ap (input c.is_second-second.result) is in
    record {
      second = c.is_second-second.ensures ∙ ap₂ (by_second c.args.edge) c.input_times-at.ensures.one c.input_times-at.ensures.two;
      from = here;
      before = omega (arith, here, before c.args.edge c.args.circuit c.args.k c.requires.gate c.is_second-second.result);
    }
