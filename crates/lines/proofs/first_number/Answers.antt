use Rattle.std.proofs.Common.{drop, sym, ap, ◌∙◌, inl, inr, arith}
use Rattle.std.specs.List.{prefix_len}
use Rattle.std.proofs.lemmas.Bool.{true≢false}
use Rattle.lines.specs.Words.{ink}
use Rattle.lines.proofs.NumberLaws.{none_first, number_first}
use Rattle.lines.proofs.first_number.Goals as goal
use Rattle.lines.proofs.first_number.Goals.{then-digits-eq0-via-then-digits-eq0, then-digits-eq0-via-else-digits-eq0+then-n-eq-LIMIT, then-digits-eq0-via-else-digits-eq0+else-n-eq-LIMIT+then-not-is_between}

pub returns : goal.returns
returns c =
    number_first c.args.s.now c.split_at.result.1.now c.split_at-2.result.1.now c.leading-n.result.1 c.leading-n.result.0
    (c.split_at.ensures.back ∙ ap (λ k. drop k c.args.s.now) c.blanks.ensures.count) c.split_at-2.ensures.back c.leading-n.ensures.within
    (omega (arith, c.if-digits-eq0.false)) c.leading-n.ensures.value
    (omega (arith, c.leading-n.ensures.value.1, c.if-n-eq-LIMIT.false)) (c.is_between.ensures.0 c.if-not-is_between.false)

pub returns-then-digits-eq0 : goal.returns-then-digits-eq0
returns-then-digits-eq0 c =
    let rest_is = c.split_at.ensures.back ∙ ap (λ k. drop k c.args.s.now) c.blanks.ensures.count in
    none_first c.args.s.now c.split_at.result.1.now c.leading-n.result.1 c.leading-n.result.0 rest_is c.leading-n.ensures.within c.leading-n.ensures.value c.leading-n.ensures.stops
    (elim c.then-digits-eq0.branch [
      | then-digits-eq0-via-then-digits-eq0 w ↦ inl w.if-digits-eq0.true
      | then-digits-eq0-via-else-digits-eq0+then-n-eq-LIMIT w ↦ inr (inl w.if-n-eq-LIMIT.true)
      | then-digits-eq0-via-else-digits-eq0+else-n-eq-LIMIT+then-not-is_between w ↦ inr (inr (λ e. true≢false (sym (w.is_between.ensures.1 (ap (prefix_len ink) c.split_at-2.ensures.back ∙ e)) ∙ w.if-not-is_between.true)))
    ])
