use Rattle.std.proofs.Common.{◌≡◌, sym, ap, ◌∙◌, Ok, rules}
use Rattle.std.specs.Int.{w64}
use Rattle.std.proofs.lemmas.Int.{to_z-of_z}
use Rattle.std.proofs.lemmas.Result.{err_from_is_err_and}
use Rattle.claim.specs.Numbers.{integer}
use Rattle.claim.proofs.NumberLaws.{integer_fits}
use Rattle.claim.proofs.CountLaws.{too_few, all_there, too_many, bad, next}
use Rattle.claim.proofs.numbers.fill.Goals as goal

pub returns-in_default : goal.returns-in_default
returns-in_default c = too_few c.loop-number.invariant (search rules) (search rules)

pub returns-in_err-number : goal.returns-in_err-number
returns-in_err-number c =
    let p = err_from_is_err_and c.from_residual.result c.from_residual.ensures.1 in
    rw (p.1, p.2) (bad c.loop-number.invariant c.in-Some.ensures.steps _ (search rules) (search rules))

pub loop-number-preserved : goal.loop-number-preserved
loop-number-preserved c =
    let is : integer c.in-Some.word.now ≡ Ok c.in_ok-number.field-0 = sym c.integer.ensures ∙ c.in_ok-number.was in
    next c.loop-number.invariant c.in-Some.ensures.steps _ (search rules) (is ∙ ap Ok (sym (to_z-of_z w64 _ (integer_fits _ _ is))))

pub returns-in-None : goal.returns-in-None
returns-in-None c = search (rules, all_there)

pub returns-in-Some-next : goal.returns-in-Some-next
returns-in-Some-next c = too_many c.loop-number.invariant c.in-Some-next.ensures.steps (search rules)
