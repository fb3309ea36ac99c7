use Rattle.std.proofs.Common.{◌≡◌, [], refl, subst, rules}
use Rattle.std.specs.Option.{MatchOption}
use Rattle.std.proofs.lemmas.Result.{err_from_is_err_and}
use Rattle.lines.specs.Numbers.{IsNext}
use Rattle.fields.specs.Fields.{field}
use Rattle.fields.proofs.FieldLaws.{none_yet, too_few, too_many, all_there, bad, next}
use Rattle.fields.proofs.read_into.Goals as goal

pub loop-i-init : goal.loop-i-init
loop-i-init c = rw c.new-words.ensures (none_yet _ _ _ _ _ refl)

pub returns-in_default : goal.returns-in_default
returns-in_default c =
    let none = subst (λ x. MatchOption x (c.loop-i.words ≡ []) (λ n. IsNext (field c.args.capped c.eq-named.result) c.loop-i.words n c.next.new.words)) c.in_default.is c.in_ok-field.ensures in
    too_few c.loop-i.invariant (search rules) none

pub returns-in_err-field : goal.returns-in_err-field
returns-in_err-field c =
    let p = err_from_is_err_and c.from_residual.result c.from_residual.ensures.1 in
    let e = c.in_err-field.ensures in
    rw (p.1, p.2) (bad c.loop-i.invariant e.1 _ (search rules) (rw (← c.eq-named.ensures) e.2))

pub loop-i-preserved : goal.loop-i-preserved
loop-i-preserved c =
    let some = subst (λ x. MatchOption x (c.loop-i.words ≡ []) (λ n. IsNext (field c.args.capped c.eq-named.result) c.loop-i.words n c.next.new.words)) c.in-Some.is c.in_ok-field.ensures in
    next c.loop-i.invariant some.1 _ (search rules) (rw (← c.eq-named.ensures) some.2)

pub returns-in-None : goal.returns-in-None
returns-in-None c = search (rules, all_there)

pub returns-in-Some-next : goal.returns-in-Some-next
returns-in-Some-next c = too_many c.loop-i.invariant c.in-Some-next.ensures.steps (search rules)
