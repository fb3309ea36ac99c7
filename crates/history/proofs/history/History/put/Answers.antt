use Rattle.std.proofs.Common.{refl, ap, ◌∙◌, arith}
use Rattle.std.proofs.lemmas.List.{with_items_is}
use Rattle.history.specs.Kept.{bit_in}
use Rattle.history.proofs.Ringing.{put_into}
use Rattle.history.proofs.history.History.put.Goals as goal

pub returns-then-row-self : goal.returns-then-row-self
returns-then-row-self c =
    let d = c.deref_mut.ensures in
    let now = with_items_is c.args.self.now.words c.put_bit.new.words (omega (arith, c.put_bit.auto.words, d.len)) in
    put_into _ _ c.args.row c.args.at c.place-i.result c.args.bit refl refl c.if-row-self.true c.place-i.ensures.spot
    (rw now c.put_bit.ensures.here)
    (λ j ne. rw now (c.put_bit.ensures.other j ne ∙ ap (λ ws. bit_in ws j) d.value))
