use Rattle.std.proofs.Common.{◌≡◌, [], ◌∷◌, refl, rules, subst}
use Rattle.std.specs.Prelude.{OnOk}
use Rattle.lines.specs.Words.{words}
use Rattle.text.specs.Meaning.{drafted, statement}
use Rattle.text.specs.Reader.{placed_by, placed_of}
use Rattle.text.proofs.MeaningLaws.{at_word}
use Rattle.text.proofs.ReaderLaws.{none_placed, on_ok, placed_at}
use Rattle.text.proofs.listing.Listing.take.Goals as goal

pub returns-in_default-clause-stated : goal.returns-in_default-clause-stated
unfolding statement
returns-in_default-clause-stated c =
    let e : words c.args.text.now ≡ [] = c.in_default.ensures in
    rw e refl

pub returns-in_default-clause-places : goal.returns-in_default-clause-places
returns-in_default-clause-places c =
    let e : words c.args.text.now ≡ [] = c.in_default.ensures in
    rw e (none_placed c.args.line (placed_of c.args.self.now.places))

pub returns-clause-stated : goal.returns-clause-stated
returns-clause-stated c =
    let e : words c.args.text.now ≡ c.in-Some.word.now ∷ words c.in-Some.rest.now = c.in-Some.ensures.0 in
    rw (at_word c.args.line (drafted c.args.self.now.draft) c.of-keyword.result e c.of-keyword.ensures) (search rules)

pub returns-clause-places : goal.returns-clause-places
returns-clause-places c =
    let e : words c.args.text.now ≡ c.in-Some.word.now ∷ words c.in-Some.rest.now = c.in-Some.ensures.0 in
    let kept = subst (λ r. OnOk r (placed_of c.add.new.self ≡ placed_by c.of-keyword.result c.args.line (placed_of c.args.self.now.places))) c.in_ok-kept.ensures c.add.ensures in
    on_ok _ (placed_at c.args.line c.of-keyword.result c.in-Some.word.now (words c.in-Some.rest.now) (words c.args.text.now) (placed_of c.args.self.now.places) (placed_of c.add.new.self) e c.of-keyword.ensures kept)
