use Rattle.std.proofs.Common.{vec_items}
use Rattle.findings.proofs.Listing.{all_put}
use Rattle.findings.proofs.findings.Goals as goal

pub returns : goal.returns
returns c =
    let s = c.smallest.ensures in
    let p = c.period.ensures in
    record {
      word = c.word-verdict.result;
      before = _;
      after = c.word-verdict.new.room;
      says = c.word-verdict.ensures.says;
      smallest = s.0;
      are_smallest = s.1;
      period = p.0;
      is_shortest = p.1;
      are = all_put _ _ (vec_items c.new-claims.result) (vec_items c.put_word.new.claims) (vec_items c.put_margins.new.claims) (vec_items c.push.new.self) (vec_items c.push-2.new.self) _ _ _ _
          c.new-claims.ensures.items c.in_ok-put_word.ensures c.in_ok-put_margins.ensures c.in_ok-push.ensures.items c.in_ok-push-2.ensures.items s.2 p.2;
    }
