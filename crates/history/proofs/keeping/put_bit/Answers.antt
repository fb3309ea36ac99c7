use Rattle.history.proofs.Packing.{put_here, put_other}
use Rattle.history.proofs.keeping.put_bit.Goals as goal

pub returns : goal.returns
returns c = rw c.from.ensures (record {
  here = put_here c.args.words.now c.args.i c.args.bit c.bit_at-old.result c.requires c.bit_at-old.ensures;
  other = put_other c.args.words.now c.args.i c.args.bit c.bit_at-old.result c.requires c.bit_at-old.ensures;
})
