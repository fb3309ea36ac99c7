use Rattle.std.proofs.Common.{refl}
use Rattle.trial.proofs.Moments.{gone}
use Rattle.trial.proofs.room.Room.go.Goals as goal

pub returns : goal.returns
returns c =
    gone c.args.bench.script.now c.args.bench.circuit c.args.t c.args.self.now _ refl c.step.result (rw c.deref.ensures.value at c.in_ok-tell.ensures.1) _ refl c.deref-2.ensures.value c.deref-3.ensures.value
    c.deref-4.ensures.value c.step.ensures
