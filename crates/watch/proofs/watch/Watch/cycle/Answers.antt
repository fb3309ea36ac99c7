use Rattle.std.proofs.Common.{◌≡◌, Bool, List, length, ap, ◌∙◌, arith}
use Rattle.std.proofs.lemmas.List.{with_items_is}
use Rattle.clocks.specs.declared.bench.Bench.{Bench}
use Rattle.watch.proofs.Beside.{goes_on, next_registers, next_signals, next_run, next_drawn, watched}
use Rattle.watch.proofs.watch.Watch.cycle.Goals as goal

pub invariant_of-self-2 : goal.invariant_of-self-2
invariant_of-self-2 c =
    let y = c.args.self.now in
    let z = c.cycle.new.self in
    let done = (rw (c.in-Ok-true.field-0-test, c.deref_mut.ensures.value) at c.in-Ok-true.ensures).2 in
    let held = with_items_is y.held c.cycle.new.bits (omega arith) in
    let drawn = with_items_is y.drawn c.cycle-2.new.bits (omega arith) in
    let signals = with_items_is y.signals c.cycle-2.new.signals (omega arith) in
    let b : c.bench.result.circuit ≡ z.bench.circuit = ap (λ (b : Bench). b.circuit) c.bench.ensures in
    record {
      held_size = next_registers y z _ _ done _ (omega (arith, ap (λ (v : List Bool). length v) held, y.held_size));
      drawn_size = next_registers y z _ _ done _ (omega (arith, ap (λ (v : List Bool). length v) drawn, y.drawn_size));
      signals_size = next_signals y z _ _ done _ (omega (arith, ap (λ (v : List Bool). length v) signals, y.signals_size));
      as_run = next_run y z _ _ done _ held;
      as_drawn = next_drawn y z _ _ done _ c.bench.result.circuit b c.deref_mut-2.result.now c.cycle-2.new.bits c.deref_mut-3.result.now c.cycle-2.new.signals c.deref_mut-2.ensures.value
          (goes_on y z done.bench_same c.bench.result.circuit b _ _ _ _ c.cycle-2.result c.deref_mut-2.ensures.value c.deref_mut-3.ensures.value c.cycle-2.ensures).1 drawn;
    }

pub returns : goal.returns
returns c =
    let y = c.args.self.now in
    let z = c.cycle.new.self in
    let done = rw (c.in-Ok-true.field-0-test, c.deref_mut.ensures.value) at c.in-Ok-true.ensures in
    let b : c.bench.result.circuit ≡ z.bench.circuit = ap (λ (b : Bench). b.circuit) c.bench.ensures in
    let went = (goes_on y z done.2.bench_same c.bench.result.circuit b _ _ _ _ c.cycle-2.result c.deref_mut-2.ensures.value c.deref_mut-3.ensures.value c.cycle-2.ensures).0 in
    rw (c.is_ok.ensures.value ∙ went) (done.1, watched y _ _ _ done.2)
