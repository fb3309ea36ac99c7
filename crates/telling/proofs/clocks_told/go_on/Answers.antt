use Rattle.std.proofs.Common.{◌≡◌, ℕ, suc, refl, ap, ◌∙◌, arith}
use Rattle.script.specs.Told.{take_told}
use Rattle.clocks.specs.Benches.{clock_at}
use Rattle.telling.proofs.clocks_told.go_on.Goals as goal

pub returns : goal.returns
returns c =
    let b = c.args.bench in
    let k = b.circuit in
    record {
      cycle_now = refl;
      told_now = λ m e small told.
          let n : c.saturating_add.result ≡ suc (suc (suc m)) = omega (arith, c.saturating_add.ensures, small.cycle) in
          let l : c.saturating_add-2.result ≡ suc (suc m) = omega (arith, c.saturating_add-2.ensures, small.cycle) in
          record {
            cycle = refl;
            clock = rw e told.next;
            next = rw e told.after;
            after = c.next_clock.ensures.value (record { cycle = rw n small.cycle; begins = rw n small.begins; clock = rw told.after small.clock }) (suc (suc m)) n told.after
                ∙ ap (λ (i : ℕ). clock_at b i c.args.r) (n ∙ ap (λ (i : ℕ). suc (suc i)) (omega (arith, e)));
            take = c.take_of.ensures k.gates.now k.registers.now k.times.now
                ∙ ap (λ (i : ℕ). take_told b.script.now k.gates.now k.registers.now k.times.now i c.args.r) (l ∙ ap suc (omega (arith, e)));
          };
    }
