use Rattle.std.proofs.Common.{◌≡◌, ℕ, get_or, vec_items, arith}
use Rattle.telling.proofs.Beginning.{all_same}
use Rattle.trial.proofs.preparing.state_for.Goals as goal

pub returns : goal.returns
returns c =
    let zero : (q : ℕ) → ◌≡◌ {A = ℕ} (get_or (vec_items c.in_ok-cycles.cycles) q 0) 0 = λ q. rw (c.in_ok-cycles.ensures.items_if_clones_equal (λ y e. e)) (all_same _ q 0) in
    record { wide = c.in_ok-past.ensures; bits = c.in_ok-bits.ensures; cycles_each = omega (arith, c.in_ok-cycles.ensures.len, c.in_ok-cycles.cycles.ok.0, c.register_count.ensures); cycles = zero }
