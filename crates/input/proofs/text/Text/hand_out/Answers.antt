use Rattle.std.proofs.Common.{◌≡◌, ◌<◌, [], length, drop, vec_items, false, ap, ◌∙◌, sym, eqb-true, length-drop, arith}
use Rattle.std.proofs.lemmas.Bool.{true≢false}
use Rattle.std.proofs.lemmas.List.{drop_all, nil_from_length}
use Rattle.input.specs.Pending.{at_hand}
use Rattle.input.proofs.Steps.{hands_line, hands_last, is_over, past, some_line}
use Rattle.input.proofs.text.Text.hand_out.Goals as goal
use Rattle.input.proofs.text.Text.hand_out.Goals.{else-is_empty-via-then-is_empty+else-not-self-2, else-is_empty-via-else-is_empty}

pub returns-then-self-len : goal.returns-then-self-len
returns-then-self-len c =
    let t = c.args.self.now in
    let u = c.count.new.self in
    let k = c.count.ensures in
    let some : 0 < length (at_hand t) = omega (arith, c.if-self-len.true, c.len.ensures, t.chunk.ok.0, length-drop t.at (vec_items t.chunk)) in
    let rest : at_hand u ≡ drop 1 (at_hand t) = ap (drop u.at) (ap vec_items k.kept.1) ∙ ap (λ n. drop n (vec_items t.chunk)) k.kept.2 ∙ past t 1 in
    hands_line t c.requires.whole u k.whole k.kept.0 k.counted k.kept.3 c.requires.stop some rest

pub returns-then-not-self-2 : goal.returns-then-not-self-2
returns-then-not-self-2 c =
    let t = c.args.self.now in
    let none = drop_all t.at (vec_items t.chunk) (omega (arith, c.if-self-len.false, c.len.ensures, t.chunk.ok.0)) in
    let zero = eqb-true t.line.len 0 (sym c.is_empty.ensures ∙ c.if-is_empty.true) in
    let empty = nil_from_length (vec_items t.line) (omega (arith, zero, t.line.ok.0)) in
    is_over t c.requires.whole c.if-not-self-2.true empty none c.if-not-self.false

pub returns : goal.returns
returns c =
    let t = c.args.self.now in
    let u = c.count-2.new.self in
    let k = c.count-2.ensures in
    let none = drop_all t.at (vec_items t.chunk) (omega (arith, c.if-self-len.false, c.len.ensures, t.chunk.ok.0)) in
    let rest : at_hand u ≡ [] = ap (drop u.at) (ap vec_items k.kept.1) ∙ ap (λ n. drop n (vec_items t.chunk)) k.kept.2 ∙ none in
    let some : t.comment ≡ false → 0 < length (vec_items t.line) =
    elim c.else-is_empty.branch [
      | else-is_empty-via-then-is_empty+else-not-self-2 w ↦ λ e. absurd (true≢false (sym w.if-not-self-2.false ∙ e))
      | else-is_empty-via-else-is_empty w ↦ λ _. some_line t (sym c.is_empty.ensures ∙ w.if-is_empty.false)
    ] in
    hands_last t c.requires.whole u k.whole k.kept.0 k.counted k.kept.3 c.if-not-self.false none rest some
