use Rattle.std.proofs.Common.{◌≡◌, ◌+◌, ◌<◌, ◌≤◌, length, get_or, vec_items, sym, refl, ap, ◌∙◌, length-drop, arith}
use Rattle.std.specs.List.{prefix_len}
use Rattle.std.proofs.lemmas.List.Sums.{prefix_len-le-length}
use Rattle.input.specs.Line.{kept}
use Rattle.input.specs.Pending.{at_hand}
use Rattle.input.proofs.Steps.{is_too_long, is_nul, moves, moves_to_comment, moves_to_stop, stands, line_goes_on, still_clean, still_short}
use Rattle.input.proofs.text.Text.take.Goals as goal

pub returns-then-n-len-clause-fault : goal.returns-then-n-len-clause-fault
returns-then-n-len-clause-fault c =
    let t = c.args.self.now in
    let n_is : c.kept-n.result ≡ prefix_len kept (at_hand t) = c.kept-n.ensures.count ∙ ap (prefix_len kept) c.at_hand.ensures in
    is_too_long t c.requires c.if-self.false (omega (arith, n_is, c.if-n-len.true, c.len.ensures, t.line.ok.0))

pub returns-then-stop-eq-NUL-clause-fault : goal.returns-then-stop-eq-NUL-clause-fault
returns-then-stop-eq-NUL-clause-fault c =
    let t = c.args.self.now in
    let n_is : c.kept-n.result ≡ prefix_len kept (at_hand t) = c.kept-n.ensures.count ∙ ap (prefix_len kept) c.at_hand.ensures in
    is_nul t c.requires c.if-self.false (ap (λ n. get_or (vec_items t.chunk) (t.at + n) 10) (sym n_is) ∙ ap (λ x. get_or x (t.at + c.kept-n.result) 10) (sym c.deref.ensures.value) ∙ sym c.byte_at-stop.ensures ∙ c.if-stop-eq-NUL.true)

pub invariant_of-self-then-stop-eq-COMMENT : goal.invariant_of-self-then-stop-eq-COMMENT
invariant_of-self-then-stop-eq-COMMENT c =
    let t = c.args.self.now in
    let n = c.kept-n.result in
    let n_is : n ≡ prefix_len kept (at_hand t) = c.kept-n.ensures.count ∙ ap (prefix_len kept) c.at_hand.ensures in
    let byte : c.byte_at-stop.result ≡ get_or (vec_items t.chunk) (t.at + n) 10 = c.byte_at-stop.ensures ∙ ap (λ x. get_or x (t.at + n) 10) c.deref.ensures.value in
    let lt : t.at + n < length (vec_items t.chunk) = stands (vec_items t.chunk) (t.at + n) 35 (sym byte ∙ c.if-stop-eq-COMMENT.true) (λ e. absurd (omega (arith, e))) in
    record {
      within = omega (arith, lt);
      small = t.small;
      clean = still_clean t n n_is _ _ c.deref-2.ensures.value c.in_ok-append.ensures.ok;
      short = still_short t n n_is _ _ c.deref-2.ensures.value c.in_ok-append.ensures.ok (omega (arith, c.if-n-len.false, c.len.ensures, t.line.ok.0, t.short));
    }

pub invariant_of-self-else-stop-eq-COMMENT : goal.invariant_of-self-else-stop-eq-COMMENT
invariant_of-self-else-stop-eq-COMMENT c =
    let t = c.args.self.now in
    let n = c.kept-n.result in
    let n_is : n ≡ prefix_len kept (at_hand t) = c.kept-n.ensures.count ∙ ap (prefix_len kept) c.at_hand.ensures in
    let fits : n ≤ length (at_hand t) = omega (arith, n_is, prefix_len-le-length kept (at_hand t)) in
    record {
      within = omega (arith, fits, t.within, length-drop t.at (vec_items t.chunk));
      small = t.small;
      clean = still_clean t n n_is _ _ c.deref-2.ensures.value c.in_ok-append.ensures.ok;
      short = still_short t n n_is _ _ c.deref-2.ensures.value c.in_ok-append.ensures.ok (omega (arith, c.if-n-len.false, c.len.ensures, t.line.ok.0, t.short));
    }

pub returns-then-stop-eq-COMMENT-clause-same : goal.returns-then-stop-eq-COMMENT-clause-same
returns-then-stop-eq-COMMENT-clause-same c =
    let t = c.args.self.now in
    let n = c.kept-n.result in
    let n_is : n ≡ prefix_len kept (at_hand t) = c.kept-n.ensures.count ∙ ap (prefix_len kept) c.at_hand.ensures in
    let byte : c.byte_at-stop.result ≡ get_or (vec_items t.chunk) (t.at + n) 10 = c.byte_at-stop.ensures ∙ ap (λ x. get_or x (t.at + n) 10) c.deref.ensures.value in
    let here : get_or (vec_items t.chunk) (t.at + n) 10 ≡ 35 = sym byte ∙ c.if-stop-eq-COMMENT.true in
    let lt : t.at + n < length (vec_items t.chunk) = stands (vec_items t.chunk) (t.at + n) 35 here (λ e. absurd (omega (arith, e))) in
    record {
      pending_same = moves_to_comment t n c.requires c.if-self.false (vec_items c.append.new.line) (line_goes_on t n n_is _ _ c.deref-2.ensures.value c.in_ok-append.ensures.ok) lt here;
      number_same = refl;
      ended_same = refl;
    }

pub returns-else-stop-eq-COMMENT-clause-same : goal.returns-else-stop-eq-COMMENT-clause-same
returns-else-stop-eq-COMMENT-clause-same c =
    let t = c.args.self.now in
    let n = c.kept-n.result in
    let n_is : n ≡ prefix_len kept (at_hand t) = c.kept-n.ensures.count ∙ ap (prefix_len kept) c.at_hand.ensures in
    record {
      pending_same = moves t n c.requires c.if-self.false (vec_items c.append.new.line) (line_goes_on t n n_is _ _ c.deref-2.ensures.value c.in_ok-append.ensures.ok);
      number_same = refl;
      ended_same = refl;
    }

pub returns-else-stop-eq-COMMENT-clause-stop : goal.returns-else-stop-eq-COMMENT-clause-stop
returns-else-stop-eq-COMMENT-clause-stop c = λ _.
    let t = c.args.self.now in
    let n = c.kept-n.result in
    let n_is : n ≡ prefix_len kept (at_hand t) = c.kept-n.ensures.count ∙ ap (prefix_len kept) c.at_hand.ensures in
    let byte : c.byte_at-stop.result ≡ get_or (vec_items t.chunk) (t.at + n) 10 = c.byte_at-stop.ensures ∙ ap (λ x. get_or x (t.at + n) 10) c.deref.ensures.value in
    moves_to_stop t n c.requires c.if-self.false (vec_items c.append.new.line) (line_goes_on t n n_is _ _ c.deref-2.ensures.value c.in_ok-append.ensures.ok) n_is (λ e. c.if-stop-eq-NUL.false (byte ∙ e)) (λ e. c.if-stop-eq-COMMENT.false (byte ∙ e))
