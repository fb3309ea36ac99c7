-- Two lists of findings of a circuit are one.
use Rattle.std.proofs.Common.{◌≡◌, ℕ, ◌+◌, ◌*◌, ◌/◌, ◌<◌, List, [], ◌∷◌, map, length, get_or, Some, sym, refl, ap, ◌∙◌, inl, inr, arith}
use Rattle.std.proofs.lemmas.Int.{ints}
use Rattle.std.proofs.lemmas.Bool.{cases_lt}
use Rattle.std.proofs.lemmas.List.FromFn.{length-map-range_with_len, get_or-map-range_with_len, fill_by_all}
use Rattle.std.specs.List.{range_with_len}
use Rattle.circuit.specs.Circuit.{Circuit}
use Rattle.circuit.specs.Lent.{register_count, drawn}
use Rattle.circuit.specs.Refused.{AllOrFirst}
use Rattle.arrival.specs.declared.edge.Edge.{Edge}
use Rattle.arrival.specs.declared.edge.Edge.TheVariants.{Late, Early}
use Rattle.path.specs.Path.{Steps, Leads, Ahead, PathTold, BeginsWith, written}
use Rattle.path.proofs.Writing.{written_length}
use Rattle.promise.specs.Machine.{Machine, machine_in}
use Rattle.signoff.specs.Verdict.{Says}
use Rattle.signoff.specs.declared.verdict.Verdict.{Verdict}
use Rattle.signoff.specs.declared.verdict.Verdict.TheVariants as verdict
use Rattle.slack.specs.Margin.{margin_of, IsWorst}
use Rattle.slack.specs.declared.worst.Worst.{Worst}
use Rattle.claim.specs.declared.kinds.Claim.{Claim}
use Rattle.claim.specs.declared.kinds.Claim.TheVariants as claim
use Rattle.findings.specs.Findings.{gate_claim, path_claims, word_claims, worst_of, FindingsAreOne}

-- the first place is one
first_alike : (P : ℕ → Type 0) (n i j : ℕ) → AllOrFirst P n (Some i) → AllOrFirst P n (Some j) → i ≡ j
first_alike P n i j a b = elim (cases_lt i j) [
  | inl below ↦ absurd (a.1 (b.2 i below))
  | inr above ↦ elim (cases_lt j i) [
    | inl below ↦ absurd (b.1 (a.2 j below))
    | inr same ↦ omega arith
  ]
]

-- two paths to a signal, neither of which comes after the other, are one
paths_alike : (c : Circuit) (i j : ℕ) (p q : Steps) (k : ℕ) → Leads c i p k → Leads c j q k → Ahead p q → Ahead q p → (i ≡ j) × (p ≡ q)
unfolding Leads Ahead
paths_alike c i j [] [] k a b before after = (omega (arith, a.0, b.0), refl)
paths_alike c i j [] (y ∷ q) k a b before after = absurd after
paths_alike c i j (x ∷ p) [] k a b before after = absurd before
paths_alike c i j ((g, s) ∷ p) ((h, u) ∷ q) k a b (inl one) (inl two) = absurd (cc)
paths_alike c i j ((g, s) ∷ p) ((h, u) ∷ q) k a b (inl one) (inr two) = absurd (cc)
paths_alike c i j ((g, s) ∷ p) ((h, u) ∷ q) k a b (inr one) (inl two) = absurd (cc)
paths_alike c i j ((g, s) ∷ p) ((h, u) ∷ q) k a b (inr one) (inr two) =
    let gate : h ≡ g = omega (arith, a.0, b.0) in
    let b' = rw (gate, ← one.0) at b.2 in
    let rest = paths_alike c i j p q _ a.2 b' one.1 two.1 in
    (rest.0, cc)

-- two functions that agree below n
maps_alike : (f h : ℕ → Claim) (n : ℕ) → ((k : ℕ) → k < n → f k ≡ h k) → map f (range_with_len 0 n) ≡ map h (range_with_len 0 n)
maps_alike f h n same = fill_by_all h (map f (range_with_len 0 n)) n claim.Passed (length-map-range_with_len f 0 n) (λ k l. get_or-map-range_with_len f 0 n k k claim.Passed l (omega arith) ∙ same k l)

-- a path as it is told is the one in the room
as_written : (n i : ℕ) (p : Steps) (len : ℕ) (before after : List ℕ) → len ≡ length (written n (i, p)) → BeginsWith (written n (i, p)) before after →
    path_claims (len / 2) after ≡ path_claims (len / 2) (written n (i, p))
as_written n i p len before after is begins =
    let l = written_length n p in
    let at : (j : ℕ) → j < len → get_or after j 0 ≡ get_or (written n (i, p)) j 0 = λ j h. begins.filled j (omega arith) in
    let head : get_or after 0 0 ≡ get_or (written n (i, p)) 0 0 = at 0 (omega arith) in
    let gates = maps_alike (gate_claim after) (gate_claim (written n (i, p))) (len / 2)
    (λ k h. let one = at (2 * k + 1) (omega arith) in let two = at (2 * k + 2) (omega arith) in rw (one, two)) in
    rw (head, gates)

told_alike : (e : Edge) (g r t : List ℕ) (signal len len' : ℕ) (before after before' after' : List ℕ) → PathTold e g r t signal len before after → PathTold e g r t signal len' before' after' →
    path_claims (len / 2) after ≡ path_claims (len' / 2) after'
told_alike e g r t signal len len' before after before' after' (i, p, told, is, enough, begins) (j, q, told', is', enough', begins') =
    let same = paths_alike (drawn g r) i j p q signal told.leads told'.leads (told.first j q told'.leads told'.reaches) (told'.first i p told.leads told.reaches) in
    let n = register_count r in
    let here : path_claims (len / 2) (written n (i, p)) ≡ path_claims (len' / 2) (written n (j, q)) = rw (is, is', same.0, same.1) in
    as_written n i p len before after is begins ∙ here ∙ sym (as_written n j q len' before' after' is' begins')

module _ (g r t before after before' after' : List ℕ) where
  words_alike : (v w : Verdict) → Says g r t before after v → Says g r t before' after' w → word_claims v after ≡ word_claims w after'
  words_alike verdict.Passed verdict.Passed a b = refl
  words_alike verdict.Passed (verdict.TooLate y) a b = absurd (b.0.1 (a.0.setup_kept _ b.0.0))
  words_alike verdict.Passed (verdict.TooEarly y) a b = absurd (b.0.1.1 (a.0.hold_kept _ b.0.1.0))
  words_alike (verdict.TooLate x) verdict.Passed a b = absurd (a.0.1 (b.0.setup_kept _ a.0.0))
  words_alike (verdict.TooEarly x) verdict.Passed a b = absurd (a.0.1.1 (b.0.hold_kept _ a.0.1.0))
  words_alike (verdict.TooLate x) (verdict.TooEarly y) a b = absurd (a.0.1 (b.0.0 _ a.0.0))
  words_alike (verdict.TooEarly x) (verdict.TooLate y) a b = absurd (b.0.1 (a.0.0 _ b.0.0))
  words_alike (verdict.TooLate x) (verdict.TooLate y) a b =
      let register = first_alike _ _ _ _ a.0 b.0 in
      let b' = rw (← register) at b.1 in
      let arrival : x.arrival ≡ y.arrival = a.1.0 ∙ sym b'.0 in
      let limit : x.limit ≡ y.limit = a.1.1 ∙ sym b'.1 in
      let path = told_alike Late g r t _ x.path y.path before after before' after' a.2 (rw (← register) at b.2) in
      rw (register, arrival, limit, path)
  words_alike (verdict.TooEarly x) (verdict.TooEarly y) a b =
      let register = first_alike _ _ _ _ a.0.1 b.0.1 in
      let b' = rw (← register) at b.1 in
      let arrival : x.arrival ≡ y.arrival = a.1.0 ∙ sym b'.0 in
      let limit : x.limit ≡ y.limit = a.1.1 ∙ sym b'.1 in
      let path = told_alike Early g r t _ x.path y.path before after before' after' a.2 (rw (← register) at b.2) in
      rw (register, arrival, limit, path)

worst_alike : (e : Edge) (m : Machine) (n : ℕ) (v w : Worst) → IsWorst e m n v → IsWorst e m n w → worst_of v ≡ worst_of w
worst_alike e m n v w a b =
    let register : v.register ≡ w.register = elim (cases_lt v.register w.register) [
      | inl below ↦ absurd (omega (arith, ints, b.first v.register below, a.smallest w.register b.inside, a.has, b.has))
      | inr above ↦ elim (cases_lt w.register v.register) [
        | inl below ↦ absurd (omega (arith, ints, a.first w.register below, b.smallest v.register a.inside, a.has, b.has))
        | inr same ↦ omega arith
      ]
    ] in
    let margin : v.margin ≡ w.margin = a.has ∙ ap (margin_of e m) register ∙ sym b.has in
    rw (register, margin)

pub findings_alike : FindingsAreOne
findings_alike g r t xs ys a b =
    let word = words_alike g r t a.before a.after b.before b.after a.word b.word a.says b.says in
    let m = machine_in g r t in
    let setup = worst_alike Late m m.registers a.smallest.setup b.smallest.setup a.are_smallest.setup b.are_smallest.setup in
    let hold = worst_alike Early m m.registers a.smallest.hold b.smallest.hold a.are_smallest.hold b.are_smallest.hold in
    let less = a.is_shortest.1 b.period b.is_shortest.0 in
    let more = b.is_shortest.1 a.period a.is_shortest.0 in
    let period : a.period ≡ b.period = omega arith in
    a.are ∙ rw (word, setup, hold, period) (sym b.are)
