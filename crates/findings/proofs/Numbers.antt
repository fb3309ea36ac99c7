-- The numbers of findings fit.
use Rattle.std.proofs.Common.{◌≡◌, ℕ, zero, suc, ◌+◌, ◌*◌, ◌/◌, ◌^◌, ◌<◌, Bool, true, false, cond, List, [], ◌∷◌, map, length, get_or, refl, arith, ℤ, pos, negsuc, ◌-ℤ◌, ◌≤ℤ◌}
use Rattle.std.proofs.lemmas.Bool.Decides.{nat_tests}
use Rattle.std.proofs.lemmas.Int.{ints}
use Rattle.std.proofs.lemmas.List.Elements.{All-nil, All-cons, All-append, All-get_or}
use Rattle.std.proofs.lemmas.List.Folds.{list_all-append}
use Rattle.std.specs.List.{range_with_len, list_all, All}
use Rattle.circuit.specs.Circuit.{Circuit, gate}
use Rattle.circuit.specs.Lent.{register_count, drawn}
use Rattle.circuit.specs.Whole.{Whole}
use Rattle.circuit.proofs.LentLaws.{gates_in_length}
use Rattle.arrival.specs.declared.edge.Edge.{Edge}
use Rattle.arrival.specs.declared.edge.Edge.TheVariants.{Late, Early}
use Rattle.path.specs.Path.{Steps, input, Leads, PathTold, written, written_steps}
use Rattle.path.proofs.Writing.{written_length}
use Rattle.promise.specs.Machine.{machine_in}
use Rattle.signoff.specs.Verdict.{Says}
use Rattle.signoff.specs.declared.verdict.Miss.{Miss}
use Rattle.signoff.specs.declared.verdict.Verdict.{Verdict}
use Rattle.signoff.specs.declared.verdict.Verdict.TheVariants as verdict
use Rattle.slack.specs.Margin.{margin_of, IsWorst}
use Rattle.slack.specs.declared.worst.Worst.{Worst}
use Rattle.claim.specs.declared.kinds.Claim.{Claim}
use Rattle.findings.specs.Findings.{gate_claim, path_claims, SmallMiss, sums_of, word_claims, margin_claim}
use Rattle.claim.specs.Claims.{sum_numbers, claim_fits}
use Rattle.claim.specs.Numbers.{fits}
use Rattle.findings.specs.Fitting.{Fitting, FindingsFit}
use Rattle.findings.proofs.Small.{registers_small, times_small, taken_small, small_word, small_period}

fit_from : (n : ℕ) → n < 2 ^ 63 → fits (pos n) ≡ true
fit_from n h = grind (arith, nat_tests)

fit_between : (z : ℤ) → (pos 0 -ℤ pos (2 ^ 40)) ≤ℤ z → z ≤ℤ pos (2 ^ 40) → fits z ≡ true
fit_between (pos n) low high = fit_from n (omega (arith, ints))
fit_between (negsuc n) low high = let small : n < 2 ^ 63 = omega (arith, ints) in grind (arith, nat_tests)

sums_fit : (x : Miss) → SmallMiss x → list_all fits (sum_numbers (sums_of x)) ≡ true
sums_fit x small = rw (fit_from x.register small.0, fit_from x.arrival small.1, fit_from x.limit small.2)

maps_fit : (f : ℕ → Claim) (a n : ℕ) → ((k : ℕ) → k < a + n → claim_fits (f k) ≡ true) → list_all claim_fits (map f (range_with_len a n)) ≡ true
maps_fit f a zero each = refl
maps_fit f a (suc n) each = let rest = maps_fit f (a + 1) n (λ k h. each k (omega arith)) in rw (each a (omega arith), rest)

-- the numbers of a path are signals, and bits
leads_from : (c : Circuit) (i : ℕ) (p : Steps) (k : ℕ) → Leads c i p k → i < c.inputs
unfolding Leads
leads_from c i [] k l = l.1
leads_from c i ((g, s) ∷ p) k l = leads_from c i p (input s (gate c g)) l.2

abbrev Low : Circuit → ℕ → Type 0
Low c x = x < c.inputs + length c.gates + 2

bit_low : (c : Circuit) (s : Bool) → Low c (cond s 1 0)
bit_low c true = omega arith
bit_low c false = omega arith

steps_low : (c : Circuit) (i : ℕ) (p : Steps) (k : ℕ) → Leads c i p k → All (Low c) (written_steps c.inputs p)
unfolding Leads written_steps
steps_low c i [] k l = All-nil (Low c)
steps_low c i ((g, s) ∷ p) k l =
    let rest = steps_low c i p (input s (gate c g)) l.2 in
    let signal : Low c (c.inputs + g) = omega (arith, l.1) in
    let bit : ℕ = cond s 1 0 in
    All-append (Low c) (written_steps c.inputs p) ((c.inputs + g) ∷ bit ∷ []) rest (All-cons (Low c) (c.inputs + g) (bit ∷ []) signal (All-cons (Low c) bit [] (bit_low c s) (All-nil (Low c))))

module _ (g r t : List ℕ) (whole : Whole g r t) where
  path_fits : (e : Edge) (signal len : ℕ) (before after : List ℕ) → PathTold e g r t signal len before after → Fitting (path_claims (len / 2) after)
  path_fits e signal len before after (i, p, told, is, enough, begins) =
      let c : Circuit = drawn g r in
      let n = register_count r in
      let from = leads_from c i p signal told.leads in
      let low = All-cons (Low c) i (written_steps n p) (omega (arith, from)) (steps_low c i p signal told.leads) in
      let l = written_length n p in
      let few = whole.gates_few in
      let some = whole.registers_some in
      let at : (j : ℕ) → j < len → get_or after j 0 < 20000 = λ j h.
      let inside : j < length (written n (i, p)) = omega arith in
      let small : Low c (get_or (written n (i, p)) j 0) = All-get_or (Low c) (written n (i, p)) j 0 inside low in
      omega (arith, begins.filled j inside, gates_in_length g) in
      let first = at 0 (omega arith) in
      let head = fit_from (get_or after 0 0) (omega arith) in
      let gates = maps_fit (gate_claim after) 0 (len / 2)
      (λ k h.
      let one = at (2 * k + 1) (omega arith) in
      let two = at (2 * k + 2) (omega arith) in
      let a = fit_from (get_or after (2 * k + 1) 0) (omega arith) in
      let b = fit_from (get_or after (2 * k + 2) 0 + 1) (omega arith) in
      rw (a, b)) in
      rw (head, gates)

  word_fits : (before after : List ℕ) (v : Verdict) → Says g r t before after v → Fitting (word_claims v after)
  word_fits before after verdict.Passed says = refl
  word_fits before after (verdict.TooLate x) says =
      let sums = sums_fit x (small_word g r t whole before after (verdict.TooLate x) says) in
      let path = path_fits Late _ x.path before after says.2 in
      rw (sums, path)
  word_fits before after (verdict.TooEarly x) says =
      let sums = sums_fit x (small_word g r t whole before after (verdict.TooEarly x) says) in
      let path = path_fits Early _ x.path before after says.2 in
      rw (sums, path)

  margin_fits : (e : Edge) (q : ℕ) → q < register_count r → fits (margin_of e (machine_in g r t) q) ≡ true
  margin_fits Late q h =
      let time = taken_small g r t whole Late q h in
      let period = times_small g r t whole 0 in
      let setup = times_small g r t whole 3 in
      let early = registers_small g r t whole (3 * q + 1) in
      fit_between (margin_of Late (machine_in g r t) q) (omega (arith, ints)) (omega (arith, ints))
  margin_fits Early q h =
      let time = taken_small g r t whole Early q h in
      let hold = times_small g r t whole 4 in
      let late = registers_small g r t whole (3 * q + 2) in
      fit_between (margin_of Early (machine_in g r t) q) (omega (arith, ints)) (omega (arith, ints))

  worst_fits : (e : Edge) (w : Worst) → IsWorst e (machine_in g r t) (register_count r) w → (fits (pos w.register) ≡ true) × (fits w.margin ≡ true)
  worst_fits e w is =
      let some = whole.registers_some in
      (fit_from w.register (omega (arith, is.inside)), rw is.has (margin_fits e w.register is.inside))

pub findings_fit : FindingsFit
findings_fit g r t whole claims a =
    let word = word_fits g r t whole a.before a.after a.word a.says in
    let m = machine_in g r t in
    let margins = maps_fit (margin_claim m) 0 (register_count r) (λ q h.
    let inside : q < register_count r = omega arith in
    let setup = margin_fits g r t whole Late q inside in
    let hold = margin_fits g r t whole Early q inside in
    rw (setup, hold)) in
    let setup = worst_fits g r t whole Late a.smallest.setup a.are_smallest.setup in
    let hold = worst_fits g r t whole Early a.smallest.hold a.are_smallest.hold in
    let small = small_period g r t whole a.period a.is_shortest in
    let period = fit_from a.period (omega arith) in
    rw (a.are, list_all-append, list_all-append, word, margins, setup.0, setup.1, hold.0, hold.1, period)
