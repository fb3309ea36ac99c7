-- A board that each transition's own bounds let pass, and a run in which it goes wrong.
use Rattle.std.proofs.Common.{◌≡◌, ℕ, suc, ◌+◌, ◌-◌, ◌<◌, ◌≤◌, Bool, true, false, cond, sym, refl, ◌∙◌, inl, inr}
use Rattle.std.proofs.Common.{arith, zero, ◌*◌, ap, eqb, nat_lt, ◌/◌}
use Rattle.std.proofs.lemmas.Bool.{cases_lt, le-ltb, cases_eq, lt-ltb, ne_eqb, true≢false}
use Rattle.circuit.specs.Circuit.{gate, along}
use Rattle.circuit.specs.Gate.{output}
use Rattle.circuit.specs.declared.gate.Gate.{Gate}
use Rattle.drawing.specs.Drawing.{ideal}
use Rattle.arrival.specs.Window.{Wave}
use Rattle.board.specs.Board.{reference, since, still_until, Formed, launch_cycle}
use Rattle.board.specs.Run.{Trace}
use Rattle.rise_fall.specs.Gate.{Bounds, ago, RiseFallFollows, RiseFallMoves, SeesUpTo, MovesUpTo}
use Rattle.rise_fall.specs.Promise.{sources_in, SetupKept, HoldKept, RiseFallRun}
use Rattle.rise_fall.specs.Times.{Stable}
use Rattle.rise_fall.specs.Weaker.{both, delayed_by_own_bounds, stable_by_own_bounds, PassedByOwnBounds, short_pulse}
use Rattle.rise_fall.specs.Weaker.{pulse_bounds, OwnBoundsFail}
use Rattle.rise_fall.proofs.Merging.{each, cond_more, StableBetween, merged_between, buffer_between}
use Rattle.rise_fall.proofs.Seeing.{sees_by, sees_up_to_by}

formed : Formed short_pulse
formed = record {
  sources = omega arith;
  sound = record { before = each 3 _ (omega arith); ranges = each 3 _ (omega arith) };
  taken = each 2 _ (omega arith);
  clocked = each 2 _ (omega arith);
  inputs_ordered = λ i a z. absurd (omega arith);
  output_ordered = omega arith;
}

always : (r n : ℕ) → launch_cycle short_pulse r n ≡ n
unfolding launch_cycle
always r zero = refl
always r (suc n) = refl

-- when signals are stable in cycle n by own bounds
module _ (n : ℕ) where
  abbrev own : ℕ → Stable
  own = stable_by_own_bounds short_pulse.circuit pulse_bounds (sources_in short_pulse n)

  -- signal j through the delays of gate k
  abbrev into : (k j : ℕ) → Stable
  into k j = delayed_by_own_bounds (pulse_bounds k).one (own j)

  register_stable : StableBetween (own 0) (n * 9) (suc n * 9)
  unfolding stable_by_own_bounds along since still_until
  register_stable b = let e = always 0 n in (omega arith, omega arith)

  inverter_stable : StableBetween (own 2) (n * 9 + 1) (suc n * 9 + 1)
  unfolding stable_by_own_bounds along
  inverter_stable =
      merged_between (gate short_pulse.circuit 0) (into 0 0) (into 0 0) (n * 9 + 1) (suc n * 9 + 1) seen seen
    where
      seen : StableBetween (into 0 0) (n * 9 + 1) (suc n * 9 + 1)
      seen b = let s = register_stable b in (omega arith, omega arith)

  first_stable : (b : Bool) → ((own 3).from b ≤ n * 9 + cond b 10 4) × (suc n * 9 + 2 ≤ (own 3).until b)
  unfolding stable_by_own_bounds along
  first_stable b =
      let s = register_stable b in
      let g = buffer_between (gate short_pulse.circuit 1) refl (into 1 0) (into 1 0) b in
      (omega arith, omega arith)

  second_stable : StableBetween (own 4) (n * 9 + 12) (suc n * 9 + 4)
  unfolding stable_by_own_bounds along
  second_stable =
      merged_between (gate short_pulse.circuit 2) (into 2 3) (into 2 3) (n * 9 + 12) (suc n * 9 + 4) seen seen
    where
      seen : StableBetween (into 2 3) (n * 9 + 12) (suc n * 9 + 4)
      seen true = let s = first_stable true in (omega arith, omega arith)
      seen false = let s = first_stable false in (omega arith, omega arith)

passed : PassedByOwnBounds short_pulse pulse_bounds
passed = record {
  formed = formed;
  setup_kept = λ n. each 2 (λ r. true ≡ true → SetupKept short_pulse (own n) n r)
      ((λ e b. let s = inverter_stable n b in omega arith), ((λ e b. let s = second_stable n b in omega arith), tt));
  hold_kept = λ n. each 2 (λ r. true ≡ true → HoldKept short_pulse (own n) n r)
      ((λ e b. let s = inverter_stable n b in omega arith), ((λ e b. let s = second_stable n b in omega arith), tt));
}

-- register 0 begins with 0 and takes the inverse of its bit in every cycle
toggles : ℕ → Bool
toggles zero = false
toggles (suc n) = output 1 (toggles n) (toggles n)

register : Wave
register t = toggles (t / 9)

-- the rise at moment 9 is seen through the first buffer at moment 18 only, as late as it may be, and the fall at
-- moment 18 at moment 20 already; all other changes after 2 moments
first_delay : ℕ → ℕ
first_delay t = cond (nat_lt 10 t) (cond (nat_lt t 18) (t - 8) 2) 2

first : Wave
first t = output 10 (register (t - first_delay t)) (register (t - first_delay t))

-- at moment 21 the second buffer sees what the first one showed 7 moments before, which is within the bounds of a
-- falling input, at all others what it showed 2 moments before
second_delay : ℕ → ℕ
second_delay t = cond (eqb t 21) 7 2

second : Wave
second t = output 10 (first (t - second_delay t)) (first (t - second_delay t))

-- register 1 takes what the second buffer shows at its clock
taken : ℕ → Bool
taken zero = false
taken (suc n) = second (suc n * 9 + 3)

holds : (n r : ℕ) → Bool
holds n zero = toggles n
holds n (suc r) = taken n

clock : (n r : ℕ) → ℕ
clock n r = n * 9 + short_pulse.late r

waves : ℕ → Wave
waves zero = register
waves (suc zero) = λ t. taken ((t - 3) / 9)
waves (suc (suc zero)) = λ t. output 1 (register (t - 1)) (register (t - 1))
waves (suc (suc (suc zero))) = first
waves (suc (suc (suc (suc k)))) = second

-- the delays are within the bounds of what the inputs are now and were just before
first_within : (t u : ℕ) → u ≤ t → t ≤ suc u → (2 ≤ first_delay t) × (first_delay t ≤ cond (register u) 10 4)
unfolding first_delay register toggles output
first_within t u le ge = elim (cases_lt 10 t) [
  | inr e ↦ rw (le-ltb 10 t e) (omega arith, cond_more (toggles (u / 9)) 10 4 2 (omega arith) (omega arith))
  | inl late ↦ elim (cases_lt t 18) [
    | inr e ↦
        rw (lt-ltb 10 t late, le-ltb t 18 e)
        (omega arith, cond_more (toggles (u / 9)) 10 4 2 (omega arith) (omega arith))
    | inl early ↦
        let up : u / 9 ≡ 1 = omega arith in
        rw (lt-ltb 10 t late, lt-ltb t 18 early, up) (omega arith, omega arith)
  ]
]

second_within : (t u : ℕ) → u ≤ t → t ≤ suc u → (2 ≤ second_delay t) × (second_delay t ≤ cond (first u) 2 7)
unfolding second_delay
second_within t u le ge = elim (cases_eq t 21) [
  | inl e ↦ elim (cases_eq u 21) [
    | inl now ↦ rw (e, now) (omega arith, unfold first first_delay register toggles output in omega arith)
    | inr other ↦
        let before : u ≡ 20 = omega arith in
        rw (e, before) (omega arith, unfold first first_delay register toggles output in omega arith)
  ]
  | inr e ↦ rw (ne_eqb t 21 e) (omega arith, cond_more (first u) 2 7 2 (omega arith) (omega arith))
]

-- what a gate with one signal and one set of bounds at both inputs may show: what its table makes of that signal some
-- time ago, by a delay within the bounds of what the signal is now and was just before
module _ (g : Gate) (b : Bounds) (x : Wave) (t d : ℕ)
    (within : (u : ℕ) → u ≤ t → t ≤ suc u → (b.least (x u) ≤ d) × (d ≤ b.greatest (x u))) where
  follows_one : RiseFallFollows g (both b) (ago (λ i. x 0) x t) (ago (λ i. x 0) x t)
      (output g.table (x (t - d)) (x (t - d)))
  follows_one =
      let i = within (t - 1) (omega arith) (omega arith) in
      let sees = sees_by b x t d i.0 i.1 in
      record { bit_one = x (t - d); bit_two = x (t - d); sees_one = sees; sees_two = sees; is = refl }

  follows_up_to : (p : Bool) × (q : Bool) × SeesUpTo b (ago (λ i. x 0) x t) p × SeesUpTo b (ago (λ i. x 0) x t) q
      × (output g.table (x (t - d)) (x (t - d)) ≡ output g.table p q)
  follows_up_to =
      let i = within t (omega arith) (omega arith) in
      let sees = sees_up_to_by b x t d i.0 i.1 in
      (x (t - d), x (t - d), sees, sees, refl)

moves : RiseFallMoves short_pulse.circuit pulse_bounds waves
unfolding waves first second
moves = (λ k i. waves k 0, follows)
  where
    follows : (k t : ℕ) → k < 3 →
        RiseFallFollows (gate short_pulse.circuit k) (pulse_bounds k)
        (ago (λ i. waves (gate short_pulse.circuit k).one 0) (waves (gate short_pulse.circuit k).one) t)
        (ago (λ i. waves (gate short_pulse.circuit k).two 0) (waves (gate short_pulse.circuit k).two) t)
        (waves (2 + k) t)
    follows zero t h = follows_one (gate short_pulse.circuit 0) (pulse_bounds 0).one register t 1
        (λ u a z. (omega arith, omega arith))
    follows (suc zero) t h = follows_one (gate short_pulse.circuit 1) (pulse_bounds 1).one register t (first_delay t)
        (first_within t)
    follows (suc (suc zero)) t h = follows_one (gate short_pulse.circuit 2) (pulse_bounds 2).one first t
        (second_delay t) (second_within t)
    follows (suc (suc (suc k))) t h = absurd (omega arith)

moves_up_to : MovesUpTo short_pulse.circuit pulse_bounds waves
unfolding waves first second
moves_up_to = (λ k i. waves k 0, follows)
  where
    follows : (k t : ℕ) → k < 3 → (p : Bool) × (q : Bool)
        × SeesUpTo (pulse_bounds k).one
        (ago (λ i. waves (gate short_pulse.circuit k).one 0) (waves (gate short_pulse.circuit k).one) t) p
        × SeesUpTo (pulse_bounds k).two
        (ago (λ i. waves (gate short_pulse.circuit k).two 0) (waves (gate short_pulse.circuit k).two) t) q
        × (waves (2 + k) t ≡ output (gate short_pulse.circuit k).table p q)
    follows zero t h = follows_up_to (gate short_pulse.circuit 0) (pulse_bounds 0).one register t 1
        (λ u a z. (omega arith, omega arith))
    follows (suc zero) t h = follows_up_to (gate short_pulse.circuit 1) (pulse_bounds 1).one register t (first_delay t)
        (first_within t)
    follows (suc (suc zero)) t h = follows_up_to (gate short_pulse.circuit 2) (pulse_bounds 2).one first t
        (second_delay t) (second_within t)
    follows (suc (suc (suc k))) t h = absurd (omega arith)

trace : Trace
trace = record { start = λ r. false; outside = λ n i. false; clock = clock; holds = holds; waves = waves }

shows : (n r t : ℕ) → r < 2 → clock (launch_cycle short_pulse r n) r + 0 ≤ t → t < clock (suc n) r + 0 →
    waves r t ≡ holds n r
unfolding waves register clock holds
shows n zero t h a z = let e = always 0 n in let c : t / 9 ≡ n = omega arith in ap toggles c
shows n (suc zero) t h a z = let e = always 1 n in let c : (t - 3) / 9 ≡ n = omega arith in ap taken c
shows n (suc (suc r)) t h a z = absurd (omega arith)

takes : (n r : ℕ) (b : Bool) → r < 2 →
    ((t : ℕ) → clock (suc n) r ≤ t + 0 → t ≤ clock (suc n) r + 0 → waves (short_pulse.takes r) t ≡ b) →
    holds (suc n) r ≡ b
unfolding waves register clock holds toggles taken
takes n zero b h all =
    let c : (suc n * 9 + 0 - 1) / 9 ≡ n = omega arith in
    sym (ap (λ (i : ℕ). output 1 (toggles i) (toggles i)) c) ∙ all (suc n * 9 + 0) (omega arith) (omega arith)
takes n (suc zero) b h all = all (suc n * 9 + 3) (omega arith) (omega arith)
takes n (suc (suc r)) b h all = absurd (omega arith)

run : RiseFallRun short_pulse pulse_bounds trace
unfolding trace clock holds toggles taken
run = record {
  sources = record {
    clocks = λ n. each 2 _ (omega arith);
    starts = each 2 _ (refl, (refl, tt));
    comes = λ n i t a z. absurd (omega arith);
    shows = shows;
    takes = λ n r b h e. takes n r b h;
    keeps = λ n r h e. absurd (true≢false e);
  };
  gates = moves;
}

-- register 0 is 1 in cycle 1, and register 1 takes 0 at its end
pub own_bounds_fail : OwnBoundsFail
unfolding trace holds taken second first second_delay first_delay register toggles output reference ideal along
own_bounds_fail = (passed, (trace, run, moves_up_to, (2, λ e. true≢false (sym e))))
