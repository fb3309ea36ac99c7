-- What a gate makes of the times at its inputs, by bounds; and facts of each number below some other.
use Rattle.std.proofs.Common.{◌≡◌, ℕ, suc, ◌+◌, ◌<◌, ◌≤◌, Bool, true, false, cond, arith, zero}
use Rattle.circuit.specs.Gate.{output}
use Rattle.circuit.specs.declared.gate.Gate.{Gate}
use Rattle.rise_fall.specs.Times.{Stable, makes, is_constant, has_arc, swapped, soonest, longest_still, merged}

-- what holds of each number below n, written out
abbrev pub Every : ℕ → (ℕ → Type 0) → Type 0
Every zero P = Unit {0}
Every (suc n) P = P 0 × Every n (λ k. P (suc k))

pub each : (n : ℕ) (P : ℕ → Type 0) → Every n P → (k : ℕ) → k < n → P k
each zero P e k h = absurd (omega arith)
each (suc n) P e zero h = e.0
each (suc n) P e (suc k) h = each n (λ k. P (suc k)) e.1 k (omega arith)

pub cond_less : (b : Bool) (x y m : ℕ) → x ≤ m → y ≤ m → cond b x y ≤ m
cond_less true x y m h k = h
cond_less false x y m h k = k

pub cond_more : (b : Bool) (x y m : ℕ) → m ≤ x → m ≤ y → m ≤ cond b x y
cond_more true x y m h k = h
cond_more false x y m h k = k

-- both bits of a signal are stable from l at the latest until e at least
abbrev pub StableBetween : Stable → (l e : ℕ) → Type 0
StableBetween x l e = (b : Bool) → (x.from b ≤ l) × (e ≤ x.until b)

-- a gate's output is stable as early and for as long as both its inputs are seen to be, whatever its table is
pub merged_between : (g : Gate) (x y : Stable) (l e : ℕ) → StableBetween x l e → StableBetween y l e →
    StableBetween (merged g x y) l e
unfolding merged soonest longest_still
merged_between g x y l e xs ys v =
    let xt = xs true in
    let xf = xs false in
    let yt = ys true in
    let yf = ys false in
    let f = output g.table in
    let low : soonest x y ≤ l = omega arith in
    let top : e ≤ longest_still x y = omega arith in
    let fx = λ (a : Bool). cond_less (has_arc f a v) (x.from a) (soonest x y) l (xs a).0 low in
    let fy = λ (a : Bool). cond_less (has_arc (swapped f) a v) (y.from a) (soonest x y) l (ys a).0 low in
    let ux = λ (a : Bool). cond_more (has_arc f a v) (x.until a) (longest_still x y) e (xs a).1 top in
    let uy = λ (a : Bool). cond_more (has_arc (swapped f) a v) (y.until a) (longest_still x y) e (ys a).1 top in
    (omega (arith, fx true, fx false, fy true, fy false), omega (arith, ux true, ux false, uy true, uy false))

-- moving the times at a gate's inputs moves those of its output
module _ (g h : Gate) (table : g.table ≡ h.table) (a b : ℕ) (S T X Y : Stable) where
  cond_moved : (t : Bool) (i j u v : ℕ) → a + i ≤ b + u → a + j ≤ b + v → a + cond t i j ≤ b + cond t u v
  cond_moved true i j u v p q = p
  cond_moved false i j u v p q = q

  pub merged_from : ((v : Bool) → a + S.from v ≤ b + X.from v) → ((v : Bool) → a + T.from v ≤ b + Y.from v) →
      (v : Bool) → a + (merged g S T).from v ≤ b + (merged h X Y).from v
  unfolding merged soonest
  merged_from sx ty v =
      let f = output h.table in
      let sx_up = sx true in
      let sx_down = sx false in
      let ty_up = ty true in
      let ty_down = ty false in
      let low : a + soonest S T ≤ b + soonest X Y = omega arith in
      let one = λ (z : Bool). cond_moved (has_arc f z v) (S.from z) (soonest S T) (X.from z) (soonest X Y) (sx z) low in
      let two = λ (z : Bool).
      cond_moved (has_arc (swapped f) z v) (T.from z) (soonest S T) (Y.from z) (soonest X Y) (ty z) low in
      rw table (omega (arith, one true, one false, two true, two false))

  pub merged_until : ((v : Bool) → a + S.until v ≤ b + X.until v) → ((v : Bool) → a + T.until v ≤ b + Y.until v) →
      (v : Bool) → a + (merged g S T).until v ≤ b + (merged h X Y).until v
  unfolding merged longest_still
  merged_until sx ty v =
      let f = output h.table in
      let sx_up = sx true in
      let sx_down = sx false in
      let ty_up = ty true in
      let ty_down = ty false in
      let high : a + longest_still S T ≤ b + longest_still X Y = omega arith in
      let one = λ (z : Bool).
      cond_moved (has_arc f z v) (S.until z) (longest_still S T) (X.until z) (longest_still X Y) (sx z) high in
      let two = λ (z : Bool).
      cond_moved (has_arc (swapped f) z v) (T.until z) (longest_still S T) (Y.until z) (longest_still X Y) (ty z)
      high in
      rw table (omega (arith, one true, one false, two true, two false))

-- a buffer of its first input has each bit no later than that bit is seen there, and for no less
pub buffer_between : (g : Gate) → g.table ≡ 10 → (x y : Stable) (v : Bool) →
    ((merged g x y).from v ≤ x.from v) × (x.until v ≤ (merged g x y).until v)
unfolding merged soonest longest_still has_arc makes is_constant output
buffer_between g is x y true = rw is (omega arith, omega arith)
buffer_between g is x y false = rw is (omega arith, omega arith)
