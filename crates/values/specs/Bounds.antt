-- What follows from some of the sources' bits alone: signals' bits that are implied, a bound on settle times that
-- holds whatever the other bits are, and paths that are blocked.
use Rattle.std.specs.Prelude.{◌≡◌, ℕ, ◌+◌, ◌<◌, ◌≤◌, Bool, true, false, cond, not, ◌&&◌, ◌||◌, [], ◌∷◌, Option, Some, None}
use Rattle.circuit.specs.Gate.{output}
use Rattle.circuit.specs.declared.gate.Gate.{Gate}
use Rattle.circuit.specs.Circuit.{Circuit, gate, signals, Sound, along}
use Rattle.drawing.specs.Drawing.{ideal}
use Rattle.path.specs.Path.{Steps, Leads}
use Rattle.values.specs.Settling.{is_controlling_one, is_controlling_two, settled_by, settle_time}
use Rattle.values.specs.FalsePath.{Sensitizes}

-- a bit may be b: it is not known, or is known to be b
abbrev pub Allows : (known : Option Bool) → (b : Bool) → Type 0
Allows None b = Unit {0}
Allows (Some a) b = a ≡ b

-- whether every bit that a gate's first input may have is a controlling value
abbrev pub is_always_controlling_one : Gate → Option Bool → Bool
is_always_controlling_one g None = is_controlling_one g false && is_controlling_one g true
is_always_controlling_one g (Some a) = is_controlling_one g a

-- whether every bit that a gate's second input may have is a controlling value
abbrev pub is_always_controlling_two : Gate → Option Bool → Bool
is_always_controlling_two g None = is_controlling_two g false && is_controlling_two g true
is_always_controlling_two g (Some b) = is_controlling_two g b

-- the bit that both of two bits are, if they are the same
abbrev pub common_bit : Bool → Bool → Option Bool
common_bit a b = cond a (cond b (Some true) None) (cond b None (Some false))

-- a table's output, if it is the same for all bits that its inputs may have
abbrev pub implied_output : ℕ → Option Bool → Option Bool → Option Bool
implied_output t (Some a) (Some b) = Some (output t a b)
implied_output t (Some a) None = common_bit (output t a false) (output t a true)
implied_output t None (Some b) = common_bit (output t false b) (output t true b)
implied_output t None None = cond (output t false false)
    (cond (output t false true && (output t true false && output t true true)) (Some true) None)
    (cond (not (output t false true) && (not (output t true false) && not (output t true true))) (Some false) None)

-- a bound on a gate's settle time, from the bits that its inputs may have and bounds on their settle times: an input
-- counts as controlling only if it always is
abbrev pub gate_settle_bound : Gate → (x y : Option Bool) → (a b : ℕ) → ℕ
gate_settle_bound g x y a b =
    settled_by (is_always_controlling_one g x) (is_always_controlling_two g y)
    (a + g.greatest_one) (b + g.greatest_two) g.greatest_one g.greatest_two

-- the bit of each signal that the known bits p of the sources imply, if they do
unfoldable pub implied_bit : Circuit → (p : ℕ → Option Bool) → (ℕ → Option Bool)
implied_bit c p = along (λ _ g. implied_output g.table) c.inputs c.gates p

-- the bound on each signal's settle time
unfoldable pub settle_bound : Circuit → (p : ℕ → Option Bool) → (s : ℕ → ℕ) → (ℕ → ℕ)
settle_bound c p s =
    along (λ _ g. gate_settle_bound g (implied_bit c p g.one) (implied_bit c p g.two)) c.inputs c.gates s

-- whatever bits the sources have among those that p allows, each signal has the implied bit and is settled from the
-- bound on
abbrev pub BoundsHold : Type 0
BoundsHold =
    (c : Circuit) (p : ℕ → Option Bool) (b : ℕ → Bool) (s : ℕ → ℕ) → Sound c →
    ((i : ℕ) → i < c.inputs → Allows (p i) (b i)) → (k : ℕ) → k < signals c → Allows (implied_bit c p k) (ideal c b k) × (settle_time c b s k ≤ settle_bound c p s k)

-- where all sources are known from which a path leads to a signal, its bit is implied, and the bound is its settle
-- time
abbrev pub BoundsAreExact : Type 0
BoundsAreExact =
    (c : Circuit) (p : ℕ → Option Bool) (b : ℕ → Bool) (s : ℕ → ℕ) → Sound c → (k : ℕ) → k < signals c →
    ((i : ℕ) (q : Steps) → Leads c i q k → p i ≡ Some (b i)) →
    (implied_bit c p k ≡ Some (ideal c b k)) × (settle_bound c p s k ≡ settle_time c b s k)

-- whether the known bits block a path: some gate on it has a side input that always controls it
unfoldable pub is_blocked : Circuit → (p : ℕ → Option Bool) → Steps → Bool
is_blocked c p [] = false
is_blocked c p ((g, false) ∷ q) =
    is_always_controlling_two (gate c g) (implied_bit c p (gate c g).two) || is_blocked c p q
is_blocked c p ((g, true) ∷ q) =
    is_always_controlling_one (gate c g) (implied_bit c p (gate c g).one) || is_blocked c p q

-- no bits that p allows sensitize a path that is blocked
abbrev pub BlockedIsNotSensitized : Type 0
BlockedIsNotSensitized =
    (c : Circuit) (p : ℕ → Option Bool) (b : ℕ → Bool) → Sound c → ((i : ℕ) → i < c.inputs → Allows (p i) (b i)) →
    (i k : ℕ) (q : Steps) → Leads c i q k → is_blocked c p q ≡ true → Sensitizes c b q → ⊥

-- where all sources are known from which a path leads to its end, they sensitize a path that is not blocked
abbrev pub OpenIsSensitized : Type 0
OpenIsSensitized =
    (c : Circuit) (p : ℕ → Option Bool) (b : ℕ → Bool) → Sound c → (i k : ℕ) (q : Steps) → Leads c i q k →
    ((j : ℕ) (r : Steps) → Leads c j r k → p j ≡ Some (b j)) → is_blocked c p q ≡ false → Sensitizes c b q
