-- The worst paths of a machine: the first k of the paths that end at registers, the smallest slack first.
use Rattle.std.specs.Prelude.{◌≡◌, ℕ, ◌+◌, ◌<◌, ◌≤◌, true, false, ◌⊎◌, ◌↔◌, List, [], ◌∷◌, length, slice_index_or}
use Rattle.std.specs.Prelude.{ℤ, pos, ◌-ℤ◌, ◌<ℤ◌, ◌≤ℤ◌}
use Rattle.std.specs.List.{All, Contains}
use Rattle.arrival.specs.declared.edge.Edge.{Edge}
use Rattle.arrival.specs.declared.edge.Edge.TheVariants.{Late, Early}
use Rattle.path.specs.Path.{Steps, Leads, sum, Ahead, Told}
use Rattle.promise.specs.Machine.{Machine, Formed, Passed, since, still_for}
use Rattle.slack.specs.Margin.{margin_of, IsWorst}
use Rattle.slack.specs.Required.{required_of}
use Rattle.circuit.specs.Circuit.{Circuit}

-- a path: the register at which it ends, the source where it begins, and its steps, the last first
pub record RegisterPath : Type 0 where
  pub register : ℕ
  pub source : ℕ
  pub steps : Steps

-- p is a path of the machine: its steps lead from its source to the signal that its register takes
abbrev pub IsPath : Machine → RegisterPath → Type 0
IsPath m p = (p.register < m.registers) × Leads m.circuit p.source p.steps (m.takes p.register)

-- the latest or the earliest time at which a source changes
abbrev pub launch_time : Edge → Machine → ℕ → ℕ
launch_time Late m = since m
launch_time Early m = still_for m

-- the arrival time at the end of a path: that of its source, and the delays along it
abbrev pub arrival_of : Edge → Machine → RegisterPath → ℕ
arrival_of e m p = launch_time e m p.source + sum e m.circuit p.steps

-- the slack of register r, were the arrival time of its signal t: required less arrival, or for the earliest times
-- arrival less required
abbrev pub slack_at : Edge → Machine → (r t : ℕ) → ℤ
slack_at Late m r t = required_of Late m r -ℤ pos t
slack_at Early m r t = pos t -ℤ required_of Early m r

-- THE SLACK of a path
abbrev pub slack_of : Edge → Machine → RegisterPath → ℤ
slack_of e m p = slack_at e m p.register (arrival_of e m p)

-- comparing from the end, p comes in by the first input where it parts from q, and q by the second
unfoldable pub Precedes : Steps → Steps → Type 0
Precedes [] q = ⊥
Precedes (x ∷ p) [] = ⊥
Precedes (x ∷ p) (y ∷ q) = ((x.1 ≡ false) × (y.1 ≡ true)) ⊎ ((x.1 ≡ y.1) × Precedes p q)

-- THE ORDER of paths: the smaller slack, then the lower register, then the path that precedes
abbrev pub IsBefore : Edge → Machine → RegisterPath → RegisterPath → Type 0
IsBefore e m a b =
    (slack_of e m a <ℤ slack_of e m b)
    ⊎ ((slack_of e m a ≡ slack_of e m b)
    × ((a.register < b.register) ⊎ ((a.register ≡ b.register) × Precedes a.steps b.steps)))

-- xs are the first k of those that P, in the order B, or all of them where there are no more
pub record AreFirst {X : Type 0} (B : X → X → Type 0) (P : X → Type 0) (k : ℕ) (xs : List X) : Type 0 where
  pub each : All P xs
  pub ordered : (i j : ℕ) (d : X) → i < j → j < length xs → B (slice_index_or xs i d) (slice_index_or xs j d)
  pub few : length xs ≤ k
  pub rest : (x : X) → P x → Contains xs x ⊎ ((length xs ≡ k) × All (λ y. B y x) xs)

-- THE K WORST PATHS of a machine
abbrev pub WorstPaths : Edge → Machine → ℕ → List RegisterPath → Type 0
WorstPaths e m = AreFirst (IsBefore e m) (IsPath m)

-- of two paths one comes first, and not the other
abbrev pub OrderIsTotal : Type 0
OrderIsTotal =
    (e : Edge) (m : Machine) →
    ((a b : RegisterPath) → IsPath m a → IsPath m b → (a ≡ b) ⊎ (IsBefore e m a b ⊎ IsBefore e m b a))
    × ((a b : RegisterPath) → IsBefore e m a b → IsBefore e m b a → ⊥)
    × ((a b c : RegisterPath) → IsBefore e m a b → IsBefore e m b c → IsBefore e m a c)

-- there is just one list of the k worst paths
abbrev pub OneList : Type 0
OneList =
    (e : Edge) (m : Machine) (k : ℕ) (xs ys : List RegisterPath) →
    WorstPaths e m k xs → WorstPaths e m k ys → xs ≡ ys

-- no path stands in it twice
abbrev pub EachOnce : Type 0
EachOnce =
    (e : Edge) (m : Machine) (k i j : ℕ) (d : RegisterPath) (xs : List RegisterPath) →
    WorstPaths e m k xs → i < length xs → j < length xs →
    slice_index_or xs i d ≡ slice_index_or xs j d → i ≡ j

-- of two paths to one signal that precedes which the order of paths with the signal's own time puts ahead
abbrev pub PrecedesIsAhead : Type 0
PrecedesIsAhead =
    (c : Circuit) (i j : ℕ) (p q : Steps) (k : ℕ) →
    Leads c i p k → Leads c j q k → Ahead p q ↔ ((p ≡ q) ⊎ Precedes p q)

-- THE FIRST PATH ends at the register with the smallest margin, its slack is that margin, and it is the path that is
-- written of the register's signal
abbrev pub FirstIsWorst : Type 0
FirstIsWorst =
    (e : Edge) (m : Machine) (k : ℕ) (w : RegisterPath) (ws : List RegisterPath) →
    Formed m → WorstPaths e m k (w ∷ ws) →
    IsWorst e m m.registers (record { register = w.register; margin = slack_of e m w })
    × Told e m.circuit (launch_time e m) (m.takes w.register) w.source w.steps

-- p is the first path of xs that ends at its register
pub record IsFirstAtRegister (xs : List RegisterPath) (i : ℕ) (d p : RegisterPath) : Type 0 where
  pub inside : i < length xs
  pub is : slice_index_or xs i d ≡ p
  pub first : (j : ℕ) → j < i → (slice_index_or xs j d).register ≡ p.register → ⊥

-- OF THE PATHS TO ONE REGISTER the first is the path that is written of the register's signal, and its slack is the
-- register's margin
abbrev pub FirstAtRegister : Type 0
FirstAtRegister =
    (e : Edge) (m : Machine) (k i : ℕ) (d p : RegisterPath) (xs : List RegisterPath) →
    Formed m → WorstPaths e m k xs → IsFirstAtRegister xs i d p →
    (slack_of e m p ≡ margin_of e m p.register)
    × Told e m.circuit (launch_time e m) (m.takes p.register) p.source p.steps

-- a machine that is well formed is passed exactly if neither kind's first path has a slack below 0
abbrev pub PassedByPaths : Type 0
PassedByPaths =
    (m : Machine) (j k : ℕ) (v w : RegisterPath) (vs ws : List RegisterPath) →
    Formed m → WorstPaths Late m j (v ∷ vs) → WorstPaths Early m k (w ∷ ws) →
    Passed m ↔ ((pos 0 ≤ℤ slack_of Late m v) × (pos 0 ≤ℤ slack_of Early m w))
