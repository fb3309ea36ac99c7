-- Laws of circuits that are read line by line.
use Rattle.std.proofs.Common.{◌≡◌, ℕ, ◌<◌, ◌≤◌, Bool, true, false, cond, ◌&&◌, List, [], ◌∷◌, ◌++◌, length, Some, None, Ok, Err, Option, Result, refl, sym, ap, ◌∙◌}
use Rattle.std.specs.Prelude.{codes, nat_lt, OnOk}
use Rattle.std.specs.Str.{bytes_eq}
use Rattle.std.proofs.lemmas.Bool.{lt-ltb, le-ltb}
use Rattle.std.proofs.lemmas.Slice.Eq.{bytes_eq-Decides}
use Rattle.text.specs.declared.draft.Keyword.{Keyword}
use Rattle.text.specs.declared.draft.Keyword.TheVariants.{Circuit, Times, Register, Gate, End}
use Rattle.text.specs.Meaning.{begins_with, meaning}
use Rattle.text.specs.Reader.{Placed, marked, most_gates, most_registers, most_times, placed, placed_by}

pub on_ok : {A E P : Type 0} → (r : Result A E) → P → OnOk r P
on_ok (Ok x) p = p
on_ok (Err e) p = tt

-- a line with no word is kept nowhere
pub none_placed : (n : ℕ) (p : Placed) → p ≡ placed n [] p
unfolding marked
none_placed n p = refl

-- at most one of the tests for the words holds
tests : (g r t c e : Bool) (n : ℕ) (p : Placed) → (g ≡ true → (r ≡ false) × (t ≡ false)) → (r ≡ true → t ≡ false) →
    placed_by (cond g (Some Gate) (cond r (Some Register) (cond t (Some Times) (cond c (Some Circuit) (cond e (Some End) None))))) n p
    ≡ record {
      gates = cond (g && nat_lt (length p.gates) most_gates) (p.gates ++ (n ∷ [])) p.gates;
      registers = cond (r && nat_lt (length p.registers) most_registers) (p.registers ++ (n ∷ [])) p.registers;
      times = cond (t && nat_lt (length p.times) most_times) (p.times ++ (n ∷ [])) p.times;
    }
tests true r t c e n p a b = rw ((a refl).0, (a refl).1) refl
tests false true t c e n p a b = rw (b refl) refl
tests false false true c e n p a b = refl
tests false false false true e n p a b = refl
tests false false false false true n p a b = refl
tests false false false false false n p a b = refl

-- a line with words is kept by its keyword
pub keyword_placed : (n : ℕ) (w : List ℕ) (ws : List (List ℕ)) (p : Placed) → placed_by (meaning w) n p ≡ placed n (w ∷ ws) p
unfolding marked
keyword_placed n w ws p =
    tests (bytes_eq w (codes "gate")) (bytes_eq w (codes "register")) (bytes_eq w (codes "times")) (bytes_eq w (codes "circuit")) (bytes_eq w (codes "end")) n p
    (λ e. let is : w ≡ codes "gate" = (bytes_eq-Decides w (codes "gate")).0 e in (ap (λ v. bytes_eq v (codes "register")) is, ap (λ v. bytes_eq v (codes "times")) is))
    (λ e. let is : w ≡ codes "register" = (bytes_eq-Decides w (codes "register")).0 e in ap (λ v. bytes_eq v (codes "times")) is)

pub placed_at : (n : ℕ) (k : Option Keyword) (w : List ℕ) (rest ws : List (List ℕ)) (p q : Placed) → ws ≡ w ∷ rest → k ≡ meaning w → q ≡ placed_by k n p → q ≡ placed n ws p
placed_at n k w rest ws p q first k_is q_is =
    q_is ∙ ap (λ x. placed_by x n p) k_is ∙ keyword_placed n w rest p ∙ ap (λ x. placed n x p) (sym first)

-- a line is kept, there are enough, or it begins with another word
module _ (word : List ℕ) (most n : ℕ) (ws : List (List ℕ)) (ns : List ℕ) (b : Bool) (is : b ≡ begins_with word ws) where
  pub one_more : b ≡ true → length ns < most → ns ++ (n ∷ []) ≡ marked word most n ws ns
  unfolding marked
  one_more so few = rw (← is, so, lt-ltb (length ns) most few) refl

  pub all_there : b ≡ true → most ≤ length ns → ns ≡ marked word most n ws ns
  unfolding marked
  all_there so full = rw (← is, so, le-ltb (length ns) most full) refl

  pub another : b ≡ false → ns ≡ marked word most n ws ns
  unfolding marked
  another not_so = rw (← is, not_so) refl
