-- Laws of what a text of circuits means.
use Rattle.std.proofs.Common.{◌≡◌, ℕ, ◌+◌, ◌-◌, ◌⊎◌, Bool, true, false, List, [], ◌∷◌, Some, None, Ok, Err, Option, sym, refl, ap, ◌∙◌, inl, inr}
use Rattle.std.proofs.lemmas.Bool.{ne_eqb}
use Rattle.lines.specs.Words.{bare, words}
use Rattle.fields.specs.declared.fault.Expected.TheVariants.{Memory, End as Ending}
use Rattle.fields.specs.declared.fault.Fault.{Fault}
use Rattle.text.specs.declared.draft.Keyword.{Keyword}
use Rattle.text.specs.Meaning.{Drafted, meaning, said, statement, went, inside, opened, found, first_circuit, begins_with, line_of, Outcome, IsAtFault}

-- a line with a word
pub at_word : {ws rest : List (List ℕ)} {w : List ℕ} (n : ℕ) (d : Drafted) (k : Option Keyword) → ws ≡ w ∷ rest → k ≡ meaning w → statement n d ws ≡ said k n d rest
unfolding statement
at_word {ws} {rest} n d k first k_is = rw first (ap (λ x. said x n d rest) (sym k_is))

-- a step of the cursor inside of a circuit, and outside of one
module _ {xs ls : List (List ℕ)} {l b : List ℕ} {n k m : ℕ} (k_is : k ≡ n) (m_is : m ≡ n + 1) (first : xs ≡ l ∷ ls) (b_is : b ≡ bare l) where
  pub one_line : (d : Drafted) → inside n d xs ≡ went (statement k d (words b)) k ls (λ d'. inside m d' ls)
  unfolding inside
  one_line d = rw (first, k_is, m_is, b_is) refl

  pub one_outside : first_circuit n xs ≡ found (opened k (words b)) k ls (first_circuit m ls)
  unfolding first_circuit
  one_outside = rw (first, k_is, m_is, b_is) refl

pub no_line : (n : ℕ) (d : Drafted) {xs : List (List ℕ)} → xs ≡ [] → inside n d xs ≡ Err (record { line = n; expected = Ending })
unfolding inside
no_line n d none = rw none refl

pub no_line_outside : (n : ℕ) {xs : List (List ℕ)} → xs ≡ [] → first_circuit n xs ≡ Ok None
unfolding first_circuit
no_line_outside n none = rw none refl

-- a line that is at fault, below lines that are not
pub at_fault : {m : Outcome} {xs ls : List (List ℕ)} {l : List ℕ} {n k : ℕ} (d : Drafted) (f : Fault) → m ≡ inside n d xs → k ≡ n → xs ≡ l ∷ ls → IsAtFault (statement k d (words (bare l))) k f → (f.expected ≡ Memory) ⊎ (m ≡ Err f)
at_fault d f m_is k_is first (line, inl memory) = inl memory
at_fault d f m_is k_is first (line, inr e) = inr (m_is ∙ one_line k_is refl first refl d ∙ rw e (ap (λ j. Err (record { line = j; expected = f.expected })) (sym line)))

pub at_fault_outside : {m : Outcome} {xs ls : List (List ℕ)} {l : List ℕ} {n k : ℕ} (f : Fault) → m ≡ first_circuit n xs → k ≡ n → xs ≡ l ∷ ls → IsAtFault (opened k (words (bare l))) k f → (f.expected ≡ Memory) ⊎ (m ≡ Err f)
at_fault_outside f m_is k_is first (line, inl memory) = inl memory
at_fault_outside f m_is k_is first (line, inr e) = inr (m_is ∙ one_outside k_is refl first refl ∙ rw e (ap (λ j. Err (record { line = j; expected = f.expected })) (sym line)))

-- the search for the line that is number i of those that begin with the word
module _ (word : List ℕ) {xs ls : List (List ℕ)} {l : List ℕ} {n k m : ℕ} (k_is : k ≡ n) (m_is : m ≡ n + 1) (first : xs ≡ l ∷ ls) where
  pub here : (b : Bool) → b ≡ begins_with word (words (bare l)) → b ≡ true → line_of word 0 n xs ≡ Some k
  unfolding line_of
  here b b_is so = rw (first, ← b_is, so, k_is) refl

  pub one_fewer : (i : ℕ) (b : Bool) → b ≡ begins_with word (words (bare l)) → b ≡ true → (i ≡ 0 → ⊥) → line_of word i n xs ≡ line_of word (i - 1) m ls
  unfolding line_of
  one_fewer i b b_is so some = rw (first, ← b_is, so, m_is, ne_eqb i 0 some) refl

  pub passed : (i : ℕ) (b : Bool) → b ≡ begins_with word (words (bare l)) → b ≡ false → line_of word i n xs ≡ line_of word i m ls
  unfolding line_of
  passed i b b_is not_so = rw (first, ← b_is, not_so, m_is) refl
