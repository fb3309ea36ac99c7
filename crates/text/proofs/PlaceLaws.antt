-- The lines that are kept of a circuit, against the lines of the text.
use Rattle.std.proofs.Common.{◌≡◌, ℕ, zero, suc, ◌+◌, ◌-◌, ◌≤◌, Bool, true, false, cond, List, [], ◌∷◌, ◌++◌, length, Some, None, Ok, Err, Result, sym, refl, ap, ◌∙◌, inl, inr, arith}
use Rattle.std.proofs.lemmas.Bool.{cases_lt, cases_Bool}
use Rattle.std.proofs.lemmas.List.{append-nil, append_assoc}
use Rattle.std.proofs.lemmas.Slice.Eq.{bytes_eq-Decides}
use Rattle.std.specs.Prelude.{codes}
use Rattle.std.specs.Str.{bytes_eq}
use Rattle.lines.specs.Words.{bare, words}
use Rattle.fields.specs.declared.fault.Expected.{Expected}
use Rattle.fields.specs.declared.fault.Expected.TheVariants.{Circuit as Opening}
use Rattle.text.specs.declared.draft.Progress.{Progress}
use Rattle.text.specs.declared.draft.Progress.TheVariants.{More, Done}
use Rattle.text.specs.Meaning.{Drafted, statement, title, entitled, opened, begins_with}
use Rattle.text.specs.Reader.{most_gates, most_registers, most_times, trimmed, Placed, no_places, Listed, marked, placed, begun, went_on, Found, stepped, by_lines, AreLinesOf, PlacesAreLines}
use Rattle.text.proofs.MeaningLaws.{here, one_fewer, passed}
use Rattle.text.proofs.ReaderLaws.{one_more, all_there, another}

-- the lines of a word that lines from n on add to those before, of which most are kept
record Added (word : List ℕ) (most n : ℕ) (ls : List (List ℕ)) (before after : List ℕ) : Type 0 where
  new : List ℕ
  is : after ≡ before ++ new
  lines : AreLinesOf word n ls new
  full : most ≤ length before → new ≡ []

none_added : (word : List ℕ) (most n : ℕ) (ls : List (List ℕ)) (before after : List ℕ) →
    after ≡ before → Added word most n ls before after
none_added word most n ls before after same = record {
  new = [];
  is = same ∙ sym (append-nil before);
  lines = λ k h. absurd (omega arith);
  full = λ h. refl;
}

module _ (word : List ℕ) (most n : ℕ) (l : List ℕ) (ls : List (List ℕ)) where
  -- a line that does not begin with the word
  later : begins_with word (words (bare l)) ≡ false →
      (new : List ℕ) → AreLinesOf word (n + 1) ls new → AreLinesOf word n (l ∷ ls) new
  later not_so new lines k h =
      lines k h ∙ sym (passed word {l = l} {n = n} refl refl refl k false (sym not_so) refl)

  -- and one that does
  now : begins_with word (words (bare l)) ≡ true →
      (new : List ℕ) → AreLinesOf word (n + 1) ls new → AreLinesOf word n (l ∷ ls) (n ∷ new)
  now so new lines zero h =
      sym (here word {ls = ls} {l = l} {n = n} {m = n + 1} refl refl refl true (sym so) refl)
  now so new lines (suc j) h =
      let e : suc j - 1 ≡ j = omega arith in
      let some : suc j ≡ 0 → ⊥ = λ z. omega arith in
      let next = one_fewer word {ls = ls} {l = l} {n = n} refl refl refl (suc j) true (sym so) refl some in
      lines j (omega arith) ∙ sym (rw e at next)

  line_added : (before after : List ℕ) →
      Added word most (n + 1) ls (marked word most n (words (bare l)) before) after →
      Added word most n (l ∷ ls) before after
  line_added before after a =
      elim (cases_Bool (begins_with word (words (bare l)))) [
        | inr not_so ↦
            let same = another word most n (words (bare l)) before false (sym not_so) refl in
            record {
              new = a.new;
              is = rw (← same) at a.is;
              lines = later not_so a.new a.lines;
              full = rw (← same) at a.full;
            }
        | inl so ↦ elim (cases_lt (length before) most) [
          | inl few ↦
              let more = one_more word most n (words (bare l)) before true (sym so) refl few in
              record {
                new = n ∷ a.new;
                is = (rw (← more) at a.is) ∙ append_assoc before (n ∷ []) a.new;
                lines = now so a.new a.lines;
                full = λ h. absurd (omega arith);
              }
          | inr full ↦
              let same = all_there word most n (words (bare l)) before true (sym so) refl full in
              let none : a.new ≡ [] = (rw (← same) at a.full) full in
              none_added word most n (l ∷ ls) before after
              ((rw (← same) at a.is) ∙ (ap (λ xs. before ++ xs) none ∙ append-nil before))
        ]
      ]

abbrev places_in : Placed → Found → Placed
places_in p (Ok (Some (x, n, ls))) = x.places
places_in p (Ok None) = p
places_in p (Err f) = p

-- one word, and where its lines are kept
module _ (word : List ℕ) (most : ℕ) (kept : Placed → List ℕ)
    (marks : (n : ℕ) (ws : List (List ℕ)) (p : Placed) → kept (placed n ws p) ≡ marked word most n ws (kept p)) where
  module _ (y : Listed) (m : ℕ) (rest : List (List ℕ)) where
    by_line : (p : Placed) (n : ℕ) (ls : List (List ℕ)) →
        ((x : Listed) → by_lines (Some x) (n + 1) ls ≡ Ok (Some (y, m, rest)) →
        Added word most (n + 1) ls (kept x.places) (kept y.places)) →
        (r : Result (Progress × Drafted) Expected) →
        stepped (went_on p r) n ls (λ s. by_lines s (n + 1) ls) ≡ Ok (Some (y, m, rest)) →
        Added word most (n + 1) ls (kept p) (kept y.places)
    by_line p n ls below (Ok (More, d)) e = below (record { draft = trimmed d; places = p }) e
    by_line p n ls below (Ok (Done, d)) e =
        none_added word most (n + 1) ls (kept p) (kept y.places) (ap (λ f. kept (places_in p f)) (sym e))
    by_line p n ls below (Err k) e = absurd cc

    lines_inside : (ls : List (List ℕ)) (n : ℕ) (x : Listed) →
        by_lines (Some x) n ls ≡ Ok (Some (y, m, rest)) → Added word most n ls (kept x.places) (kept y.places)
    unfolding by_lines
    lines_inside [] n x e = absurd cc
    lines_inside (l ∷ ls) n x e =
        let ws : List (List ℕ) = words (bare l) in
        line_added word most n l ls (kept x.places) (kept y.places)
        (rw (marks n ws x.places) at
        (by_line (placed n ws x.places) n ls (lines_inside ls (n + 1)) (statement n x.draft ws) e))

    module _ (empty : kept no_places ≡ [])
        (other : (w : List ℕ) → bytes_eq w (codes "circuit") ≡ true → bytes_eq w word ≡ false) where
      opening : (n : ℕ) (ls : List (List ℕ)) (w : List ℕ) (b : Bool) (t : Result (List ℕ) Expected) →
          bytes_eq w (codes "circuit") ≡ b →
          stepped (begun (cond b (entitled n t) (Err Opening))) n ls (λ s. by_lines s (n + 1) ls)
          ≡ Ok (Some (y, m, rest)) →
          (bytes_eq w word ≡ false) × AreLinesOf word (n + 1) ls (kept y.places)
      opening n ls w true (Ok name) is e =
          let a = lines_inside ls (n + 1) _ e in
          let same : kept y.places ≡ a.new = a.is ∙ ap (λ xs. xs ++ a.new) empty in
          (other w is, rw same a.lines)
      opening n ls w true (Err k) is e = absurd cc
      opening n ls w false t is e = absurd cc

      outside : (n : ℕ) (ls : List (List ℕ)) →
          (by_lines None (n + 1) ls ≡ Ok (Some (y, m, rest)) → AreLinesOf word (n + 1) ls (kept y.places)) →
          (ws : List (List ℕ)) →
          stepped (begun (opened n ws)) n ls (λ s. by_lines s (n + 1) ls) ≡ Ok (Some (y, m, rest)) →
          (begins_with word ws ≡ false) × AreLinesOf word (n + 1) ls (kept y.places)
      outside n ls below [] e = (refl, below e)
      outside n ls below (w ∷ ws) e = opening n ls w (bytes_eq w (codes "circuit")) (title ws) refl e

      lines_found : (ls : List (List ℕ)) (n : ℕ) →
          by_lines None n ls ≡ Ok (Some (y, m, rest)) → AreLinesOf word n ls (kept y.places)
      unfolding by_lines
      lines_found [] n e = absurd cc
      lines_found (l ∷ ls) n e =
          let o = outside n ls (lines_found ls (n + 1)) (words (bare l)) e in
          later word most n l ls o.0 (kept y.places) o.1

-- a line that begins a circuit begins with no other word
begins_circuit : (word : List ℕ) → bytes_eq (codes "circuit") word ≡ false → (w : List ℕ) →
    bytes_eq w (codes "circuit") ≡ true → bytes_eq w word ≡ false
begins_circuit word other w is = rw ((bytes_eq-Decides w (codes "circuit")).0 is) other

pub places_are_lines : PlacesAreLines
places_are_lines n m ls rest x e = (
  of_word (codes "gate") most_gates (λ p. p.gates) (λ k ws p. refl) refl refl,
  of_word (codes "register") most_registers (λ p. p.registers) (λ k ws p. refl) refl refl,
  of_word (codes "times") most_times (λ p. p.times) (λ k ws p. refl) refl refl,
)
  where
    of_word : (word : List ℕ) (most : ℕ) (kept : Placed → List ℕ) →
        ((n : ℕ) (ws : List (List ℕ)) (p : Placed) → kept (placed n ws p) ≡ marked word most n ws (kept p)) →
        kept no_places ≡ [] → bytes_eq (codes "circuit") word ≡ false → AreLinesOf word n ls (kept x.places)
    of_word word most kept marks empty other =
        lines_found word most kept marks x m rest empty (begins_circuit word other) ls n e
