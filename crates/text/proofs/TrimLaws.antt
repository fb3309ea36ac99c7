-- What is read line by line, in memory that the largest circuit takes, against what a text means.
use Rattle.std.proofs.Common.{◌≡◌, ℕ, zero, suc, ◌+◌, ◌*◌, Bool, true, false, cond, List, [], ◌∷◌, ◌++◌, take, Some, None, Ok, Err, Option, Result, refl, ap, ◌∙◌}
use Rattle.lines.specs.Words.{bare, words}
use Rattle.fields.specs.Fields.{fields}
use Rattle.fields.specs.declared.fault.Expected.{Expected}
use Rattle.fields.specs.declared.fault.Expected.TheVariants.{Circuit as Opening}
use Rattle.std.specs.Str.{bytes_eq}
use Rattle.std.specs.Prelude.{codes}
use Rattle.text.specs.declared.draft.Keyword.{Keyword}
use Rattle.text.specs.declared.draft.Keyword.TheVariants.{Circuit, Times, Register, Gate, End}
use Rattle.text.specs.declared.part.Part.TheVariants.{Gates, Registers, Times as TimesPart}
use Rattle.text.specs.declared.draft.Progress.{Progress}
use Rattle.text.specs.declared.draft.Progress.TheVariants.{More, Done}
use Rattle.text.specs.Meaning.{Drafted, Outcome, meaning, with_gates, with_registers, with_times, fresh, row, said, statement, went, inside, title, entitled, opened, found, first_circuit}
use Rattle.text.specs.Reader.{most_gates, most_registers, most_times, trimmed, Placed, no_places, placed, begun, went_on, stepped, by_lines, without_places, trimmed_outcome, ByLines}

-- what is taken of a list's beginning, with more behind it
take_again : {A : Type 0} (m : ℕ) (xs ys : List A) → take m (take m xs ++ ys) ≡ take m (xs ++ ys)
take_again zero xs ys = refl
take_again (suc m) [] ys = refl
take_again (suc m) (x ∷ xs) ys = ap (λ zs. x ∷ zs) (take_again m xs ys)

take_twice : {A : Type 0} (m : ℕ) (xs : List A) → take m (take m xs) ≡ take m xs
take_twice zero xs = refl
take_twice (suc m) [] = refl
take_twice (suc m) (x ∷ xs) = ap (λ zs. x ∷ zs) (take_twice m xs)

-- numbers that are cut off at the lengths a, b and c before a line is read are cut off after it too
module _ (a b c : ℕ) where
  abbrev cut : Drafted → Drafted
  cut d = record d {
    gates = take a d.gates;
    registers = take b d.registers;
    times = take c d.times;
  }

  abbrev cut_result : Result (Progress × Drafted) Expected → Result (Progress × Drafted) Expected
  cut_result (Ok (q, d)) = Ok (q, cut d)
  cut_result (Err e) = Err e

  gates_cut : (n : ℕ) (d : Drafted) (x : Result (Option (List ℕ)) Expected) →
      cut_result (row (with_gates (cut d)) (take a d.gates) d.miscount Gates n x)
      ≡ cut_result (row (with_gates d) d.gates d.miscount Gates n x)
  gates_cut n d (Ok (Some ns)) = rw (take_again a d.gates ns, take_twice b d.registers, take_twice c d.times)
  gates_cut n d (Ok None) = rw (take_twice a d.gates, take_twice b d.registers, take_twice c d.times)
  gates_cut n d (Err e) = refl

  registers_cut : (n : ℕ) (d : Drafted) (x : Result (Option (List ℕ)) Expected) →
      cut_result (row (with_registers (cut d)) (take b d.registers) d.miscount Registers n x)
      ≡ cut_result (row (with_registers d) d.registers d.miscount Registers n x)
  registers_cut n d (Ok (Some ns)) = rw (take_again b d.registers ns, take_twice a d.gates, take_twice c d.times)
  registers_cut n d (Ok None) = rw (take_twice a d.gates, take_twice b d.registers, take_twice c d.times)
  registers_cut n d (Err e) = refl

  times_cut : (n : ℕ) (d : Drafted) (x : Result (Option (List ℕ)) Expected) →
      cut_result (row (with_times (cut d)) (take c d.times) d.miscount TimesPart n x)
      ≡ cut_result (row (with_times d) d.times d.miscount TimesPart n x)
  times_cut n d (Ok (Some ns)) = rw (take_again c d.times ns, take_twice a d.gates, take_twice b d.registers)
  times_cut n d (Ok None) = rw (take_twice a d.gates, take_twice b d.registers, take_twice c d.times)
  times_cut n d (Err e) = refl

  said_cut : (k : Option Keyword) (n : ℕ) (d : Drafted) (ws : List (List ℕ)) →
      cut_result (said k n (cut d) ws) ≡ cut_result (said k n d ws)
  said_cut (Some Gate) n d ws = gates_cut n d (fields true (Some 2) 0 7 ws)
  said_cut (Some Register) n d ws = registers_cut n d (fields true None 0 3 ws)
  said_cut (Some Times) n d ws = times_cut n d (fields true None 0 5 ws)
  said_cut (Some End) n d [] = rw (take_twice a d.gates, take_twice b d.registers, take_twice c d.times)
  said_cut (Some End) n d (w ∷ ws) = refl
  said_cut (Some Circuit) n d ws = refl
  said_cut None n d ws = refl

  statement_cut : (n : ℕ) (d : Drafted) (ws : List (List ℕ)) →
      cut_result (statement n (cut d) ws) ≡ cut_result (statement n d ws)
  unfolding statement
  statement_cut n d [] = rw (take_twice a d.gates, take_twice b d.registers, take_twice c d.times)
  statement_cut n d (w ∷ ws) = said_cut (meaning w) n d ws

abbrev trimmed_result : Result (Progress × Drafted) Expected → Result (Progress × Drafted) Expected
trimmed_result (Ok (q, d)) = Ok (q, trimmed d)
trimmed_result (Err e) = Err e

trimmed_again : (n : ℕ) (d : Drafted) (ws : List (List ℕ)) →
    trimmed_result (statement n (trimmed d) ws) ≡ trimmed_result (statement n d ws)
trimmed_again = statement_cut (7 * most_gates) (3 * most_registers) (5 * most_times)

-- one line of a circuit, with the lines below it
module _ (p : Placed) (n : ℕ) (ls : List (List ℕ)) where
  abbrev after : Result (Progress × Drafted) Expected → Outcome
  after (Ok (More, d)) = without_places (by_lines (Some (record { draft = d; places = p })) (n + 1) ls)
  after (Ok (Done, d)) = Ok (Some (d, n + 1, ls))
  after (Err e) = Err (record { line = n; expected = e })

  by_line : (r : Result (Progress × Drafted) Expected) →
      without_places (stepped (went_on p r) n ls (λ s. by_lines s (n + 1) ls)) ≡ after (trimmed_result r)
  by_line (Ok (More, d)) = refl
  by_line (Ok (Done, d)) = refl
  by_line (Err e) = refl

  as_whole :
      ((d : Drafted) →
      without_places (by_lines (Some (record { draft = trimmed d; places = p })) (n + 1) ls)
      ≡ trimmed_outcome (inside (n + 1) d ls)) →
      (r : Result (Progress × Drafted) Expected) →
      after (trimmed_result r) ≡ trimmed_outcome (went r n ls (λ d. inside (n + 1) d ls))
  as_whole below (Ok (More, d)) = below d
  as_whole below (Ok (Done, d)) = refl
  as_whole below (Err e) = refl

inside_by_lines : (ls : List (List ℕ)) (n : ℕ) (d : Drafted) (p : Placed) →
    without_places (by_lines (Some (record { draft = trimmed d; places = p })) n ls)
    ≡ trimmed_outcome (inside n d ls)
unfolding by_lines inside
inside_by_lines [] n d p = refl
inside_by_lines (l ∷ ls) n d p =
    let q : Placed = placed n (words (bare l)) p in
    by_line q n ls (statement n (trimmed d) (words (bare l)))
    ∙ (ap (after q n ls) (trimmed_again n d (words (bare l)))
    ∙ as_whole q n ls (λ d'. inside_by_lines ls (n + 1) d' q) (statement n d (words (bare l))))

-- a line outside of a circuit
opening : (n : ℕ) (ls : List (List ℕ)) (b : Bool) (t : Result (List ℕ) Expected) →
    without_places (stepped (begun (cond b (entitled n t) (Err Opening))) n ls (λ s. by_lines s (n + 1) ls))
    ≡ trimmed_outcome (found (cond b (entitled n t) (Err Opening)) n ls (first_circuit (n + 1) ls))
opening n ls true (Ok name) = inside_by_lines ls (n + 1) (fresh name n) no_places
opening n ls true (Err e) = refl
opening n ls false t = refl

outside : (n : ℕ) (ls : List (List ℕ)) →
    without_places (by_lines None (n + 1) ls) ≡ trimmed_outcome (first_circuit (n + 1) ls) → (ws : List (List ℕ)) →
    without_places (stepped (begun (opened n ws)) n ls (λ s. by_lines s (n + 1) ls))
    ≡ trimmed_outcome (found (opened n ws) n ls (first_circuit (n + 1) ls))
outside n ls below [] = below
outside n ls below (w ∷ ws) = opening n ls (bytes_eq w (codes "circuit")) (title ws)

pub reads_by_lines : ByLines
unfolding by_lines first_circuit
reads_by_lines n [] = refl
reads_by_lines n (l ∷ ls) = outside n ls (reads_by_lines (n + 1) ls) (words (bare l))
