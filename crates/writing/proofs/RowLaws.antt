-- Laws of written lines: what each adds to the circuit that is read.
use Rattle.std.proofs.Common.{◌≡◌, ℕ, zero, suc, ◌+◌, ◌*◌, ◌<◌, ◌≤◌, true, false, List, [], ◌∷◌, ◌++◌, map, codes, take, Some, None, Ok, refl, ap, ◌∙◌, append_assoc, arith}
use Rattle.std.specs.Fmt.{decimal}
use Rattle.circuit.specs.declared.gate.Gate.{Gate}
use Rattle.circuit.specs.declared.register.Register.{Register}
use Rattle.lines.specs.Words.{blank, lines}
use Rattle.fields.specs.Fields.{fields}
use Rattle.text.specs.Meaning.{Drafted, statement, inside, with_gates, with_registers, with_times}
use Rattle.writing.specs.Written.{time_numbers, register_numbers, gate_words, rows, times_line, register_line, gate_line, end_line}
use Rattle.writing.proofs.LineLaws.{IsWord, AreWords, line_inside}
use Rattle.writing.proofs.FieldLaws.{AreSmall, word_decimal, words_decimal, field_decimal, fields_decimal, word_name, field_name}
use Rattle.writing.proofs.NumberLaws.{gate_numbers}

-- a circuit as it is read, with more numbers
abbrev pub more_gates : Drafted → List ℕ → Drafted
more_gates d xs = with_gates d (d.gates ++ xs) d.miscount

abbrev pub more_registers : Drafted → List ℕ → Drafted
more_registers d xs = with_registers d (d.registers ++ xs) d.miscount

abbrev pub more_times : Drafted → List ℕ → Drafted
more_times d xs = with_times d (d.times ++ xs) d.miscount

pub gate_word : IsWord (codes "gate")
unfolding blank
gate_word = refl

pub register_word : IsWord (codes "register")
unfolding blank
register_word = refl

pub times_word : IsWord (codes "times")
unfolding blank
times_word = refl

pub end_word : IsWord (codes "end")
unfolding blank
end_word = refl

pub times_read : (n : ℕ) (d : Drafted) (times more : List ℕ) → AreSmall (time_numbers times) → inside n d (lines (times_line times ++ more)) ≡ inside (n + 1) (more_times d (time_numbers times)) (lines more)
unfolding statement
times_read n d times more small =
    line_inside (codes "times") (map decimal (time_numbers times)) times_word (words_decimal (time_numbers times) small) n d more
    ∙ rw (fields_decimal None 0 (time_numbers times) small) refl

pub register_read : (n : ℕ) (d : Drafted) (r : Register) (more : List ℕ) → AreSmall (register_numbers r) → inside n d (lines (register_line r ++ more)) ≡ inside (n + 1) (more_registers d (register_numbers r)) (lines more)
unfolding statement
register_read n d r more small =
    line_inside (codes "register") (map decimal (register_numbers r)) register_word (words_decimal (register_numbers r) small) n d more
    ∙ rw (fields_decimal None 0 (register_numbers r) small) refl

module _ (g : Gate) (small : AreSmall (gate_numbers g)) (table : g.table < 16) where
  pub words_of_gate : AreWords (gate_words g)
  words_of_gate = rw (word_decimal g.one small.0, word_decimal g.two small.1.0, word_name g.table table, words_decimal (g.least_one ∷ g.greatest_one ∷ g.least_two ∷ g.greatest_two ∷ []) small.1.1.1) refl

  gate_fields : fields true (Some 2) 0 7 (gate_words g) ≡ Ok (Some (gate_numbers g))
  unfolding fields
  gate_fields = rw (field_decimal false g.one small.0, field_decimal false g.two small.1.0, field_name g.table table, fields_decimal (Some 2) 3 (g.least_one ∷ g.greatest_one ∷ g.least_two ∷ g.greatest_two ∷ []) small.1.1.1) refl

  pub gate_read : (n : ℕ) (d : Drafted) (more : List ℕ) → inside n d (lines (gate_line g ++ more)) ≡ inside (n + 1) (more_gates d (gate_numbers g)) (lines more)
  unfolding statement
  gate_read n d more = line_inside (codes "gate") (gate_words g) gate_word words_of_gate n d more ∙ rw gate_fields refl

pub end_read : (n : ℕ) (d : Drafted) (more : List ℕ) → inside n d (lines (end_line ++ more)) ≡ Ok (Some (d, n + 1, lines more))
unfolding statement
end_read n d more = line_inside (codes "end") [] end_word refl n d more

-- rows that add m numbers each, as they stand in xs
module _ (f : ℕ → List ℕ) (add : Drafted → List ℕ → Drafted) (numbers : ℕ → List ℕ) (m count : ℕ) (xs : List ℕ)
    (none : (d : Drafted) → add d [] ≡ d) (then : (d : Drafted) (ys zs : List ℕ) → add (add d ys) zs ≡ add d (ys ++ zs))
    (next : (k : ℕ) → k < count → take (m * suc k) xs ≡ take (m * k) xs ++ numbers k)
    (row : (k n : ℕ) (d : Drafted) (more : List ℕ) → k < count → inside n d (lines (f k ++ more)) ≡ inside (n + 1) (add d (numbers k)) (lines more)) where
  pub rows_read : (j : ℕ) → j ≤ count → (n : ℕ) (d : Drafted) (more : List ℕ) → inside n d (lines (rows f j ++ more)) ≡ inside (n + j) (add d (take (m * j) xs)) (lines more)
  rows_read zero le n d more =
      let e : n + 0 ≡ n = omega arith in
      let z : m * 0 ≡ 0 = omega arith in
      rw (e, z, none d) refl
  rows_read (suc j) le n d more =
      let e : n + j + 1 ≡ n + suc j = omega arith in
      ap (λ t. inside n d (lines t)) (append_assoc (rows f j) (f j) more)
      ∙ rows_read j (omega arith) n d (f j ++ more)
      ∙ row j (n + j) (add d (take (m * j) xs)) more (omega arith)
      ∙ rw (e, then d (take (m * j) xs) (numbers j), next j (omega arith)) refl
