-- A text that is cut short is no circuit.
use Rattle.std.proofs.Common.{◌≡◌, ℕ, zero, suc, ◌+◌, ◌-◌, ◌<◌, ◌≤◌, ◌⊎◌, Bool, true, false, cond, List, [], ◌∷◌, ◌++◌, map, codes, length, take, Some, None, Ok, Err, Option, Result, sym, refl, ap, ◌∙◌, inl, inr, append_assoc, suc-add, zero-add, length-append, arith}
use Rattle.std.specs.Fmt.{decimal}
use Rattle.std.specs.List.{list_all}
use Rattle.std.specs.Str.{bytes_eq}
use Rattle.std.proofs.lemmas.Bool.{and_parts, cases_Bool, cases_lt}
use Rattle.std.proofs.lemmas.List.{take-append-le}
use Rattle.circuit.specs.Lent.{gate_count, gate_in, register_count, register_in}
use Rattle.circuit.specs.Whole.{Whole}
use Rattle.lines.specs.Words.{blank, onto, words, inline, plain, lines}
use Rattle.fields.specs.Fields.{fields}
use Rattle.fields.specs.declared.fault.Expected.{Expected}
use Rattle.text.specs.declared.draft.Keyword.{Keyword}
use Rattle.text.specs.declared.draft.Keyword.TheVariants.{Circuit, Times, Register, Gate, End}
use Rattle.text.specs.declared.draft.Miscount.{Miscount}
use Rattle.text.specs.declared.draft.Progress.{Progress}
use Rattle.text.specs.declared.draft.Progress.TheVariants.{More, Done}
use Rattle.text.specs.declared.part.Part.{Part}
use Rattle.text.specs.declared.part.Part.TheVariants.{Gates, Registers, Times as TimesPart}
use Rattle.text.specs.Meaning.{Drafted, Outcome, meaning, row, said, statement, went, inside, found, first_circuit, fresh, with_gates, with_registers, with_times}
use Rattle.writing.specs.Written.{time_numbers, register_numbers, gate_words, line_of, rows, title_of, times_line, register_line, gate_line, end_line, written}
use Rattle.writing.specs.Again.{CutShort}
use Rattle.writing.proofs.LineLaws.{whole, Calm, IsWord, AreWords, spaced, bare_calm, calm_line, whole_line}
use Rattle.writing.proofs.FieldLaws.{words_decimal}
use Rattle.writing.proofs.NumberLaws.{gate_numbers}
use Rattle.writing.proofs.RowLaws.{more_gates, more_registers, more_times, gate_word, register_word, times_word, words_of_gate, gate_read, register_read}
use Rattle.writing.proofs.AgainLaws.{circuit_word, title_words, begin_read, gate_small, register_small, times_small, the_times_read}

-- no circuit
abbrev NoCircuit : Outcome → Type 0
NoCircuit (Ok None) = Unit {0}
NoCircuit (Ok (Some x)) = ⊥
NoCircuit (Err e) = Unit {0}

none_is : (o : Outcome) → NoCircuit o → (x : Drafted × ℕ × List (List ℕ)) → o ≡ Ok (Some x) → ⊥
none_is o h x e = let z : NoCircuit (Ok (Some x)) = rw e at h in z

-- no circuit, whatever was read before
abbrev Refused : List ℕ → Type 0
Refused p = (n : ℕ) (d : Drafted) → NoCircuit (inside n d (lines p))

-- all that is cut short before its last byte but one
abbrev Refuses : List ℕ → Type 0
Refuses t = (m : ℕ) → m + 1 < length t → Refused (take m t)

-- a line ends no circuit
abbrev GoesOn : Result (Progress × Drafted) Expected → Type 0
GoesOn (Ok (More, d)) = Unit {0}
GoesOn (Ok (Done, d)) = ⊥
GoesOn (Err e) = Unit {0}

goes_row : (put : List ℕ → Option Miscount → Drafted) (xs : List ℕ) (m : Option Miscount) (p : Part) (n : ℕ) (r : Result (Option (List ℕ)) Expected) → GoesOn (row put xs m p n r)
goes_row put xs m p n (Ok (Some ns)) = tt
goes_row put xs m p n (Ok None) = tt
goes_row put xs m p n (Err e) = tt

goes_said : (k : Option Keyword) (n : ℕ) (d : Drafted) (ws : List (List ℕ)) → (k ≡ Some End → ⊥) → GoesOn (said k n d ws)
goes_said (Some Gate) n d ws h = goes_row (with_gates d) d.gates d.miscount Gates n (fields true (Some 2) 0 7 ws)
goes_said (Some Register) n d ws h = goes_row (with_registers d) d.registers d.miscount Registers n (fields true None 0 3 ws)
goes_said (Some Times) n d ws h = goes_row (with_times d) d.times d.miscount TimesPart n (fields true None 0 5 ws)
goes_said (Some End) n d ws h = absurd (h refl)
goes_said (Some Circuit) n d ws h = tt
goes_said None n d ws h = tt

-- the last line, where it ends no circuit
last_inside : (o : Result (Progress × Drafted) Expected) (n : ℕ) → GoesOn o → NoCircuit (went o n [] (λ d'. inside (n + 1) d' []))
unfolding inside
last_inside (Ok (More, d)) n h = tt
last_inside (Ok (Done, d)) n h = h
last_inside (Err e) n h = tt

-- the last line, outside of a circuit
last_outside : (o : Result (Option Drafted) Expected) (n : ℕ) → NoCircuit (found o n [] (first_circuit (n + 1) []))
unfolding inside first_circuit
last_outside (Ok None) n = tt
last_outside (Ok (Some d)) n = tt
last_outside (Err e) n = tt

-- the first word of a line that begins with the byte b begins with b
abbrev pub Begins : ℕ → List (List ℕ) → Type 0
Begins b [] = ⊥
Begins b ([] ∷ ws) = ⊥
Begins b ((c ∷ w) ∷ ws) = c ≡ b

begins_onto : (b : ℕ) (ws : List (List ℕ)) → Begins b (onto b ws)
begins_onto b [] = refl
begins_onto b (w ∷ ws) = refl

pub begins : (b : ℕ) (bs : List ℕ) → blank b ≡ false → Begins b (words (b ∷ bs))
unfolding words
begins b [] e = rw e refl
begins b (c ∷ cs) e = elim (cases_Bool (blank c)) [ inl f ↦ simp (e, f) refl | inr f ↦ simp (e, f) (begins_onto b _) ]

pub calm_take : (k : ℕ) (l : List ℕ) → Calm l → Calm (take k l)
calm_take zero l c = refl
calm_take (suc k) [] c = refl
calm_take (suc k) (b ∷ l) c = let p = and_parts (whole b) (list_all whole l) c in rw (p.0, calm_take k l p.1) refl

pub lines_one : (b : ℕ) (l : List ℕ) → Calm (b ∷ l) → lines (b ∷ l) ≡ (b ∷ l) ∷ []
unfolding lines
lines_one b [] c = let p = and_parts (whole b) true c in let i = (and_parts (inline b) (plain b) p.0).0 in rw i refl
lines_one b (x ∷ l) c = let p = and_parts (whole b) (list_all whole (x ∷ l)) c in let i = (and_parts (inline b) (plain b) p.0).0 in rw (i, lines_one x l p.1) refl

part_outside : (l : List ℕ) (k n : ℕ) → Calm l → NoCircuit (first_circuit n (lines (take k l)))
unfolding first_circuit lines
part_outside l zero n c = tt
part_outside [] (suc k) n c = tt
part_outside (b ∷ l) (suc k) n c = rw (lines_one b (take k l) (calm_take (suc k) (b ∷ l) c)) (last_outside _ n)

take_past : (l more : List ℕ) (j : ℕ) → take (suc (length l + j)) (l ++ (10 ∷ more)) ≡ l ++ (10 ∷ take j more)
take_past [] more j = rw zero-add refl
take_past (b ∷ l) more j = rw suc-add (ap (λ t. b ∷ t) (take_past l more j))

-- a line of words, and more, cut short: inside the line, or behind it
module _ (w : List ℕ) (ws : List (List ℕ)) (word : IsWord w) (are : AreWords ws) (more : List ℕ) where
  abbrev pub the_line : List ℕ
  the_line = w ++ spaced ws

  pub cut : (m : ℕ) → m + 1 < length (line_of w ws ++ more) → (take m (line_of w ws ++ more) ≡ take m the_line) ⊎ ((j : ℕ) × (j + 1 < length more) × (take m (line_of w ws ++ more) ≡ line_of w ws ++ take j more))
  cut m short =
      let e = whole_line w ws word are more in
      let long : length (line_of w ws ++ more) ≡ length the_line + suc (length more) = ap length e ∙ length-append the_line (10 ∷ more) in
      elim (cases_lt (length the_line) m) [
        | inl past ↦
            let em : m ≡ suc (length the_line + (m - length the_line - 1)) = omega arith in
            inr (m - length the_line - 1, omega arith, ap (take m) e ∙ ap (λ i. take i (the_line ++ (10 ∷ more))) em ∙ take_past the_line more (m - length the_line - 1) ∙ sym (whole_line w ws word are (take (m - length the_line - 1) more)))
        | inr within ↦ inl (ap (take m) e ∙ take-append-le m the_line (10 ∷ more) within)
      ]

-- a line that begins with the byte b, and no such word is `end`
module _ (b : ℕ) (seen : blank b ≡ false) (other : (w : List ℕ) → meaning (b ∷ w) ≡ Some End → ⊥) where
  goes : (n : ℕ) (d : Drafted) (ws : List (List ℕ)) → Begins b ws → GoesOn (statement n d ws)
  unfolding statement
  goes n d [] h = absurd h
  goes n d ([] ∷ ws) h = absurd h
  goes n d ((c ∷ w) ∷ ws) h = goes_said (meaning (c ∷ w)) n d ws (λ e. other w (ap (λ x. meaning (x ∷ w)) (sym h) ∙ e))

  part_inside : (l : List ℕ) (k : ℕ) → Calm (b ∷ l) → Refused (take k (b ∷ l))
  unfolding inside lines
  part_inside l zero c n d = tt
  part_inside l (suc k) c n d =
      let t = calm_take (suc k) (b ∷ l) c in
      rw (lines_one b (take k l) t, bare_calm (b ∷ take k l) t) (last_inside _ n (goes n d (words (b ∷ take k l)) (begins b (take k l) seen)))

  line_refuses : (w : List ℕ) (ws : List (List ℕ)) → IsWord (b ∷ w) → AreWords ws → (add : Drafted → Drafted) → ((n : ℕ) (d : Drafted) (more : List ℕ) → inside n d (lines (line_of (b ∷ w) ws ++ more)) ≡ inside (n + 1) (add d) (lines more))
      → (more : List ℕ) → Refuses more → Refuses (line_of (b ∷ w) ws ++ more)
  line_refuses w ws word are add read more rest m short n d =
      elim (cut (b ∷ w) ws word are more m short) [
        | inl within ↦ rw within (part_inside (w ++ spaced ws) m (calm_line (b ∷ w) ws word are) n d)
        | inr (j, small, past) ↦ rw (past, read n d (take j more)) (rest j small (n + 1) (add d))
      ]

rows_refuse : (f : ℕ → List ℕ) (count : ℕ) → ((k : ℕ) → k < count → (more : List ℕ) → Refuses more → Refuses (f k ++ more)) → (j : ℕ) → j ≤ count → (more : List ℕ) → Refuses more → Refuses (rows f j ++ more)
rows_refuse f count one zero le more rest = rest
rows_refuse f count one (suc j) le more rest = rw (append_assoc (rows f j) (f j) more) (rows_refuse f count one j (omega arith) (f j ++ more) (one j (omega arith) more rest))

end_refuses : Refuses end_line
unfolding inside statement lines blank words
end_refuses zero h n d = tt
end_refuses (suc zero) h n d = tt
end_refuses (suc (suc zero)) h n d = tt
end_refuses (suc (suc (suc m))) h n d = absurd (omega arith)

-- a word that may be another keyword is not `end`
abbrev key_or : Keyword → Option Keyword → Keyword
key_or k (Some j) = j
key_or k None = k

not_end : (t : Bool) (k : Keyword) → (k ≡ End → ⊥) → cond t (Some k) None ≡ Some End → ⊥
not_end true k h e = h (ap (key_or k) e)
not_end false k h e = cc

module _ (gates registers times : List ℕ) (w : Whole gates registers times) where
  gates_refuse : (more : List ℕ) → Refuses more → Refuses (rows (λ k. gate_line (gate_in gates k)) (gate_count gates) ++ more)
  unfolding blank
  gates_refuse =
      rows_refuse (λ k. gate_line (gate_in gates k)) (gate_count gates)
      (λ k h. let g = gate_in gates k in let small = gate_small gates registers times w k in let table : g.table < 16 = omega (arith, (w.placed k h).2) in
      line_refuses 103 refl (λ v e. not_end (bytes_eq v (codes "ate")) Gate (λ f. cc) e) (codes "ate") (gate_words g) gate_word (words_of_gate g small table)
      (λ d. more_gates d (gate_numbers g)) (gate_read g small table))
      (gate_count gates) (omega arith)

  registers_refuse : (more : List ℕ) → Refuses more → Refuses (rows (λ r. register_line (register_in registers r)) (register_count registers) ++ more)
  unfolding blank
  registers_refuse =
      rows_refuse (λ r. register_line (register_in registers r)) (register_count registers)
      (λ r h. let small = register_small gates registers times w r in let ns = register_numbers (register_in registers r) in
      line_refuses 114 refl (λ v e. not_end (bytes_eq v (codes "egister")) Register (λ f. cc) e) (codes "egister") (map decimal ns) register_word (words_decimal ns small)
      (λ d. more_registers d ns) (λ n d more. register_read n d (register_in registers r) more small))
      (register_count registers) (omega arith)

  times_refuse : (more : List ℕ) → Refuses more → Refuses (times_line times ++ more)
  unfolding blank
  times_refuse =
      line_refuses 116 refl (λ v e. not_end (bytes_eq v (codes "imes")) Times (λ f. cc) e) (codes "imes") (map decimal (time_numbers times)) times_word
      (words_decimal (time_numbers times) (times_small gates registers times w)) (λ d. more_times d times) (the_times_read gates registers times w)

pub cut_short : CutShort
cut_short name gates registers times m n named w short x e = none_is (first_circuit n (lines (take m (written name gates registers times)))) none x e
  where
    rest : List ℕ
    rest = times_line times ++ (rows (λ r. register_line (register_in registers r)) (register_count registers) ++ (rows (λ k. gate_line (gate_in gates k)) (gate_count gates) ++ end_line))

    refuses : Refuses rest
    refuses = times_refuse gates registers times w _ (registers_refuse gates registers times w _ (gates_refuse gates registers times w _ end_refuses))

    none : NoCircuit (first_circuit n (lines (take m (written name gates registers times))))
    none =
        elim (cut (codes "circuit") (title_of name) circuit_word (title_words name named) rest m short) [
          | inl within ↦ rw within (part_outside (codes "circuit" ++ spaced (title_of name)) m n (calm_line (codes "circuit") (title_of name) circuit_word (title_words name named)))
          | inr (j, small, past) ↦ rw (past, begin_read n name (take j rest) named) (refuses j small (n + 1) (fresh name n))
        ]
