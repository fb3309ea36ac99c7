-- What is written is read again.
use Rattle.std.proofs.Common.{◌≡◌, ℕ, ◌+◌, ◌*◌, ◌^◌, ◌<◌, ◌≤◌, true, List, [], ◌∷◌, ◌++◌, codes, take, get_or, Some, Ok, sym, refl, ap, ◌∙◌, append_assoc, append-nil, arith}
use Rattle.std.specs.List.{list_all}
use Rattle.std.proofs.lemmas.Bool.{and_parts, ne_eqb}
use Rattle.std.proofs.lemmas.List.{take_all}
use Rattle.circuit.specs.Checked.{of}
use Rattle.circuit.specs.Lent.{gate_count, gate_in, register_count, register_in}
use Rattle.circuit.specs.Whole.{Whole}
use Rattle.circuit.specs.declared.circuit.Circuit.{Circuit}
use Rattle.circuit.proofs.Known.{whole_of}
use Rattle.circuit.proofs.Joined.{small_gates, small_registers, small_times}
use Rattle.lines.specs.Words.{blank, plain, lines}
use Rattle.text.specs.Meaning.{Drafted, inside, first_circuit, fresh, printable, title}
use Rattle.writing.specs.Written.{time_numbers, register_numbers, line_of, rows, title_of, times_line, register_line, gate_line, end_line, written, nameable}
use Rattle.writing.specs.Again.{read_again, WrittenIsRead, IsReadAgain}
use Rattle.writing.proofs.LineLaws.{dark, IsWord, AreWords, line_outside}
use Rattle.writing.proofs.NameLaws.{printed}
use Rattle.writing.proofs.FieldLaws.{AreSmall}
use Rattle.writing.proofs.NumberLaws.{gate_numbers, next_gate, next_register, times_listed}
use Rattle.writing.proofs.RowLaws.{more_gates, more_registers, more_times, times_read, register_read, gate_read, end_read, rows_read}

-- five parts before more
pub parted : (a b c d e more : List ℕ) → (a ++ (b ++ (c ++ (d ++ e)))) ++ more ≡ a ++ (b ++ (c ++ (d ++ (e ++ more))))
parted a b c d e more =
    append_assoc a (b ++ (c ++ (d ++ e))) more
    ∙ ap (λ t. a ++ t) (append_assoc b (c ++ (d ++ e)) more
    ∙ ap (λ t. b ++ t) (append_assoc c (d ++ e) more
    ∙ ap (λ t. c ++ t) (append_assoc d e more)))

-- a name that could be read is one word, or none
dark_name : (b : ℕ) → nameable b ≡ true → dark b ≡ true
unfolding blank
dark_name b h =
    let p = printed b h in
    let q = (and_parts (printable b) (plain b) h).1 in
    simp (ne_eqb b 32 (λ e. omega arith), ne_eqb b 9 (λ e. omega arith), ne_eqb b 13 (λ e. omega arith), ne_eqb b 10 (λ e. omega arith), q)

dark_names : (name : List ℕ) → list_all nameable name ≡ true → list_all dark name ≡ true
dark_names [] h = refl
dark_names (b ∷ bs) h = let p = and_parts (nameable b) (list_all nameable bs) h in rw (dark_name b p.0, dark_names bs p.1) refl

print_names : (name : List ℕ) → list_all nameable name ≡ true → list_all printable name ≡ true
print_names [] h = refl
print_names (b ∷ bs) h =
    let p = and_parts (nameable b) (list_all nameable bs) h in
    let q = and_parts (printable b) (plain b) p.0 in
    rw (q.0, print_names bs p.1) refl

pub title_words : (name : List ℕ) → list_all nameable name ≡ true → AreWords (title_of name)
title_words [] h = refl
title_words (b ∷ bs) h = rw (dark_names (b ∷ bs) h) refl

title_read : (name : List ℕ) → list_all nameable name ≡ true → title (title_of name) ≡ Ok name
title_read [] h = refl
title_read (b ∷ bs) h = rw (print_names (b ∷ bs) h) refl

pub circuit_word : IsWord (codes "circuit")
unfolding blank
circuit_word = refl

pub begin_read : (n : ℕ) (name more : List ℕ) → list_all nameable name ≡ true → first_circuit n (lines (line_of (codes "circuit") (title_of name) ++ more)) ≡ inside (n + 1) (fresh name n) (lines more)
begin_read n name more h = line_outside (codes "circuit") (title_of name) circuit_word (title_words name h) n more ∙ rw (title_read name h) refl

module _ (gates registers times : List ℕ) (w : Whole gates registers times) where
  low : (x : ℕ) → x ≤ 1000000 → x < 2 ^ 32
  low x h = omega arith

  pub gate_small : (k : ℕ) → AreSmall (gate_numbers (gate_in gates k))
  gate_small k = let at : (i : ℕ) → get_or gates i 0 < 2 ^ 32 = λ i. low (get_or gates i 0) (small_gates gates registers times w.small i) in (at _, (at _, (at _, (at _, (at _, (at _, (at _, tt)))))))

  pub register_small : (r : ℕ) → AreSmall (register_numbers (register_in registers r))
  register_small r = let at : (i : ℕ) → get_or registers i 0 < 2 ^ 32 = λ i. low (get_or registers i 0) (small_registers gates registers times w.small i) in (at _, (at _, (at _, tt)))

  pub times_small : AreSmall (time_numbers times)
  times_small = let at : (i : ℕ) → get_or times i 0 < 2 ^ 32 = λ i. low (get_or times i 0) (small_times gates registers times w.small i) in (at _, (at _, (at _, (at _, (at _, tt)))))

  all_gates : take (7 * gate_count gates) gates ≡ gates
  all_gates = take_all (7 * gate_count gates) gates (omega (arith, w.shaped.0))

  all_registers : take (3 * register_count registers) registers ≡ registers
  all_registers = take_all (3 * register_count registers) registers (omega (arith, w.shaped.1))

  gates_read : (n : ℕ) (d : Drafted) (more : List ℕ) → inside n d (lines (rows (λ k. gate_line (gate_in gates k)) (gate_count gates) ++ more)) ≡ inside (n + gate_count gates) (more_gates d gates) (lines more)
  gates_read n d more =
      rows_read (λ k. gate_line (gate_in gates k)) more_gates (λ k. gate_numbers (gate_in gates k)) 7 (gate_count gates) gates
      (λ d. rw append-nil refl) (λ d ys zs. rw append_assoc refl)
      (λ k h. next_gate k gates (omega (arith, h)))
      (λ k n d more h. gate_read (gate_in gates k) (gate_small k) (omega (arith, (w.placed k h).2)) n d more)
      (gate_count gates) (omega arith) n d more
      ∙ rw all_gates refl

  registers_read : (n : ℕ) (d : Drafted) (more : List ℕ) → inside n d (lines (rows (λ r. register_line (register_in registers r)) (register_count registers) ++ more)) ≡ inside (n + register_count registers) (more_registers d registers) (lines more)
  registers_read n d more =
      rows_read (λ r. register_line (register_in registers r)) more_registers (λ r. register_numbers (register_in registers r)) 3 (register_count registers) registers
      (λ d. rw append-nil refl) (λ d ys zs. rw append_assoc refl)
      (λ r h. next_register r registers (omega (arith, h)))
      (λ r n d more h. register_read n d (register_in registers r) more (register_small r))
      (register_count registers) (omega arith) n d more
      ∙ rw all_registers refl

  pub the_times_read : (n : ℕ) (d : Drafted) (more : List ℕ) → inside n d (lines (times_line times ++ more)) ≡ inside (n + 1) (more_times d times) (lines more)
  the_times_read n d more = times_read n d times more times_small ∙ ap (λ xs. inside (n + 1) (more_times d xs) (lines more)) (times_listed times w.shaped.2)

pub written_is_read : WrittenIsRead
written_is_read name gates registers times more n named w =
    let r = register_count registers in
    let g = gate_count gates in
    let a : List ℕ = line_of (codes "circuit") (title_of name) in
    let b : List ℕ = rows (λ r. register_line (register_in registers r)) (register_count registers) in
    let c : List ℕ = rows (λ k. gate_line (gate_in gates k)) (gate_count gates) in
    let e : n + 1 + 1 + r + g + 1 ≡ n + (3 + r + g) = omega arith in
    ap (λ t. first_circuit n (lines t)) (parted a (times_line times) b c end_line more)
    ∙ begin_read n name (times_line times ++ (b ++ (c ++ (end_line ++ more)))) named
    ∙ the_times_read gates registers times w (n + 1) (fresh name n) (b ++ (c ++ (end_line ++ more)))
    ∙ registers_read gates registers times w (n + 1 + 1) _ (c ++ (end_line ++ more))
    ∙ gates_read gates registers times w (n + 1 + 1 + r) _ (end_line ++ more)
    ∙ end_read (n + 1 + 1 + r + g) (read_again name n gates registers times) more
    ∙ ap (λ m. Ok (Some (read_again name n gates registers times, m, lines more))) e

-- the text of a circuit alone
pub read_alone : (name : List ℕ) (c : Circuit) (t : List ℕ) → list_all nameable name ≡ true → t ≡ of c (written name) → IsReadAgain name c t
unfolding lines
read_alone name c t named is = ap (λ s. first_circuit 1 (lines s)) (is ∙ sym (append-nil (of c (written name)))) ∙ written_is_read name c.gates.now c.registers.now c.times.now [] 1 named (whole_of c)
