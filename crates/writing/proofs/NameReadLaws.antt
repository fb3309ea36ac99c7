-- A name that is read could be written.
use Rattle.std.proofs.Common.{◌≡◌, ℕ, ◌+◌, true, codes, List, [], ◌∷◌, Some, None, Ok, Err, Option, Result, refl, inl, inr, one-add}
use Rattle.std.specs.List.{list_all}
use Rattle.std.specs.Str.{bytes_eq}
use Rattle.std.proofs.lemmas.Bool.{and_parts, cases_Bool}
use Rattle.lines.specs.Words.{blank, onto, before, words, plain, bare}
use Rattle.fields.specs.Fields.{fields}
use Rattle.fields.specs.declared.fault.Expected.{Expected}
use Rattle.text.specs.declared.draft.Keyword.{Keyword}
use Rattle.text.specs.declared.draft.Keyword.TheVariants.{Circuit, Times, Register, Gate, End}
use Rattle.text.specs.declared.draft.Miscount.{Miscount}
use Rattle.text.specs.declared.draft.Progress.{Progress}
use Rattle.text.specs.declared.draft.Progress.TheVariants.{More, Done}
use Rattle.text.specs.declared.part.Part.{Part}
use Rattle.text.specs.declared.part.Part.TheVariants.{Gates, Registers, Times as TimesPart}
use Rattle.text.specs.Meaning.{Drafted, Outcome, meaning, row, said, statement, went, inside, printable, title, entitled, opened, found, first_circuit, with_gates, with_registers, with_times}
use Rattle.writing.specs.Written.{nameable}
use Rattle.writing.specs.Again.{NamesAreNameable}

-- what stands before a comment has no number sign, and neither has any of its words
abbrev ArePlain : List (List ℕ) → Type 0
ArePlain ws = list_all (list_all plain) ws ≡ true

bare_plain : (l : List ℕ) → list_all plain (bare l) ≡ true
bare_plain [] = refl
bare_plain (b ∷ bs) = elim (cases_Bool (plain b)) [ inl e ↦ simp (e, one-add) (bare_plain bs) | inr e ↦ simp e ]

onto_plain : (b : ℕ) (ws : List (List ℕ)) → plain b ≡ true → ArePlain ws → ArePlain (onto b ws)
onto_plain b [] p h = rw p refl
onto_plain b (w ∷ ws) p h = let q = and_parts (list_all plain w) (list_all (list_all plain) ws) h in rw (p, q.0, q.1) refl

before_plain : (b : ℕ) (bs : List ℕ) (ws : List (List ℕ)) → plain b ≡ true → ArePlain ws → ArePlain (before b bs ws)
before_plain b [] ws p h = rw (p, h) refl
before_plain b (c ∷ cs) ws p h = elim (cases_Bool (blank c)) [ inl e ↦ rw (e, p, h) refl | inr e ↦ rw e (onto_plain b ws p h) ]

words_plain : (s : List ℕ) → list_all plain s ≡ true → ArePlain (words s)
unfolding words
words_plain [] h = refl
words_plain (b ∷ bs) h =
    let p = and_parts (plain b) (list_all plain bs) h in
    elim (cases_Bool (blank b)) [ inl e ↦ rw e (words_plain bs p.1) | inr e ↦ rw e (before_plain b bs (words bs) p.0 (words_plain bs p.1)) ]

-- a name of such words
abbrev IsNamed : List ℕ → Type 0
IsNamed name = list_all nameable name ≡ true

both : (w : List ℕ) → list_all printable w ≡ true → list_all plain w ≡ true → IsNamed w
both [] h g = refl
both (b ∷ bs) h g =
    let p = and_parts (printable b) (list_all printable bs) h in
    let q = and_parts (plain b) (list_all plain bs) g in
    rw (p.0, q.0, both bs p.1 q.1) refl

abbrev TitleNamed : Result (List ℕ) Expected → Type 0
TitleNamed (Ok name) = IsNamed name
TitleNamed (Err e) = Unit {0}

title_named : (ws : List (List ℕ)) → ArePlain ws → TitleNamed (title ws)
title_named [] h = refl
title_named (w ∷ []) h = elim (cases_Bool (list_all printable w)) [ inl e ↦ rw e (both w e (and_parts (list_all plain w) true h).0) | inr e ↦ rw e tt ]
title_named (w ∷ (v ∷ ws)) h = tt

abbrev OpenedNamed : Result (Option Drafted) Expected → Type 0
OpenedNamed (Ok None) = Unit {0}
OpenedNamed (Ok (Some d)) = IsNamed d.name
OpenedNamed (Err e) = Unit {0}

entitled_named : (n : ℕ) (r : Result (List ℕ) Expected) → TitleNamed r → OpenedNamed (entitled n r)
entitled_named n (Ok name) h = h
entitled_named n (Err e) h = tt

opened_named : (n : ℕ) (ws : List (List ℕ)) → ArePlain ws → OpenedNamed (opened n ws)
opened_named n [] h = tt
opened_named n (w ∷ ws) h =
    let p = and_parts (list_all plain w) (list_all (list_all plain) ws) h in
    elim (cases_Bool (bytes_eq w (codes "circuit"))) [ inl e ↦ rw e (entitled_named n (title ws) (title_named ws p.1)) | inr e ↦ rw e tt ]

-- a line leaves the name as it is
abbrev Kept : List ℕ → Result (Progress × Drafted) Expected → Type 0
Kept name (Ok (p, d)) = d.name ≡ name
Kept name (Err e) = Unit {0}

row_kept : (d : Drafted) (put : List ℕ → Option Miscount → Drafted) (xs : List ℕ) (m : Option Miscount) (p : Part) (n : ℕ) (r : Result (Option (List ℕ)) Expected) → ((ys : List ℕ) (k : Option Miscount) → (put ys k).name ≡ d.name) → Kept d.name (row put xs m p n r)
row_kept d put xs m p n (Ok (Some ns)) h = h _ _
row_kept d put xs m p n (Ok None) h = h _ _
row_kept d put xs m p n (Err e) h = tt

said_kept : (k : Option Keyword) (n : ℕ) (d : Drafted) (ws : List (List ℕ)) → Kept d.name (said k n d ws)
said_kept (Some Gate) n d ws = row_kept d (with_gates d) d.gates d.miscount Gates n (fields true (Some 2) 0 7 ws) (λ ys k. refl)
said_kept (Some Register) n d ws = row_kept d (with_registers d) d.registers d.miscount Registers n (fields true None 0 3 ws) (λ ys k. refl)
said_kept (Some Times) n d ws = row_kept d (with_times d) d.times d.miscount TimesPart n (fields true None 0 5 ws) (λ ys k. refl)
said_kept (Some End) n d [] = refl
said_kept (Some End) n d (w ∷ ws) = tt
said_kept (Some Circuit) n d ws = tt
said_kept None n d ws = tt

statement_kept : (n : ℕ) (d : Drafted) (ws : List (List ℕ)) → Kept d.name (statement n d ws)
unfolding statement
statement_kept n d [] = refl
statement_kept n d (w ∷ ws) = said_kept (meaning w) n d ws

abbrev OutcomeNamed : Outcome → Type 0
OutcomeNamed (Ok None) = Unit {0}
OutcomeNamed (Ok (Some x)) = IsNamed x.0.name
OutcomeNamed (Err e) = Unit {0}

went_named : (name : List ℕ) (o : Result (Progress × Drafted) Expected) (n : ℕ) (ls : List (List ℕ)) (more : Drafted → Outcome) → IsNamed name → Kept name o → ((d : Drafted) → IsNamed d.name → OutcomeNamed (more d)) → OutcomeNamed (went o n ls more)
went_named name (Ok (More, d)) n ls more h k next = next d (rw k h)
went_named name (Ok (Done, d)) n ls more h k next = rw k h
went_named name (Err e) n ls more h k next = tt

inside_named : (n : ℕ) (d : Drafted) (ls : List (List ℕ)) → IsNamed d.name → OutcomeNamed (inside n d ls)
unfolding inside
inside_named n d [] h = tt
inside_named n d (l ∷ ls) h = went_named d.name (statement n d (words (bare l))) n ls (λ d'. inside (n + 1) d' ls) h (statement_kept n d (words (bare l))) (λ d' h'. inside_named (n + 1) d' ls h')

found_named : (o : Result (Option Drafted) Expected) (n : ℕ) (ls : List (List ℕ)) (more : Outcome) → OpenedNamed o → OutcomeNamed more → OutcomeNamed (found o n ls more)
found_named (Ok None) n ls more h m = m
found_named (Ok (Some d)) n ls more h m = inside_named (n + 1) d ls h
found_named (Err e) n ls more h m = tt

outcome_named : (n : ℕ) (ls : List (List ℕ)) → OutcomeNamed (first_circuit n ls)
unfolding first_circuit
outcome_named n [] = tt
outcome_named n (l ∷ ls) = found_named (opened n (words (bare l))) n ls (first_circuit (n + 1) ls) (opened_named n (words (bare l)) (words_plain (bare l) (bare_plain l))) (outcome_named (n + 1) ls)

pub names_are_nameable : NamesAreNameable
names_are_nameable n m ls rest d is = let h : OutcomeNamed (Ok (Some (d, m, rest))) = rw is at (outcome_named n ls) in h
