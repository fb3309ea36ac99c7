-- What is reported is read again.
use Rattle.std.proofs.Common.{◌≡◌, ℕ, ◌+◌, true, false, List, [], ◌∷◌, ◌++◌, map, codes, length, Some, Ok, sym, refl, ap, ◌∙◌, append_assoc, append-nil, arith}
use Rattle.std.specs.Fmt.{signed_decimal}
use Rattle.std.specs.List.{list_all}
use Rattle.std.specs.Str.{bytes_eq}
use Rattle.std.proofs.lemmas.Bool.{and_parts}
use Rattle.circuit.specs.Checked.{of}
use Rattle.circuit.specs.declared.circuit.Circuit.{Circuit}
use Rattle.circuit.proofs.Known.{whole_of}
use Rattle.lines.specs.Words.{lines}
use Rattle.writing.specs.Written.{line_of, end_line, written, nameable}
use Rattle.writing.specs.Again.{read_again, line_count}
use Rattle.writing.proofs.LineLaws.{IsWord, AreWords, lines_line, words_line}
use Rattle.writing.proofs.RowLaws.{end_word}
use Rattle.writing.proofs.AgainLaws.{written_is_read}
use Rattle.claim.specs.Claims.{text_of, word_of, numbers_of, claim_line, claim_fits}
use Rattle.claim.specs.declared.kinds.Claim.{Claim}
use Rattle.claim.specs.declared.kinds.Claim.TheVariants.{Passed, TooLate, TooEarly, From, Through, Margins, Smallest, Period}
use Rattle.claim.proofs.ClaimLaws.{word_of_claim, words_of_claim, claim_back}
use Rattle.report.specs.declared.reading.Said.TheVariants.{Claim as Claims}
use Rattle.report.specs.Reported.{claims_text, reported}
use Rattle.report.specs.Meaning.{said, went, claims_from, first_report, behind, under}
use Rattle.report.specs.Again.{report_lines, ReportIsRead, IsReportedAgain}
use Rattle.report.proofs.MeaningLaws.{one_line}

-- a line of words behind a circuit
line_behind : (w : List ℕ) (ws : List (List ℕ)) → IsWord w → AreWords ws → (n : ℕ) (cs : List Claim) (more : List ℕ) → claims_from n cs (lines (line_of w ws ++ more)) ≡ went (said (w ∷ ws)) n cs (lines more) (λ cs'. claims_from (n + 1) cs' (lines more))
line_behind w ws word are n cs more =
    one_line refl refl (lines_line w ws word are more) refl cs
    ∙ ap (λ x. went (said x) n cs (lines more) (λ cs'. claims_from (n + 1) cs' (lines more))) (words_line w ws word are)

-- no claim begins with the word of the end
no_end : (c : Claim) → bytes_eq (text_of (word_of c)) (codes "end") ≡ false
no_end Passed = refl
no_end (TooLate s) = refl
no_end (TooEarly s) = refl
no_end (From s) = refl
no_end (Through s i) = refl
no_end (Margins s h) = refl
no_end (Smallest s h) = refl
no_end (Period p) = refl

said_claim : (c : Claim) → claim_fits c ≡ true → said (text_of (word_of c) ∷ map signed_decimal (numbers_of c)) ≡ Ok (Claims c)
said_claim c h = rw (no_end c, claim_back c h) refl

pub claim_read : (c : Claim) → claim_fits c ≡ true → (n : ℕ) (cs : List Claim) (more : List ℕ) → claims_from n cs (lines (claim_line c ++ more)) ≡ claims_from (n + 1) (cs ++ c ∷ []) (lines more)
claim_read c h n cs more =
    line_behind (text_of (word_of c)) (map signed_decimal (numbers_of c)) (word_of_claim (word_of c)) (words_of_claim c h) n cs more
    ∙ rw (said_claim c h) refl

end_read : (n : ℕ) (cs : List Claim) (more : List ℕ) → claims_from n cs (lines (end_line ++ more)) ≡ Ok (cs, n + 1, lines more)
end_read n cs more = line_behind (codes "end") [] end_word refl n cs more

pub claims_read : (claims : List Claim) → list_all claim_fits claims ≡ true → (n : ℕ) (cs : List Claim) (more : List ℕ) → claims_from n cs (lines (claims_text claims ++ more)) ≡ Ok (cs ++ claims, n + length claims + 1, lines more)
claims_read [] h n cs more =
    let e : n + 1 ≡ n + 0 + 1 = omega arith in
    end_read n cs more ∙ ap (λ k. Ok (cs, k, lines more)) e ∙ ap (λ l. Ok (l, n + 0 + 1, lines more)) (sym (append-nil cs))
claims_read (c ∷ claims) h n cs more =
    let p = and_parts (claim_fits c) (list_all claim_fits claims) h in
    let e : n + 1 + length claims + 1 ≡ n + length (c ∷ claims) + 1 = omega arith in
    ap (λ t. claims_from n cs (lines t)) (append_assoc (claim_line c) (claims_text claims) more)
    ∙ claim_read c p.0 n cs (claims_text claims ++ more)
    ∙ claims_read claims p.1 (n + 1) (cs ++ c ∷ []) more
    ∙ rw (append_assoc, e) refl

pub report_is_read : ReportIsRead
report_is_read name gates registers times more claims n named w fit =
    let m = n + line_count gates registers times in
    let d = read_again name n gates registers times in
    let e : m + length claims + 1 ≡ n + report_lines gates registers times claims = omega arith in
    ap (λ t. first_report n (lines t)) (append_assoc (written name gates registers times) (claims_text claims) more)
    ∙ ap behind (written_is_read name gates registers times (claims_text claims ++ more) n named w)
    ∙ ap (under d) (claims_read claims fit m [] more)
    ∙ ap (λ k. Ok (Some (d, claims, k, lines more))) e

-- the text of a report alone
pub read_alone : (name : List ℕ) (c : Circuit) (claims : List Claim) (t : List ℕ) → list_all nameable name ≡ true → list_all claim_fits claims ≡ true → t ≡ of c (reported name) claims → IsReportedAgain name c claims t
unfolding lines
read_alone name c claims t named fit is =
    ap (λ s. first_report 1 (lines s)) (is ∙ sym (append-nil (of c (reported name) claims)))
    ∙ report_is_read name c.gates.now c.registers.now c.times.now [] claims 1 named (whole_of c) fit
