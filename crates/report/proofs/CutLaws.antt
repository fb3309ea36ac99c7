-- A report that is cut short is no report.
use Rattle.std.proofs.Common.{◌≡◌, ℕ, zero, suc, ◌+◌, ◌-◌, ◌<◌, ◌≤◌, true, false, List, [], ◌∷◌, ◌++◌, map, codes, length, take, Some, None, Ok, Err, Result, sym, refl, ap, ◌∙◌, inl, inr, append-nil, length-append, arith}
use Rattle.std.specs.Fmt.{signed_decimal}
use Rattle.std.specs.List.{list_all}
use Rattle.std.specs.Str.{bytes_eq}
use Rattle.std.proofs.lemmas.Bool.{and_parts, cases_lt}
use Rattle.std.proofs.lemmas.List.{take-append-le}
use Rattle.std.proofs.Math.Seq.{take-append-add}
use Rattle.circuit.specs.Lent.{gate_count, gate_in, register_count, register_in}
use Rattle.circuit.specs.Whole.{Whole}
use Rattle.lines.specs.Words.{blank, words, inline, lines}
use Rattle.fields.specs.declared.fault.Expected.{Expected}
use Rattle.text.specs.Meaning.{Drafted, Outcome}
use Rattle.writing.specs.Written.{line_of, rows, title_of, times_line, register_line, gate_line, end_line, written, nameable}
use Rattle.writing.specs.Again.{line_count}
use Rattle.writing.proofs.LineLaws.{Calm, spaced, bare_calm, calm_line}
use Rattle.writing.proofs.AgainLaws.{parted, written_is_read}
use Rattle.writing.proofs.CutLaws.{Begins, begins, calm_take, lines_one, cut, cut_short}
use Rattle.claim.specs.Claims.{text_of, word_of, numbers_of, claim_line, claim_of, named, claim_fits}
use Rattle.claim.specs.declared.kinds.Claim.{Claim}
use Rattle.claim.specs.declared.kinds.Claim.TheVariants.{Passed, TooLate, TooEarly, From, Through, Margins, Smallest, Period}
use Rattle.claim.proofs.ClaimLaws.{word_of_claim, words_of_claim}
use Rattle.report.specs.declared.reading.Said.{Said}
use Rattle.report.specs.declared.reading.Said.TheVariants.{Nothing, Claim as Claims, End}
use Rattle.report.specs.Reported.{claims_text, reported}
use Rattle.report.specs.Meaning.{Claimed, Told, under, claims, said, went, claims_from, behind, first_report}
use Rattle.report.specs.Again.{ReportCutShort}
use Rattle.report.proofs.AgainLaws.{claim_read}

-- no end of claims
abbrev NoClaims : Claimed → Type 0
NoClaims (Ok x) = ⊥
NoClaims (Err e) = Unit {0}

-- whatever was claimed before
abbrev Refused : List ℕ → Type 0
Refused p = (n : ℕ) (cs : List Claim) → NoClaims (claims_from n cs (lines p))

-- all that is cut short before its last byte but one
abbrev Refuses : List ℕ → Type 0
Refuses t = (m : ℕ) → m + 1 < length t → Refused (take m t)

-- a line is no end
abbrev GoesOn : Result Said Expected → Type 0
GoesOn (Ok Nothing) = Unit {0}
GoesOn (Ok (Claims c)) = Unit {0}
GoesOn (Ok End) = ⊥
GoesOn (Err e) = Unit {0}

goes_claim : (r : Result Claim Expected) → GoesOn (claims r)
goes_claim (Ok c) = tt
goes_claim (Err e) = tt

last : (o : Result Said Expected) (n : ℕ) (cs : List Claim) → GoesOn o → NoClaims (went o n cs [] (λ cs'. claims_from (n + 1) cs' []))
unfolding claims_from
last (Ok Nothing) n cs h = tt
last (Ok (Claims c)) n cs h = tt
last (Ok End) n cs h = h
last (Err e) n cs h = tt

-- a line that begins with the byte b, and no such word is `end`
module _ (b : ℕ) (seen : blank b ≡ false) (other : (w : List ℕ) → bytes_eq (b ∷ w) (codes "end") ≡ false) where
  goes : (ws : List (List ℕ)) → Begins b ws → GoesOn (said ws)
  goes [] h = absurd h
  goes ([] ∷ ws) h = absurd h
  goes ((c ∷ w) ∷ ws) h = let e : bytes_eq (c ∷ w) (codes "end") ≡ false = ap (λ x. bytes_eq (x ∷ w) (codes "end")) h ∙ other w in rw e (goes_claim (claim_of ((c ∷ w) ∷ ws)))

  part_behind : (l : List ℕ) (k : ℕ) → Calm (b ∷ l) → Refused (take k (b ∷ l))
  unfolding claims_from lines
  part_behind l zero c n cs = tt
  part_behind l (suc k) c n cs =
      let t = calm_take (suc k) (b ∷ l) c in
      rw (lines_one b (take k l) t, bare_calm (b ∷ take k l) t) (last _ n cs (goes (words (b ∷ take k l)) (begins b (take k l) seen)))

-- a claim's word begins with such a byte
word_part : (c : Claim) (l : List ℕ) (k : ℕ) → Calm (text_of (word_of c) ++ l) → Refused (take k (text_of (word_of c) ++ l))
unfolding blank
word_part Passed l k h = part_behind 112 refl (λ u. refl) (codes "assed" ++ l) k h
word_part (TooLate s) l k h = part_behind 116 refl (λ u. refl) (codes "oo-late" ++ l) k h
word_part (TooEarly s) l k h = part_behind 116 refl (λ u. refl) (codes "oo-early" ++ l) k h
word_part (From s) l k h = part_behind 102 refl (λ u. refl) (codes "rom" ++ l) k h
word_part (Through s i) l k h = part_behind 116 refl (λ u. refl) (codes "hrough" ++ l) k h
word_part (Margins s i) l k h = part_behind 109 refl (λ u. refl) (codes "argins" ++ l) k h
word_part (Smallest s i) l k h = part_behind 115 refl (λ u. refl) (codes "mallest" ++ l) k h
word_part (Period p) l k h = part_behind 112 refl (λ u. refl) (codes "eriod" ++ l) k h

claim_refuses : (c : Claim) → claim_fits c ≡ true → (more : List ℕ) → Refuses more → Refuses (claim_line c ++ more)
claim_refuses c h more rest m short n cs =
    let w = text_of (word_of c) in
    let ws = map signed_decimal (numbers_of c) in
    let word = word_of_claim (word_of c) in
    let are = words_of_claim c h in
    elim (cut w ws word are more m short) [
      | inl within ↦ rw within (word_part c (spaced ws) m (calm_line w ws word are) n cs)
      | inr (j, small, past) ↦ rw (past, claim_read c h n cs (take j more)) (rest j small (n + 1) (cs ++ c ∷ []))
    ]

end_refuses : Refuses end_line
unfolding claims_from claim_of named lines blank words
end_refuses zero h n cs = tt
end_refuses (suc zero) h n cs = tt
end_refuses (suc (suc zero)) h n cs = tt
end_refuses (suc (suc (suc m))) h n cs = absurd (omega arith)

claims_refuse : (cs : List Claim) → list_all claim_fits cs ≡ true → Refuses (claims_text cs)
claims_refuse [] h = end_refuses
claims_refuse (c ∷ cs) h = let p = and_parts (claim_fits c) (list_all claim_fits cs) h in claim_refuses c p.0 (claims_text cs) (claims_refuse cs p.1)

-- no report
abbrev NoReport : Told → Type 0
NoReport (Ok None) = Unit {0}
NoReport (Ok (Some x)) = ⊥
NoReport (Err e) = Unit {0}

none_is : (o : Told) → NoReport o → (x : Drafted × List Claim × ℕ × List (List ℕ)) → o ≡ Ok (Some x) → ⊥
none_is o h x e = let z : NoReport (Ok (Some x)) = rw e at h in z

no_circuit : (o : Outcome) → ((x : Drafted × ℕ × List (List ℕ)) → o ≡ Ok (Some x) → ⊥) → NoReport (behind o)
no_circuit (Ok None) h = tt
no_circuit (Ok (Some x)) h = absurd (h x refl)
no_circuit (Err e) h = tt

no_claims : (d : Drafted) (o : Claimed) → NoClaims o → NoReport (under d o)
no_claims d (Ok x) h = h
no_claims d (Err e) h = tt

-- the last newline changes no line
lines_but : (s : List ℕ) (b : ℕ) → inline b ≡ true → lines (s ++ (b ∷ 10 ∷ [])) ≡ lines (s ++ b ∷ [])
unfolding lines
lines_but [] b i = rw i refl
lines_but (c ∷ s) b i = rw (lines_but s b i) refl

take_but : (s : List ℕ) (x y : ℕ) → take (suc (length s)) (s ++ (x ∷ y ∷ [])) ≡ s ++ x ∷ []
take_but [] x y = refl
take_but (b ∷ s) x y = ap (λ t. b ∷ t) (take_but s x y)

take_past : (s t : List ℕ) (m : ℕ) → length s ≤ m → take m (s ++ t) ≡ s ++ take (m - length s) t
take_past s t m le = let e : m ≡ length s + (m - length s) = omega arith in ap (λ i. take i (s ++ t)) e ∙ take-append-add s t (m - length s)

empty_refused : Refused []
unfolding claims_from lines
empty_refused n cs = tt

module _ (name gates registers times : List ℕ) (cs : List Claim) (named : list_all nameable name ≡ true) (w : Whole gates registers times) (fit : list_all claim_fits cs ≡ true) (n : ℕ) where
  abbrev circuit_text : List ℕ
  circuit_text = written name gates registers times

  -- behind the circuit's text
  past : (t : List ℕ) → Refused t → NoReport (first_report n (lines (circuit_text ++ t)))
  past t h = rw (written_is_read name gates registers times t n named w) (no_claims _ _ (h (n + line_count gates registers times) []))

  -- its last newline alone is missing
  abbrev registers_text : List ℕ
  registers_text = rows (λ r. register_line (register_in registers r)) (register_count registers)

  abbrev gates_text : List ℕ
  gates_text = rows (λ k. gate_line (gate_in gates k)) (gate_count gates)

  abbrev but_two : List ℕ
  but_two = line_of (codes "circuit") (title_of name) ++ (times_line times ++ (registers_text ++ (gates_text ++ codes "en")))

  seam : (m : ℕ) → m + 1 ≡ length circuit_text → NoReport (first_report n (lines (take m circuit_text)))
  seam m short =
      let s : List ℕ = but_two in
      let e : circuit_text ≡ s ++ (100 ∷ 10 ∷ []) = sym (parted (line_of (codes "circuit") (title_of name)) (times_line times) registers_text gates_text (codes "en") (100 ∷ 10 ∷ [])) in
      let long : length circuit_text ≡ length s + 2 = ap length e ∙ length-append s (100 ∷ 10 ∷ []) in
      let em : m ≡ suc (length s) = omega arith in
      let same : lines (take m circuit_text) ≡ lines (circuit_text ++ []) =
      ap (λ t. lines (take m t)) e ∙ ap (λ i. lines (take i (s ++ (100 ∷ 10 ∷ [])))) em ∙ ap lines (take_but s 100 10) ∙ sym (lines_but s 100 refl) ∙ sym (ap lines e) ∙ ap lines (sym (append-nil circuit_text))
      in
      rw same (past [] empty_refused)

  none : (m : ℕ) → m + 1 < length (reported name gates registers times cs) → NoReport (first_report n (lines (take m (reported name gates registers times cs))))
  none m short =
      let both : length (reported name gates registers times cs) ≡ length circuit_text + length (claims_text cs) = length-append circuit_text (claims_text cs) in
      elim (cases_lt (m + 1) (length circuit_text)) [
        | inl inside ↦ rw (take-append-le m circuit_text (claims_text cs) (omega arith)) (no_circuit _ (cut_short name gates registers times m n named w inside))
        | inr far ↦ elim (cases_lt m (length circuit_text)) [
          | inl near ↦ rw (take-append-le m circuit_text (claims_text cs) (omega arith)) (seam m (omega arith))
          | inr behind ↦ rw (take_past circuit_text (claims_text cs) m behind) (past (take (m - length circuit_text) (claims_text cs)) (claims_refuse cs fit (m - length circuit_text) (omega arith)))
        ]
      ]

pub report_cut_short : ReportCutShort
report_cut_short name gates registers times cs m n named w fit short = none_is _ (none name gates registers times cs named w fit n m short)
