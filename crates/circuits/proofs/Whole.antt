-- What is read piece by piece, against what a text means as a whole.
use Rattle.std.proofs.Common.{◌≡◌, ℕ, ◌+◌, List, [], ◌∷◌, ◌++◌, map, Some, None, Ok, Err, Option, Result, false, sym, refl, ap, ◌∙◌, inl, inr, one-add}
use Rattle.std.specs.Prelude.{nat_eq}
use Rattle.std.specs.List.{starts_with}
use Rattle.std.proofs.lemmas.Bool.{cases_Bool}
use Rattle.fields.specs.declared.fault.Expected.{Expected}
use Rattle.lines.specs.Words.{bare, lines, plain, words}
use Rattle.input.specs.Line.{bare_lines, mark}
use Rattle.input.specs.Pending.{pending}
use Rattle.text.specs.Reader.{Found, Listed, Step, at_end, by_lines, done_or, step, stepped, without_places}
use Rattle.text.proofs.TrimLaws.{reads_by_lines}
use Rattle.circuits.specs.Coming.{CommentsMeanNothing, MeansAsWhole, bared, bared_outcome, front_of, shown_lines}
use Rattle.circuits.proofs.Lines.{no_line, one_line}

bare_twice : (l : List ℕ) → bare (bare l) ≡ bare l
bare_twice [] = refl
bare_twice (b ∷ bs) =
    elim (cases_Bool (plain b)) [
      | inl e ↦ simp (e, one-add) (ap (λ x. b ∷ x) (bare_twice bs))
      | inr e ↦ simp e
    ]

-- a line more, where the lines after it mean the same without their comments
one_more : (n : ℕ) (ls : List (List ℕ)) (r : Result Step Expected) → ((s : Option Listed) → by_lines s (n + 1) (map bare ls) ≡ bared (by_lines s (n + 1) ls)) →
    stepped r n (map bare ls) (λ s. by_lines s (n + 1) (map bare ls)) ≡ bared (stepped r n ls (λ s. by_lines s (n + 1) ls))
one_more n ls (Err e) ih = refl
one_more n ls (Ok x) ih = go x.done
  where
    go : (d : Option Listed) → done_or d n (map bare ls) (by_lines x.current (n + 1) (map bare ls)) ≡ bared (done_or d n ls (by_lines x.current (n + 1) ls))
    go (Some y) = refl
    go None = ih x.current

at_end_bared : (n : ℕ) (s : Option Listed) → at_end n s ≡ bared (at_end n s)
at_end_bared n None = refl
at_end_bared n (Some x) = refl

pub comments_mean_nothing : CommentsMeanNothing
comments_mean_nothing s n [] = no_line s n ∙ at_end_bared n s ∙ ap bared (sym (no_line s n))
comments_mean_nothing s n (l ∷ ls) =
    one_line s n (bare l) (map bare ls)
    ∙ ap (λ b. stepped (step s n (words b)) n (map bare ls) (λ s'. by_lines s' (n + 1) (map bare ls))) (bare_twice l)
    ∙ one_more n ls (step s n (words (bare l))) (λ s'. comments_mean_nothing s' (n + 1) ls)
    ∙ ap bared (sym (one_line s n l ls))

-- with no mark the first line is shown as it is
unmarked : (ls : List (List ℕ)) → starts_with nat_eq (front_of ls) mark ≡ false → shown_lines 1 ls ≡ ls
unmarked [] h = refl
unmarked (l ∷ ls) h = rw h refl

bared_places : (f : Found) → without_places (bared f) ≡ bared_outcome (without_places f)
bared_places (Err f) = refl
bared_places (Ok None) = refl
bared_places (Ok (Some (x, n, ls))) = refl

pub means_as_whole : MeansAsWhole
means_as_whole t more none zero no_mark =
    ap without_places (
    ap (λ k. by_lines None (k + 1) (shown_lines (k + 1) (bare_lines (pending t ++ more)))) zero
    ∙ ap (λ p. by_lines None 1 (shown_lines 1 (bare_lines (p ++ more)))) none
    ∙ ap (by_lines None 1) (unmarked (bare_lines more) no_mark)
    ∙ comments_mean_nothing None 1 (lines more))
    ∙ bared_places (by_lines None 1 (lines more))
    ∙ ap bared_outcome (reads_by_lines 1 (lines more))
