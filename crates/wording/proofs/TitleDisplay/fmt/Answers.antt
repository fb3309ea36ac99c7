use Rattle.std.proofs.Common.{◌≡◌, ℕ, ◌+◌, ◌<◌, List, [], ◌∷◌, ◌++◌, length, get_or, take, sym, ap, ◌∙◌, append-nil, rules}
use Rattle.std.proofs.Math.Utf8.{encode, encodes}
use Rattle.std.proofs.Output.{has_written_append, has_written_of_eq}
use Rattle.std.proofs.lemmas.List.{take_more}
use Rattle.std.proofs.lemmas.Str.{encodes-append}
use Rattle.wording.proofs.TitleDisplay.fmt.Goals as goal

one_more : (xs : List ℕ) (i : ℕ) → i < length xs → encodes (take i xs) ++ encode (get_or xs i 0) ≡ encodes (take (i + 1) xs)
one_more xs i h =
    sym (ap encodes (take_more xs i 0 h) ∙ encodes-append (take i xs) (get_or xs i 0 ∷ []) ∙ ap (λ l. encodes (take i xs) ++ l) (append-nil (encode (get_or xs i 0))))

pub loop-b-preserved : goal.loop-b-preserved
loop-b-preserved g c p =
    has_written_of_eq _ _ _ _ _ (one_more c.args.self.now.0.now c.loop-b.b-index (search rules)) (has_written_append _ _ _ _ _ _ (c.loop-b.invariant p) (search rules))
