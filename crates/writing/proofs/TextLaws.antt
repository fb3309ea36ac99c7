-- Laws of written texts.
use Rattle.std.proofs.Common.{◌≡◌, ℕ, List, ◌++◌, ◌∙◌, append_assoc}

-- five parts, put one after another
pub joined : (s0 : List ℕ) {s1 s2 s3 s4 s5 : List ℕ} (a b c d e : List ℕ) → s1 ≡ s0 ++ a → s2 ≡ s1 ++ b → s3 ≡ s2 ++ c → s4 ≡ s3 ++ d → s5 ≡ s4 ++ e → s5 ≡ s0 ++ (a ++ (b ++ (c ++ (d ++ e))))
joined s0 a b c d e p q r s t =
    rw (t, s, r, q, p) (append_assoc (((s0 ++ a) ++ b) ++ c) d e ∙ append_assoc ((s0 ++ a) ++ b) c (d ++ e) ∙ append_assoc (s0 ++ a) b (c ++ (d ++ e)) ∙ append_assoc s0 a (b ++ (c ++ (d ++ e))))
