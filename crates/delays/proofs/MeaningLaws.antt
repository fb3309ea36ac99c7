-- Laws of what a text means.
use Rattle.std.proofs.Common.{◌≡◌, ℕ, ◌-◌, [], ◌∷◌, List, Some, None, Ok, Err, Result, refl, sym, ap, inl, inr}
use Rattle.lines.specs.Words.{bare, words}
use Rattle.fields.specs.declared.fault.Expected.TheVariants.{Cycles as NoCycles}
use Rattle.fields.specs.declared.fault.Fault.{Fault}
use Rattle.script.specs.declared.script.Script.{Script}
use Rattle.delays.specs.Meaning.{Told, told, statement, meaning, LineStated, ReadsLine}

-- a line, whatever lines follow it
pub reads_line : (q : ℕ) (t t' : Told) (l : List ℕ) (n : ℕ) (r : Result (Unit {0}) Fault) → LineStated (statement q (n - 1) t (words (bare l))) n t' r → ReadsLine q t l n t' r
unfolding meaning
reads_line q t t' l n (Ok x) is ls = rw is refl
reads_line q t t' l n (Err f) (line, inl memory) ls = inl memory
reads_line q t t' l n (Err f) (line, inr e) ls = inr (rw e (ap (λ j. Err (record { line = j; expected = f.expected })) (sym line)))

-- at the end of a text
module _ (q n : ℕ) (s : Script) where
  pub some_cycles : (x : ℕ) → meaning q n (told (Some x) s) [] ≡ Ok (told (Some x) s)
  unfolding meaning
  some_cycles x = refl

  pub no_cycles : meaning q n (told None s) [] ≡ Err (record { line = n; expected = NoCycles })
  unfolding meaning
  no_cycles = refl
