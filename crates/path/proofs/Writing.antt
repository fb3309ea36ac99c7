-- A path written from its end to its beginning.
use Rattle.std.proofs.Common.{◌≡◌, ℕ, ◌+◌, ◌-◌, ◌*◌, ◌<◌, ◌≤◌, Bool, true, false, cond, ◌≢◌, List, [], ◌∷◌, ◌++◌, length, get_or, take, set, sym, refl, ap, ◌∙◌, inl, inr, arith}
use mir.Val.{bool_byte}
use Rattle.std.proofs.lemmas.List.{length-append, length-set, get_or-set_same, get_or-set_other, get_or-take, get_or_at, get_or-append_right, take_all, take-take, take_at}
use Rattle.std.proofs.lemmas.Bool.{cases_eq}
use Rattle.path.specs.Path.{Steps, written_steps, written, BeginsWith}
use Rattle.path.proofs.Telling.{beyond}

pub written_length : (n : ℕ) (p : Steps) → length (written_steps n p) ≡ 2 * length p
unfolding written_steps
written_length n [] = refl
written_length n ((g, b) ∷ p) = length-append (written_steps n p) _ ∙ (let e = written_length n p in omega arith)

-- of the path w all from place i on is written, and what stands before leads to here
pub record Sofar (n : ℕ) (w entry : List ℕ) (here : ℕ × Steps) (i : ℕ) (out : List ℕ) : Type 0 where
  pub place : i ≡ 1 + 2 * length here.1
  pub within : i ≤ length w
  pub room : length w ≤ length out
  pub front : take i w ≡ written n here
  pub done : (j : ℕ) → i ≤ j → j < length w → get_or out j 0 ≡ get_or w j 0
  pub rest : (j : ℕ) → length w ≤ j → get_or out j 0 ≡ get_or entry j 0

pub none_yet : (n : ℕ) (p : ℕ × Steps) (entry : List ℕ) → 1 + 2 * length p.1 ≤ length entry → Sofar n (written n p) entry p (1 + 2 * length p.1) entry
none_yet n p entry h =
    let l = written_length n p.1 in
    record { place = refl; within = omega arith; room = omega arith; front = take_all _ (written n p) (omega arith); done = λ j a b. absurd (omega arith); rest = λ j h. refl }

module _ {n : ℕ} {w entry : List ℕ} {g : ℕ} {b : Bool} {x : ℕ × Steps} {i : ℕ} {out : List ℕ} (sofar : Sofar n w entry (beyond g b x) i out) where
  ahead : take i w ≡ written n x ++ ((n + g) ∷ (cond b 1 0) ∷ [])
  unfolding written_steps
  ahead = sofar.front

  front_length : length (written n x) ≡ i - 2
  front_length = let l = written_length n x.1 in let q = sofar.place in omega arith

  pub at_gate : get_or w (i - 2) 0 ≡ n + g
  at_gate =
      let q = sofar.place in
      let lt : i - 2 < i = omega arith in
      sym (get_or-take i w (i - 2) 0 lt) ∙ ap (λ xs. get_or xs (i - 2) 0) ahead ∙ get_or_at (written n x) (n + g) ((cond b 1 0) ∷ []) 0 (i - 2) front_length

  pub at_input : get_or w (i - 1) 0 ≡ cond b 1 0
  at_input =
      let q = sofar.place in
      let lt : i - 1 < i = omega arith in
      let le : i - 2 ≤ i - 1 = omega arith in
      let one : i - 1 - (i - 2) ≡ 1 = omega arith in
      sym (get_or-take i w (i - 1) 0 lt) ∙ ap (λ xs. get_or xs (i - 1) 0) ahead ∙ get_or-append_right (written n x) _ (i - 2) (i - 1) 0 front_length le ∙ rw one

  pub one_step : (v u : ℕ) → v ≡ cond b 1 0 → u ≡ n + g → Sofar n w entry x (i - 2) (set (set out (i - 1) v) (i - 2) u)
  one_step v u v_is u_is =
      let q = sofar.place in
      let inside = sofar.within in
      let room = sofar.room in
      let l = length-set out (i - 1) v in
      let l' = length-set (set out (i - 1) v) (i - 2) u in
      let last : i - 1 < length out = omega arith in
      let before : i - 2 < length (set out (i - 1) v) = omega arith in
      let apart : i - 1 ≢ i - 2 = omega arith in
      record {
        place = omega arith;
        within = omega arith;
        room = omega arith;
        front =
            let le : i - 2 ≤ i = omega arith in
            sym (take-take (i - 2) i w le) ∙ ap (take (i - 2)) ahead ∙ take_at (written n x) _ (i - 2) front_length;
        done = λ j a z. elim (cases_eq j (i - 2)) [
          | inl same ↦ rw same (get_or-set_same (set out (i - 1) v) (i - 2) u 0 before ∙ u_is ∙ sym at_gate)
          | inr other ↦ let ne : j ≢ i - 2 = other in
              get_or-set_other (set out (i - 1) v) (i - 2) j u 0 ne
              ∙ elim (cases_eq j (i - 1)) [
                | inl same ↦ rw same (get_or-set_same out (i - 1) v 0 last ∙ v_is ∙ sym at_input)
                | inr else ↦ let ne' : j ≢ i - 1 = else in get_or-set_other out (i - 1) j v 0 ne' ∙ sofar.done j (omega arith) z
              ]
        ];
        rest = λ j h.
            let ne : j ≢ i - 2 = omega arith in
            let ne' : j ≢ i - 1 = omega arith in
            get_or-set_other (set out (i - 1) v) (i - 2) j u 0 ne ∙ get_or-set_other out (i - 1) j v 0 ne' ∙ sofar.rest j h;
      }

  -- there is room for the step
  pub at_least : (3 ≤ i) × (i ≤ length out)
  at_least = let q = sofar.place in let h = sofar.within in let r = sofar.room in (omega arith, omega arith)

pub all_written : {n : ℕ} {w entry : List ℕ} {r i : ℕ} {out : List ℕ} → Sofar n w entry (r, []) i out → (x : ℕ) → x ≡ r → BeginsWith w entry (set out 0 x)
unfolding written_steps
all_written {n} {w} {entry} {r} {i} {out} sofar x is =
    let q : i ≡ 1 = sofar.place in
    let inside = sofar.within in
    let room = sofar.room in
    let some : 0 < length out = omega arith in
    let lt : 0 < i = omega arith in
    let head : get_or w 0 0 ≡ r = sym (get_or-take i w 0 0 lt) ∙ ap (λ xs. get_or xs 0 0) sofar.front in
    record {
      filled = λ j h. elim (cases_eq j 0) [
        | inl same ↦ rw same (get_or-set_same out 0 x 0 some ∙ is ∙ sym head)
        | inr other ↦ let ne : j ≢ 0 = other in get_or-set_other out 0 j x 0 ne ∙ sofar.done j (omega arith) h
      ];
      rest = λ j h. let ne : j ≢ 0 = omega arith in get_or-set_other out 0 j x 0 ne ∙ sofar.rest j h;
    }

pub bit_is : (b : Bool) (v : ℕ) → v ≡ bool_byte b → v ≡ cond b 1 0
bit_is true v e = e
bit_is false v e = e
