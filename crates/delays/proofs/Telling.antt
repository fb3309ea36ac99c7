-- What a text tells is what its lines tell.
use Rattle.std.proofs.Common.{◌≡◌, ℕ, zero, suc, ◌+◌, ◌-◌, ◌<◌, ◌⊎◌, Bool, true, nat_le, List, [], ◌∷◌, ◌++◌, length, take, slice_index_or, find, filter_map, Some, None, Ok, Err, Option, Result, sym, refl, ap, ◌∙◌, inl, inr, append-nil, arith}
use Rattle.std.specs.List.{list_all, enumerate_from, cons_option}
use Rattle.std.specs.Option.{option_to_list}
use Rattle.std.proofs.lemmas.Bool.{cases_Bool}
use Rattle.std.proofs.lemmas.List.{append_assoc}
use Rattle.std.proofs.lemmas.Slice.Eq.{bytes_eq-Decides}
use Rattle.std.specs.Str.{bytes_eq}
use Rattle.lines.specs.Words.{bare, words}
use Rattle.fields.specs.Lines.{word_of, all_lines, line_of}
use Rattle.fields.specs.declared.fault.Expected.{Expected}
use Rattle.fields.specs.declared.fault.Expected.TheVariants.{Cycles as NoCycles}
use Rattle.fields.specs.declared.fault.Fault.{Fault}
use Rattle.fields.specs.declared.line.Line.{Line}
use Rattle.fields.specs.declared.line.Line.TheVariants.{Cycles, Start, Random, Clock, Delay, Show, Take}
use Rattle.script.specs.declared.entry.Entry.{Entry}
use Rattle.script.specs.declared.kind.Kind.{Kind}
use Rattle.script.specs.declared.kind.Kind.TheVariants.{Clock as Clocks, Take as Takes, Delay as Delays, Show as Shows}
use Rattle.delays.specs.Row.{and_then, number_after, bits, entry_after, bit_after, delay_after}
use Rattle.delays.specs.Meaning.{Told, nothing, once, with_cycles, with_start, with_seed, entries, with_entries, added, said, statement, Outcome, went, ended, meaning}
use Rattle.delays.specs.ByLines.{after_word, entry_on, ByLines, Adds, FirstFault, ToldByLines, FaultIsFirst}

-- a fault is no value
never : {A E : Type 0} {x : A} {e : E} → Err e ≡ Ok x → ⊥
never p = let z : ◌≡◌ {A = ℕ} 0 1 = cc in omega arith

abbrev value_or : {A E : Type 0} → A → Result A E → A
value_or y (Ok x) = x
value_or y (Err e) = y

same_value : {A E : Type 0} {x y : A} → ◌≡◌ {A = Result A E} (Ok x) (Ok y) → x ≡ y
same_value {x = x} p = ap (value_or x) p

and_then_ok : {A B : Type 0} (r : Result A Expected) (f : A → Result B Expected) (y : B) → and_then r f ≡ Ok y → (x : A) × (r ≡ Ok x) × (f x ≡ Ok y)
and_then_ok (Ok x) f y is = (x, refl, is)
and_then_ok (Err e) f y is = absurd (never is)

once_ok : {A : Type 0} (l : Line) (o : Option A) (put : A → Told) (x : A) (t : Told) → once l o put x ≡ Ok t → (o ≡ None) × (put x ≡ t)
once_ok l None put x t is = (refl, same_value is)
once_ok l (Some y) put x t is = absurd (never is)

added_ok : (t : Told) (k : Kind) (l : Line) (e : Entry) (t' : Told) → added t k l e ≡ Ok t' → with_entries t k (entries t k ++ (e ∷ [])) ≡ t'
added_ok t k l e t' is = elim (cases_Bool (list_all (λ x. nat_le x.when e.when) (entries t k))) [ inl b ↦ same_value (rw b at is) | inr b ↦ absurd (never (rw b at is)) ]

-- the word of a line is the one by which it is known
found : (w : List ℕ) (l : Line) (ls : List Line) → find (λ l. bytes_eq w (word_of l)) ls ≡ Some l → bytes_eq w (word_of l) ≡ true
found w l [] is = absurd (nowhere is)
  where
    nowhere : None ≡ Some l → ⊥
    nowhere p = let z : ◌≡◌ {A = ℕ} 0 1 = cc in omega arith
found w l (m ∷ ls) is = elim (cases_Bool (bytes_eq w (word_of m))) [
  | inl e ↦ let same : Some m ≡ Some l = rw e at is in let m_is : m ≡ l = cc in rw m_is at e
  | inr e ↦ found w l ls (rw e at is)
]

word_is : (w : List ℕ) (l : Line) → line_of w ≡ Some l → w ≡ word_of l
unfolding line_of
word_is w l is = (bytes_eq-Decides w (word_of l)).0 (found w l all_lines is)

-- what line n, counted from 0, adds to t
record Step (q n : ℕ) (ws : List (List ℕ)) (t t' : Told) : Type 0 where
  cycles : option_to_list t'.cycles ≡ option_to_list t.cycles ++ option_to_list (after_word Cycles (number_after Cycles) ws)
  start : option_to_list t'.start ≡ option_to_list t.start ++ option_to_list (after_word Start (bits q) ws)
  seed : option_to_list t'.seed ≡ option_to_list t.seed ++ option_to_list (after_word Random (number_after Random) ws)
  entries : (k : Kind) → entries t' k ≡ entries t k ++ option_to_list (entry_on q n k ws)

-- nothing more
same : {A : Type 0} {xs : List A} → xs ≡ xs ++ []
same {xs = xs} = sym (append-nil xs)

module _ (q n : ℕ) (t : Told) where
  blank : Step q n [] t t
  blank = record { cycles = same; start = same; seed = same; entries = kept }
    where
      kept : (k : Kind) → entries t k ≡ entries t k ++ option_to_list (entry_on q n k [])
      kept Clocks = same
      kept Takes = same
      kept Delays = same
      kept Shows = same

  cycles_told : (x : ℕ) (ws : List (List ℕ)) → number_after Cycles ws ≡ Ok x → t.cycles ≡ None → Step q n (word_of Cycles ∷ ws) t (with_cycles t x)
  cycles_told x ws is none = record { cycles = rw (none, is) refl; start = same; seed = same; entries = kept }
    where
      kept : (k : Kind) → entries (with_cycles t x) k ≡ entries t k ++ option_to_list (entry_on q n k (word_of Cycles ∷ ws))
      kept Clocks = same
      kept Takes = same
      kept Delays = same
      kept Shows = same

  start_told : (x : List Bool) (ws : List (List ℕ)) → bits q ws ≡ Ok x → t.start ≡ None → Step q n (word_of Start ∷ ws) t (with_start t x)
  start_told x ws is none = record { cycles = same; start = rw (none, is) refl; seed = same; entries = kept }
    where
      kept : (k : Kind) → entries (with_start t x) k ≡ entries t k ++ option_to_list (entry_on q n k (word_of Start ∷ ws))
      kept Clocks = same
      kept Takes = same
      kept Delays = same
      kept Shows = same

  seed_told : (x : ℕ) (ws : List (List ℕ)) → number_after Random ws ≡ Ok x → t.seed ≡ None → Step q n (word_of Random ∷ ws) t (with_seed t x)
  seed_told x ws is none = record { cycles = same; start = same; seed = rw (none, is) refl; entries = kept }
    where
      kept : (k : Kind) → entries (with_seed t x) k ≡ entries t k ++ option_to_list (entry_on q n k (word_of Random ∷ ws))
      kept Clocks = same
      kept Takes = same
      kept Delays = same
      kept Shows = same

  clock_told : (e : Entry) (ws : List (List ℕ)) → entry_after n Clock ws ≡ Ok e → Step q n (word_of Clock ∷ ws) t (with_entries t Clocks (t.clocks ++ (e ∷ [])))
  clock_told e ws is = record { cycles = same; start = same; seed = same; entries = kept }
    where
      kept : (k : Kind) → entries (with_entries t Clocks (t.clocks ++ (e ∷ []))) k ≡ entries t k ++ option_to_list (entry_on q n k (word_of Clock ∷ ws))
      kept Clocks = rw is refl
      kept Takes = same
      kept Delays = same
      kept Shows = same

  take_told : (e : Entry) (ws : List (List ℕ)) → bit_after q n Take ws ≡ Ok e → Step q n (word_of Take ∷ ws) t (with_entries t Takes (t.takes ++ (e ∷ [])))
  take_told e ws is = record { cycles = same; start = same; seed = same; entries = kept }
    where
      kept : (k : Kind) → entries (with_entries t Takes (t.takes ++ (e ∷ []))) k ≡ entries t k ++ option_to_list (entry_on q n k (word_of Take ∷ ws))
      kept Clocks = same
      kept Takes = rw is refl
      kept Delays = same
      kept Shows = same

  delay_told : (e : Entry) (ws : List (List ℕ)) → delay_after q n ws ≡ Ok e → Step q n (word_of Delay ∷ ws) t (with_entries t Delays (t.delays ++ (e ∷ [])))
  delay_told e ws is = record { cycles = same; start = same; seed = same; entries = kept }
    where
      kept : (k : Kind) → entries (with_entries t Delays (t.delays ++ (e ∷ []))) k ≡ entries t k ++ option_to_list (entry_on q n k (word_of Delay ∷ ws))
      kept Clocks = same
      kept Takes = same
      kept Delays = rw is refl
      kept Shows = same

  show_told : (e : Entry) (ws : List (List ℕ)) → bit_after q n Show ws ≡ Ok e → Step q n (word_of Show ∷ ws) t (with_entries t Shows (t.shows ++ (e ∷ [])))
  show_told e ws is = record { cycles = same; start = same; seed = same; entries = kept }
    where
      kept : (k : Kind) → entries (with_entries t Shows (t.shows ++ (e ∷ []))) k ≡ entries t k ++ option_to_list (entry_on q n k (word_of Show ∷ ws))
      kept Clocks = same
      kept Takes = same
      kept Delays = same
      kept Shows = rw is refl

  by_line : (l : Line) (ws : List (List ℕ)) (t' : Told) → said q n t (Some l) ws ≡ Ok t' → Step q n (word_of l ∷ ws) t t'
  by_line Cycles ws t' is =
      let x = and_then_ok (number_after Cycles ws) (once Cycles t.cycles (with_cycles t)) t' is in
      let o = once_ok Cycles t.cycles (with_cycles t) x.0 t' x.2 in
      rw (← o.1) (cycles_told x.0 ws x.1 o.0)
  by_line Start ws t' is =
      let x = and_then_ok (bits q ws) (once Start t.start (with_start t)) t' is in
      let o = once_ok Start t.start (with_start t) x.0 t' x.2 in
      rw (← o.1) (start_told x.0 ws x.1 o.0)
  by_line Random ws t' is =
      let x = and_then_ok (number_after Random ws) (once Random t.seed (with_seed t)) t' is in
      let o = once_ok Random t.seed (with_seed t) x.0 t' x.2 in
      rw (← o.1) (seed_told x.0 ws x.1 o.0)
  by_line Clock ws t' is =
      let x = and_then_ok (entry_after n Clock ws) (added t Clocks Clock) t' is in
      rw (← added_ok t Clocks Clock x.0 t' x.2) (clock_told x.0 ws x.1)
  by_line Delay ws t' is =
      let x = and_then_ok (delay_after q n ws) (added t Delays Delay) t' is in
      rw (← added_ok t Delays Delay x.0 t' x.2) (delay_told x.0 ws x.1)
  by_line Show ws t' is =
      let x = and_then_ok (bit_after q n Show ws) (added t Shows Show) t' is in
      rw (← added_ok t Shows Show x.0 t' x.2) (show_told x.0 ws x.1)
  by_line Take ws t' is =
      let x = and_then_ok (bit_after q n Take ws) (added t Takes Take) t' is in
      rw (← added_ok t Takes Take x.0 t' x.2) (take_told x.0 ws x.1)

  step : (ws : List (List ℕ)) (t' : Told) → statement q n t ws ≡ Ok t' → Step q n ws t t'
  unfolding statement
  step [] t' is = rw (← same_value is) blank
  step (w ∷ ws) t' is = go (line_of w) refl is
    where
      go : (o : Option Line) → line_of w ≡ o → said q n t o ws ≡ Ok t' → Step q n (w ∷ ws) t t'
      go None e is = absurd (never is)
      go (Some l) e is = rw (word_is w l e) (by_line l ws t' is)

-- what the lines ls add to t, m the number of the first, counted from 0
record Steps (q m : ℕ) (ls : List (List ℕ)) (t t' : Told) : Type 0 where
  cycles : option_to_list t'.cycles ≡ option_to_list t.cycles ++ filter_map (λ l. after_word Cycles (number_after Cycles) (words (bare l))) ls
  start : option_to_list t'.start ≡ option_to_list t.start ++ filter_map (λ l. after_word Start (bits q) (words (bare l))) ls
  seed : option_to_list t'.seed ≡ option_to_list t.seed ++ filter_map (λ l. after_word Random (number_after Random) (words (bare l))) ls
  entries : (k : Kind) → entries t' k ≡ entries t k ++ filter_map (λ x. entry_on q x.0 k (words (bare x.1))) (enumerate_from m ls)

nothing_more : (q m : ℕ) (t : Told) → Steps q m [] t t
nothing_more q m t = record { cycles = same; start = same; seed = same; entries = λ k. same }

-- one more, and the rest
joined : {A : Type 0} (xs ys zs : List A) (o : Option A) (more : List A) → ys ≡ xs ++ option_to_list o → zs ≡ ys ++ more → zs ≡ xs ++ cons_option o more
joined xs ys zs None more first rest = rest ∙ rw first (ap (λ l. l ++ more) (append-nil xs))
joined xs ys zs (Some x) more first rest = rest ∙ rw (first, append_assoc) refl

one_before : (q m : ℕ) (l : List ℕ) (ls : List (List ℕ)) (t u v : Told) → Step q m (words (bare l)) t u → Steps q (m + 1) ls u v → Steps q m (l ∷ ls) t v
one_before q m l ls t u v s rest = record {
  cycles = joined _ _ _ _ _ s.cycles rest.cycles;
  start = joined _ _ _ _ _ s.start rest.start;
  seed = joined _ _ _ _ _ s.seed rest.seed;
  entries = λ k. joined _ _ _ _ _ (s.entries k) (rest.entries k);
}

ended_ok : (n : ℕ) (t : Told) (o : Option ℕ) (t' : Told) → ended n t o ≡ Ok t' → t ≡ t'
ended_ok n t None t' is = absurd (never is)
ended_ok n t (Some x) t' is = same_value is

went_ok : (r : Result Told Expected) (n : ℕ) (more : Told → Outcome) (t' : Told) → went r n more ≡ Ok t' → (t : Told) × (r ≡ Ok t) × (more t ≡ Ok t')
went_ok (Ok t) n more t' is = (t, refl, is)
went_ok (Err e) n more t' is = absurd (never is)

steps : (q n m : ℕ) (ls : List (List ℕ)) (t t' : Told) → n ≡ m + 1 → meaning q n t ls ≡ Ok t' → Steps q m ls t t'
unfolding meaning
steps q n m [] t t' n_is is = rw (← ended_ok n t t.cycles t' is) (nothing_more q m t)
steps q n m (l ∷ ls) t t' n_is is =
    let w = went_ok (statement q (n - 1) t (words (bare l))) n (λ u. meaning q (n + 1) u ls) t' is in
    let place : n - 1 ≡ m = omega (arith, n_is) in
    let first : (u : Told) → statement q (n - 1) t (words (bare l)) ≡ Ok u → Step q m (words (bare l)) t u = λ u h. step q m t (words (bare l)) u (rw place at h) in
    one_before q m l ls t w.0 t' (first w.0 w.1) (steps q (n + 1) (m + 1) ls w.0 t' (omega (arith, n_is)) w.2)

-- from nothing
by_lines : (q : ℕ) (ls : List (List ℕ)) (t : Told) → Steps q 0 ls nothing t → ByLines q ls t
by_lines q ls t s = record { cycles = sym s.cycles; start = sym s.start; seed = sym s.seed; entries = every }
  where
    every : (k : Kind) → filter_map (λ x. entry_on q x.0 k (words (bare x.1))) (enumerate_from 0 ls) ≡ entries t k
    every Clocks = sym (s.entries Clocks)
    every Takes = sym (s.entries Takes)
    every Delays = sym (s.entries Delays)
    every Shows = sym (s.entries Shows)

pub told_by_lines : ToldByLines
told_by_lines q ls t is = by_lines q ls t (steps q 1 0 ls nothing t (omega arith) is)

-- line i of the lines ls, m the number of the first, counted from 0, adds to what those above it tell after t
abbrev Added : (q m : ℕ) (ls : List (List ℕ)) (t : Told) (i : ℕ) → Type 0
Added q m ls t i = (u : Told) × (u' : Told) × Steps q m (take i ls) t u × (statement q (m + i) u (words (bare (slice_index_or ls i []))) ≡ Ok u')

-- the first fault of the lines ls, m the number of the first, counted from 0, after t is told
record Faulty (q m : ℕ) (ls : List (List ℕ)) (t : Told) (f : Fault) : Type 0 where
  above : ℕ
  told : Told
  told_above : Steps q m (take above ls) t told
  sound_above : (i : ℕ) → i < above → Added q m ls t i
  line : f.line ≡ m + above + 1
  fault : ((above < length ls) × (statement q (m + above) told (words (bare (slice_index_or ls above []))) ≡ Err f.expected)) ⊎ ((above ≡ length ls) × (told.cycles ≡ None) × (f.expected ≡ NoCycles))

abbrev fault_of : Fault → Outcome → Fault
fault_of g (Ok t) = g
fault_of g (Err f) = f

same_fault : (n : ℕ) (e : Expected) (f : Fault) → ◌≡◌ {A = Outcome} (Err (record { line = n; expected = e })) (Err f) → (f.line ≡ n) × (e ≡ f.expected)
same_fault n e f is =
    let f_is : record { line = n; expected = e } ≡ f = ap (fault_of f) is in
    (sym (ap (λ g. g.line) f_is), ap (λ g. g.expected) f_is)

ended_err : (q m n : ℕ) (t : Told) (f : Fault) → n ≡ m + 1 → (o : Option ℕ) → t.cycles ≡ o → ended n t o ≡ Err f → Faulty q m [] t f
ended_err q m n t f n_is None o_is is =
    let f_is = same_fault n NoCycles f is in
    record { above = 0; told = t; told_above = nothing_more q m t; sound_above = λ i h. absurd (omega arith); line = omega (arith, n_is, f_is.0); fault = inr (refl, o_is, sym f_is.1) }
ended_err q m n t f n_is (Some x) o_is is = absurd (never (sym is))

faulty : (q n m : ℕ) (ls : List (List ℕ)) (t : Told) (f : Fault) → n ≡ m + 1 → meaning q n t ls ≡ Err f → Faulty q m ls t f
unfolding meaning
faulty q n m [] t f n_is is = ended_err q m n t f n_is t.cycles refl is
faulty q n m (l ∷ ls) t f n_is is = go (λ u h. faulty q (n + 1) (m + 1) ls u f (omega (arith, n_is)) h) (statement q (n - 1) t (words (bare l))) refl is
  where
    place : n - 1 ≡ m
    place = omega (arith, n_is)

    each : (u : Told) → statement q (n - 1) t (words (bare l)) ≡ Ok u → Step q m (words (bare l)) t u → {a : ℕ} → ((i : ℕ) → i < a → Added q (m + 1) ls u i) → (i : ℕ) → i < suc a → Added q m (l ∷ ls) t i
    each u r_is s below zero h =
        let here : m + 0 ≡ m = omega arith in
        (t, u, nothing_more q m t, rw here (rw place at r_is))
    each u r_is s below (suc i) h =
        let more = below i (omega arith) in
        let on : m + suc i ≡ m + 1 + i = omega arith in
        (more.0, more.1, one_before q m l (take i ls) t u more.0 s more.2, rw on more.3)

    go : ((u : Told) → meaning q (n + 1) u ls ≡ Err f → Faulty q (m + 1) ls u f) → (r : Result Told Expected) → statement q (n - 1) t (words (bare l)) ≡ r → went r n (λ u. meaning q (n + 1) u ls) ≡ Err f → Faulty q m (l ∷ ls) t f
    go below (Err e) r_is is =
        let f_is = same_fault n e f is in
        let here : m + 0 ≡ m = omega arith in
        record { above = 0; told = t; told_above = nothing_more q m t; sound_above = λ i h. absurd (omega arith); line = omega (arith, n_is, f_is.0); fault = inl (omega arith, rw (here, ← f_is.1) (rw place at r_is)) }
    go below (Ok u) r_is is =
        let s = step q m t (words (bare l)) u (rw place at r_is) in
        let rest = below u is in
        let on : m + suc rest.above ≡ m + 1 + rest.above = omega arith in
        record {
          above = suc rest.above;
          told = rest.told;
          told_above = one_before q m l (take rest.above ls) t u rest.told s rest.told_above;
          sound_above = λ i h. each u r_is s rest.sound_above i h;
          line = omega (arith, rest.line);
          fault = elim rest.fault [ inl a ↦ inl (omega (arith, a.0), rw on a.1) | inr b ↦ inr (omega (arith, b.0), b.1, b.2) ];
        }

first_fault : (q : ℕ) (ls : List (List ℕ)) (f : Fault) → Faulty q 0 ls nothing f → FirstFault q ls f
first_fault q ls f g =
    let place : 0 + g.above ≡ g.above = omega arith in
    record { above = g.above; sound_above = each; told = g.told; told_above = by_lines q (take g.above ls) g.told g.told_above; line = omega (arith, g.line); fault = rw place at g.fault }
  where
    each : (i : ℕ) → i < g.above → Adds q ls i
    each i h =
        let x = g.sound_above i h in
        let same : 0 + i ≡ i = omega arith in
        (x.0, x.1, by_lines q (take i ls) x.0 x.2, rw same at x.3)

pub fault_is_first : FaultIsFirst
fault_is_first q ls f is = first_fault q ls f (faulty q 1 0 ls nothing f (omega arith) is)
