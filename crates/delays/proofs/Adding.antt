-- A statement that is added to what is told.
use Rattle.std.proofs.Common.{◌≡◌, ℕ, ◌+◌, ◌<◌, ◌≤◌, Bool, true, false, List, [], ◌∷◌, ◌++◌, length, nat_le, get_or, Ok, Err, Option, refl, ap, inr, arith}
use Rattle.std.specs.List.{list_all}
use Rattle.std.proofs.lemmas.List.{length-append, get_or_append_left}
use Rattle.std.proofs.lemmas.List.Sums.{list_all-from_AllPass}
use Rattle.std.proofs.lemmas.List.Folds.{list_all_at}
use Rattle.std.proofs.lemmas.Bool.{le-leb, lt-leb}
use Rattle.std.proofs.Math.Seq.{get_or-append_seam}
use Rattle.fields.specs.declared.fault.Expected.TheVariants.{NoEarlier}
use Rattle.fields.specs.declared.line.Line.{Line}
use Rattle.script.specs.declared.entry.Entry.{Entry}
use Rattle.script.specs.declared.kind.Kind.{Kind}
use Rattle.script.specs.declared.kind.Kind.TheVariants.{Clock, Take, Delay, Show}
use Rattle.script.specs.declared.script.Script.{Script}
use Rattle.script.specs.Entries.{no_entry, Added}
use Rattle.script.specs.Pushed.{PushAnswer, entries}
use Rattle.delays.specs.Meaning.{told, added, with_entries, entries as told_entries, Stated}

-- no later than e
abbrev upto : Entry → Entry → Bool
upto e x = nat_le x.when e.when

module _ (es es' : List Entry) (e : Entry) where
  in_order : Added e es es' true → list_all (upto e) es ≡ true
  in_order (is, ordered) = list_all-from_AllPass (upto e) es (λ k d l. le-leb _ _ (least k d l))
    where
      least : (k : ℕ) (d : Entry) → k < length es → (get_or es k d).when ≤ e.when
      least k d l =
          let long : length (es ++ (e ∷ [])) ≡ length es + 1 = length-append es (e ∷ []) in
          let o = rw is at ordered in
          let h = o k (length es) d (omega arith) (omega (arith, long)) in
          rw (get_or_append_left es (e ∷ []) d k l, get_or-append_seam es e [] d) at h

  out_of_order : Added e es es' false → list_all (upto e) es ≡ false
  out_of_order (later, same) = list_all_at (upto e) es later.0 no_entry later.1 (lt-leb _ _ later.2)

same_entries : (c : Option ℕ) (s : Script) (k : Kind) → told_entries (told c s) k ≡ entries s k
same_entries c s Clock = refl
same_entries c s Take = refl
same_entries c s Delay = refl
same_entries c s Show = refl

-- kinds are told apart by their places
abbrev place : Kind → ℕ
place Clock = 0
place Take = 1
place Delay = 2
place Show = 3

apart : (other k : Kind) → (place other ≡ place k → ⊥) → other ≡ k → ⊥
apart other k ne e = ne (ap place e)

module _ (c : Option ℕ) (k : Kind) (l : Line) (e : Entry) (s s' : Script) where
  pub refused : PushAnswer k e s s' false → Stated (added (told c s) k l e) (told c s') (Err (NoEarlier l))
  refused p = inr (rw (same_entries c s k, out_of_order _ _ e p.this) refl)

  pub pushed : PushAnswer k e s s' true → Stated (added (told c s) k l e) (told c s') (Ok (record {}))
  pushed p = rw (same_entries c s k, in_order _ _ e p.this) (ap (λ t. Ok t) (put k p))
    where
      put : (k : Kind) → PushAnswer k e s s' true → with_entries (told c s) k (entries s k ++ (e ∷ [])) ≡ told c s'
      put Clock p =
          let takes : s'.takes ≡ s.takes = p.others Take (apart Take Clock (λ z. omega arith)) in
          let delays : s'.delays ≡ s.delays = p.others Delay (apart Delay Clock (λ z. omega arith)) in
          let shows : s'.shows ≡ s.shows = p.others Show (apart Show Clock (λ z. omega arith)) in
          rw (p.head.start_same, p.head.seed_same, p.this.0, takes, delays, shows) refl
      put Take p =
          let clocks : s'.clocks ≡ s.clocks = p.others Clock (apart Clock Take (λ z. omega arith)) in
          let delays : s'.delays ≡ s.delays = p.others Delay (apart Delay Take (λ z. omega arith)) in
          let shows : s'.shows ≡ s.shows = p.others Show (apart Show Take (λ z. omega arith)) in
          rw (p.head.start_same, p.head.seed_same, p.this.0, clocks, delays, shows) refl
      put Delay p =
          let clocks : s'.clocks ≡ s.clocks = p.others Clock (apart Clock Delay (λ z. omega arith)) in
          let takes : s'.takes ≡ s.takes = p.others Take (apart Take Delay (λ z. omega arith)) in
          let shows : s'.shows ≡ s.shows = p.others Show (apart Show Delay (λ z. omega arith)) in
          rw (p.head.start_same, p.head.seed_same, p.this.0, clocks, takes, shows) refl
      put Show p =
          let clocks : s'.clocks ≡ s.clocks = p.others Clock (apart Clock Show (λ z. omega arith)) in
          let takes : s'.takes ≡ s.takes = p.others Take (apart Take Show (λ z. omega arith)) in
          let delays : s'.delays ≡ s.delays = p.others Delay (apart Delay Show (λ z. omega arith)) in
          rw (p.head.start_same, p.head.seed_same, p.this.0, clocks, takes, delays) refl
