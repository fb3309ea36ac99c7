-- Margins of a register, by the cone of the signal that it takes.
use Rattle.std.proofs.Common.{◌≡◌, ℕ, ◌+◌, ◌<◌, List, sym, ap₂, ◌∙◌, arith}
use Rattle.circuit.specs.Circuit.{signals, Sound}
use Rattle.circuit.specs.Lent.{gate_count, register_count, drawn, takes}
use Rattle.circuit.specs.Whole.{Whole}
use Rattle.circuit.proofs.LentLaws.{gates_in_length, gates_in_at, sound_in}
use Rattle.arrival.specs.declared.edge.Edge.{Edge}
use Rattle.arrival.specs.declared.edge.Edge.TheVariants.{Late, Early}
use Rattle.arrival.specs.Lent.{source}
use Rattle.promise.specs.Machine.{machine_in, since, still_for, last_change, first_change}
use Rattle.promise.proofs.Lent.{formed_in}
use Rattle.slack.specs.Margin.{margin_of}
use Rattle.cone.specs.Cone.{InCone, MapsCone, MapsTimes, HasSameCone}
use Rattle.cone.specs.Register.{ConeMargins, SameToRegister, SameConeMargins}
use Rattle.cone.proofs.ConeLaws.{cone_times, cone_told, same_cone, mapped_same, closed}

pub cone_margins : ConeMargins
cone_margins Late f m n r q fm fn hr hq sees =
    let inside = fm.taken r hr in
    let on = (closed m.circuit (m.takes r) fm.sound inside).0 in
    let time : last_change m (m.takes r) ≡ last_change n (f (m.takes r)) = cone_times Late f m.circuit n.circuit (since m) (since n) (m.takes r) fm.sound fn.sound sees.cone
    (λ i h on. ap₂ (λ x y. x + y) (sees.launch_late i h on) sees.output_late) (m.takes r) inside on in
    rw (time, sees.takes, sees.period, sees.early_same, sees.setup)
cone_margins Early f m n r q fm fn hr hq sees =
    let inside = fm.taken r hr in
    let on = (closed m.circuit (m.takes r) fm.sound inside).0 in
    let time : first_change m (m.takes r) ≡ first_change n (f (m.takes r)) = cone_times Early f m.circuit n.circuit (still_for m) (still_for n) (m.takes r) fm.sound fn.sound sees.cone
    (λ i h on. ap₂ (λ x y. x + y) (sees.launch_early i h on) sees.output_early) (m.takes r) inside on in
    rw (time, sees.takes, sees.late_same, sees.hold)

module _ (g r t g' r' t' : List ℕ) (w : Whole g r t) (w' : Whole g' r' t') (q : ℕ) (h : q < register_count r) (same : SameToRegister g r t g' r' t' q) where
  sound : Sound (drawn g r)
  sound = sound_in _ _ w.placed w.ranged

  sound' : Sound (drawn g' r')
  sound' = sound_in _ _ w'.placed w'.ranged

  in_cone : HasSameCone (drawn g r) (drawn g' r') (takes r q)
  in_cone = (
    same.register_counts,
    λ k l on.
        let i : k < gate_count g = omega (arith, gates_in_length g) in
        let (i', gate_same) = same.cone k i on in
        (omega (arith, i', gates_in_length g'), rw (gates_in_at g k i, gates_in_at g' k i') gate_same),
  )

  cone : MapsCone (λ i. i) (drawn g r) (drawn g' r') (takes r q)
  cone = same_cone (drawn g r) (drawn g' r') (takes r q) in_cone

  sources : (e : Edge) → MapsTimes (λ i. i) (drawn g r) (takes r q) (source e r t) (source e r' t')
  sources Late i h on = rw ((same.launches i h on).1, same.five)
  sources Early i h on = rw ((same.launches i h on).0, same.five)

  taken : takes r q < signals (drawn g r)
  taken = omega (arith, (w.tied q h).0, gates_in_length g)

  on : InCone (drawn g r) (takes r q) (takes r q)
  on = (closed (drawn g r) (takes r q) sound taken).0

  margin : (e : Edge) → margin_of e (machine_in g r t) q ≡ margin_of e (machine_in g' r' t') q
  margin e = cone_margins e (λ i. i) (machine_in g r t) (machine_in g' r' t') q q
      (formed_in g r t w.placed w.ranged w.tied w.ordered) (formed_in g' r' t' w'.placed w'.ranged w'.tied w'.ordered) h (omega (arith, same.register_counts))
      (record {
        period = rw same.five;
        output_early = rw same.five;
        output_late = rw same.five;
        setup = rw same.five;
        hold = rw same.five;
        early_same = same.early_same;
        late_same = same.late_same;
        takes = same.signal;
        cone = cone;
        launch_early = λ i h on. (same.launches i h on).0;
        launch_late = λ i h on. (same.launches i h on).1;
      })

pub same_margins : SameConeMargins
same_margins g r t g' r' t' q w w' h same e =
    let told = cone_told e (λ i. i) (drawn g r) (drawn g' r') (source e r t) (source e r' t') (takes r q) (sound g r t g' r' t' w w' q h same) (sound' g r t g' r' t' w w' q h same)
    (cone g r t g' r' t' w w' q h same) (sources g r t g' r' t' w w' q h same e) (takes r q) (taken g r t g' r' t' w w' q h same) (on g r t g' r' t' w w' q h same) in (
      margin g r t g' r' t' w w' q h same e,
      cone_times e (λ i. i) (drawn g r) (drawn g' r') (source e r t) (source e r' t') (takes r q) (sound g r t g' r' t' w w' q h same) (sound' g r t g' r' t' w w' q h same)
          (cone g r t g' r' t' w w' q h same) (sources g r t g' r' t' w w' q h same e) (takes r q) (taken g r t g' r' t' w w' q h same) (on g r t g' r' t' w w' q h same),
      sym told.0,
      sym (told.1 ∙ mapped_same (drawn g r) (drawn g' r') _ same.register_counts),
    )
