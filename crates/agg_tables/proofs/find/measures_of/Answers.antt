-- That `measures_of` keeps what holds at each turn.
use Rattle.std.proofs.Common.{◌≡◌, ◌∙◌, ◌++◌, List, [], ◌∷◌, Option, None, Some, filter_map, take, append-nil, ap, sym, bytes_eq, position}
use Rattle.std.specs.Prelude.{option_and_then, option_map, option_to_list, slice_get}
use Rattle.olap_meaning.specs.declared.tables.Measure.{Measure}
use Rattle.agg_tables.specs.declared.declared.TableMeasure.{TableMeasure}
use Rattle.agg_tables.specs.Declarations.{measure_with, table_measure}
use Rattle.agg_tables.proofs.FindFacts.{kept_next}
use Rattle.agg_tables.proofs.find.measures_of.Goals as goal
use Rattle.agg_tables.proofs.find.measures_of.Goals.{in-Some+in_ok-measure_at+in_ok-push, in_default}

pub loop-declared-preserved : goal.loop-declared-preserved
loop-declared-preserved c =
    let cube = c.args.cube.now in
    let declared = c.declared-item.result in
    let before = filter_map (table_measure cube) (take c.loop-declared.declared-index c.args.measures.now) in
    let next = kept_next (table_measure cube) c.args.measures.now c.loop-declared.declared-index declared c.loop-declared-test.true c.declared-item.is in
    let place : c.measure_place.result ≡ position (λ (measure : Measure). bytes_eq declared.measure measure.name) cube.measures = rw (c.as_slice.ensures, c.as_str.ensures) at c.measure_place.ensures in
    elim c.match-measure_place.branch [
      | in-Some+in_ok-measure_at+in_ok-push w ↦
          let at : position (λ (measure : Measure). bytes_eq declared.measure measure.name) cube.measures ≡ Some w.in-Some.place = sym place ∙ w.in-Some.is in
          let made : table_measure cube declared ≡ Some w.in_ok-measure_at.field-0 = ap (λ (o : Option _). option_and_then (λ p. option_map (measure_with p declared) (slice_get cube.measures p)) o) at ∙ w.in_ok-measure_at.ensures in
          w.found-is ∙ w.in_ok-push.ensures.ok
          ∙ ap (λ (ms : List TableMeasure). ms ++ w.in_ok-measure_at.field-0 ∷ []) c.loop-declared.invariant
          ∙ sym (next ∙ ap (λ (o : Option TableMeasure). before ++ option_to_list o) made)
      | in_default w ↦
          let at : position (λ (measure : Measure). bytes_eq declared.measure measure.name) cube.measures ≡ None = sym place ∙ w.in_default.is in
          let none : table_measure cube declared ≡ None = ap (λ (o : Option _). option_and_then (λ p. option_map (measure_with p declared) (slice_get cube.measures p)) o) at in
          w.found-is ∙ c.loop-declared.invariant ∙ sym (next ∙ ap (λ (o : Option TableMeasure). before ++ option_to_list o) none ∙ append-nil before)
    ]
