-- That `cheapest` ensures what it says.
use Rattle.std.proofs.Common.{◌∙◌, Some, length, map, sym, ap, arith}
use Rattle.std.proofs.lemmas.Bool.{ltb-false, ltb-true}
use Rattle.std.specs.Prelude.{option_map}
use Rattle.std.proofs.lemmas.List.{length-map}
use Rattle.std.proofs.lemmas.Option.{slice_get-get_or, slice_get-map, slice_get_past}
use Rattle.std.specs.Arc.{arc_value}
use Rattle.agg_tables.specs.Tables.{TableOf}
use Rattle.segment_load.proofs.choice.cheapest.Goals as goal

pub returns-in-None-get : goal.returns-in-None-get
returns-in-None-get c =
    let beyond = ltb-false c.in-Some.place (length c.args.tables.now) (sym c.in-None-get.ensures.lookup.0) in
    sym (slice_get_past (map (λ table. table.value) c.args.tables.now) c.in-Some.place (omega (arith, beyond, length-map c.args.tables.now (λ table. table.value)))) ∙ c.in-Some.ensures

pub returns-in_ok-try_clone-in-Some-get : goal.returns-in_ok-try_clone-in-Some-get
returns-in_ok-try_clone-in-Some-get c =
    let inside = ltb-true c.in-Some.place (length c.args.tables.now) (sym c.in-Some-get.ensures.lookup.0) in
    let at = slice_get-get_or c.args.tables.now c.in-Some.place c.in-Some-get.table.now inside ∙ ap (λ t. Some t) (sym c.in-Some-get.ensures.lookup.1) in
    ap (λ (t : TableOf). Some t) c.in_ok-try_clone-in-Some-get.ensures
    ∙ sym (slice_get-map arc_value c.args.tables.now c.in-Some.place ∙ ap (option_map arc_value) at)
    ∙ c.in-Some.ensures
