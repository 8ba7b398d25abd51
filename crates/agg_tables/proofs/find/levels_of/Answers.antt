-- That `levels_of` keeps what holds at each turn.
use Rattle.std.proofs.Common.{◌≡◌, ◌∙◌, ◌++◌, List, [], ◌∷◌, None, Some, filter_map, take, append-nil, ap, sym, refl}
use Rattle.std.specs.Prelude.{option_to_list}
use Rattle.agg_tables.specs.declared.declared.TableLevel.{TableLevel}
use Rattle.agg_tables.specs.Declarations.{each_once, level_column, table_level}
use Rattle.agg_tables.specs.Bound.{with_level}
use Rattle.agg_tables.proofs.FindFacts.{kept_next, once_more}
use Rattle.agg_tables.proofs.find.levels_of.Goals as goal
use Rattle.agg_tables.proofs.find.levels_of.Goals.{in-Some+in_ok-add_level, in_default}

pub loop-level-preserved : goal.loop-level-preserved
loop-level-preserved c =
    let catalog = c.args.catalog.now in
    let cube = c.args.cube.now in
    let level = c.level-item.result in
    let before = filter_map (table_level catalog cube) (take c.loop-level.level-index c.args.levels.now) in
    let next = kept_next (table_level catalog cube) c.args.levels.now c.loop-level.level-index level c.loop-level-test.true c.level-item.is in
    elim c.match-level_column.branch [
      | in-Some+in_ok-add_level w ↦
          let found : level_column catalog cube level ≡ Some w.in-Some.column = sym c.level_column.ensures ∙ w.in-Some.is in
          let one : option_to_list (table_level catalog cube level) ≡ record { column = w.in-Some.column; name = level.column } ∷ [] = rw found refl in
          w.found-is ∙ w.in_ok-add_level.ensures
          ∙ ap (λ (ls : List TableLevel). with_level ls (record { column = w.in-Some.column; name = level.column })) c.loop-level.invariant
          ∙ sym (once_more before (record { column = w.in-Some.column; name = level.column }))
          ∙ ap each_once (ap (λ (more : List TableLevel). before ++ more) (sym one) ∙ sym next)
      | in_default w ↦
          let none : level_column catalog cube level ≡ None = sym c.level_column.ensures ∙ w.in_default.is in
          let no : option_to_list (table_level catalog cube level) ≡ [] = rw none refl in
          w.found-is ∙ c.loop-level.invariant ∙ ap each_once (sym (next ∙ ap (λ (more : List TableLevel). before ++ more) no ∙ append-nil before))
    ]
