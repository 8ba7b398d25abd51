-- The rows of the version of the loads lie after the plan, so that what is rolled up is what the cells are worth.
use Rattle.std.proofs.Common.{◌∙◌, ap, sym, subst, arith, List, All}
use Rattle.std.specs.List.{AllZip}
use Rattle.olap_meaning.specs.declared.cells.Cell.{Cell}
use Rattle.segment_body.specs.AllFolds as folds
use Rattle.fact_reader.specs.Laws.{RowsAreValued}
use Rattle.rollup_plan.specs.Rolls.{IsRolledUp, LieBehind}
use Rattle.cache_manager.proofs.Behind.{alike_columns, all_behind, all_rows, few_rows, named, ok_worth, shown}
use Rattle.cache_manager.proofs.rollups.roll.Goals as goal

pub roll_all-requires-clause-alike : goal.roll_all-requires-clause-alike
roll_all-requires-clause-alike c = ap folds.are_alike c.as_slice.ensures.value ∙ alike_columns c.args.rollup.now.cells.items c.requires.rollup.same

pub roll_all-requires-clause-behind : goal.roll_all-requires-clause-behind
roll_all-requires-clause-behind c =
    let whole : RowsAreValued c.args.history.now.setting.catalog = subst RowsAreValued (c.deref.ensures ∙ c.catalog.ensures) c.rows_are_valued.ensures in (
      c.args.history.now.setting.catalog,
      all_rows c.args.history.now.setting c.args.history.now.entries c.steps_are_legal.ensures whole c.args.shelf.now.loads c.requires.kept c.args.rollup.now c.requires.rollup,
      subst
          (All (λ cell. LieBehind c.args.history.now.setting.catalog cell c.args.shelf.now.loads c.args.rollup.now.plan (all_rows c.args.history.now.setting c.args.history.now.entries c.steps_are_legal.ensures whole c.args.shelf.now.loads c.requires.kept c.args.rollup.now c.requires.rollup)))
          (sym c.as_slice.ensures.value) (all_behind c.args.history.now.setting c.args.history.now.entries c.steps_are_legal.ensures whole c.args.shelf.now.loads c.requires.kept c.args.rollup.now c.requires.rollup),
      (let few = few_rows c.args.history.now.setting c.args.history.now.entries c.steps_are_legal.ensures whole c.args.shelf.now.loads c.requires.kept c.args.rollup.now c.requires.rollup in omega (arith, few, c.requires.limit)),
    )

pub version_of-requires : goal.version_of-requires
version_of-requires c =
    let whole : RowsAreValued c.args.history.now.setting.catalog = subst RowsAreValued (c.deref.ensures ∙ c.catalog.ensures) c.rows_are_valued.ensures in
    let first = shown c.args.history.now.setting c.args.history.now.entries c.steps_are_legal.ensures whole c.args.shelf.now.loads c.requires.kept c.args.rollup.now c.requires.rollup in
    (first.0, first.1, named c.args.history.now.setting c.args.history.now.entries c.steps_are_legal.ensures whole c.args.shelf.now.loads c.requires.kept c.args.rollup.now c.requires.rollup, first.3)

pub returns : goal.returns
returns c =
    let whole : RowsAreValued c.args.history.now.setting.catalog = subst RowsAreValued (c.deref.ensures ∙ c.catalog.ensures) c.rows_are_valued.ensures in
    let first = shown c.args.history.now.setting c.args.history.now.entries c.steps_are_legal.ensures whole c.args.shelf.now.loads c.requires.kept c.args.rollup.now c.requires.rollup in
    let version = c.version_of.ensures first.0 first.1 (named c.args.history.now.setting c.args.history.now.entries c.steps_are_legal.ensures whole c.args.shelf.now.loads c.requires.kept c.args.rollup.now c.requires.rollup) first.3 in
    let rows = all_rows c.args.history.now.setting c.args.history.now.entries c.steps_are_legal.ensures whole c.args.shelf.now.loads c.requires.kept c.args.rollup.now c.requires.rollup in
    let rolled : AllZip (IsRolledUp c.args.history.now.setting.catalog rows) c.args.rollup.now.cells.items c.in_ok-tallies.tallies =
    subst (λ (cells : List Cell). AllZip (IsRolledUp c.args.history.now.setting.catalog rows) cells c.in_ok-tallies.tallies) c.as_slice.ensures.value
    (c.in_ok-tallies.ensures.rolled c.args.history.now.setting.catalog rows
    (subst (All (λ cell. LieBehind c.args.history.now.setting.catalog cell c.args.shelf.now.loads c.args.rollup.now.plan rows)) (sym c.as_slice.ensures.value)
    (all_behind c.args.history.now.setting c.args.history.now.entries c.steps_are_legal.ensures whole c.args.shelf.now.loads c.requires.kept c.args.rollup.now c.requires.rollup))) in
    ok_worth c.args.history.now.setting c.args.history.now.entries c.steps_are_legal.ensures whole c.args.shelf.now.loads c.requires.kept c.args.rollup.now c.requires.rollup c.in_ok-tallies.tallies rolled c.worth_of.result
    (rw (version, c.as_slice-2.ensures) at c.worth_of.ensures)
