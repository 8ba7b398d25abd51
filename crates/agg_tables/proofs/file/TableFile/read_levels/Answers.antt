-- That `read_levels` ensures `err`, may call `text` and `find_value`, and keeps what holds at each turn.
use Rattle.std.proofs.Common.{◌≡◌, ◌∙◌, None, Some, sym}
use Rattle.olap_meaning.specs.Records.{column_place}
use Rattle.csv_records.proofs.PlaceFacts.{field_there, place_in_row}
use Rattle.fact_reader.proofs.RowFacts.{mapped_at}
use Rattle.agg_tables.specs.declared.declared.TableLevel.{TableLevel}
use Rattle.agg_tables.specs.declared.fault.AggFault.TheVariants.{UnknownValue}
use Rattle.agg_tables.specs.Files.{level_value}
use Rattle.agg_tables.proofs.ReadFacts.{level_there, levels_from, unknown_or_not, values_upto}
use Rattle.agg_tables.proofs.file.TableFile.read_levels.Goals as goal

pub text-text-requires-clause-within : goal.text-text-requires-clause-within
text-text-requires-clause-within c =
    let a = c.self.inside in
    let level = c.index-levels-k.result in
    let csv = rw (← c.self.view_is) at c.requires in
    let within = rw c.as_slice-levels.ensures at c.loop-k-test.true in
    let is = rw c.as_slice-levels.ensures at c.index-levels-k.is in
    let placed = mapped_at (λ (l : TableLevel). column_place l.name a.header) a.level_places.items a.declared.now.levels c.loop-k.k level c.index.result.now c.self.invariant.levels_placed within is c.index.ensures in
    place_in_row a.header c.args.row.now level.name c.index.result.now csv placed

pub find_value-requires : goal.find_value-requires
find_value-requires c =
    let a = c.self.inside in
    let placed = c.self.invariant.bound.placed in
    let within = rw c.as_slice-levels.ensures at c.loop-k-test.true in
    let is = rw c.as_slice-levels.ensures at c.index-levels-k.is in
    level_there a.catalog.now placed.cube a.declared.now.levels c.loop-k.k c.index-levels-k.result placed.own within is

pub returns-in_default-clause-err : goal.returns-in_default-clause-err
returns-in_default-clause-err c =
    let a = c.self.inside in
    let level = c.index-levels-k.result in
    let within = rw c.as_slice-levels.ensures at c.loop-k-test.true in
    let is = rw c.as_slice-levels.ensures at c.index-levels-k.is in
    let placed = mapped_at (λ (l : TableLevel). column_place l.name a.header) a.level_places.items a.declared.now.levels c.loop-k.k level c.index.result.now c.self.invariant.levels_placed within is c.index.ensures in
    let field = field_there a.header c.args.row.now level.name c.text-text.result.now c.index.result.now placed c.text-text.ensures in
    let means : level_value a.catalog.now a.header c.args.row.now level ≡ None = rw field (sym c.find_value.ensures.found ∙ c.in_default.is) in
    let step = levels_from a.catalog.now a.header c.args.n c.args.row.now c.as_slice-levels.result.now c.loop-k.k level None c.loop-k-test.true c.index-levels-k.is means in
    let own = rw (← c.self.view_is) at c.loop-k.invariant.rest_faults in
    let whole = sym own ∙ step in
    rw (← c.self.view_is) (unknown_or_not c.unknown_value.result (UnknownValue c.args.n level.name) _ (rw c.as_slice-levels.ensures at whole) c.unknown_value.ensures)

pub loop-k-preserved : goal.loop-k-preserved
loop-k-preserved c =
    let a = c.self.inside in
    let level = c.index-levels-k.result in
    let within = rw c.as_slice-levels.ensures at c.loop-k-test.true in
    let is = rw c.as_slice-levels.ensures at c.index-levels-k.is in
    let placed = mapped_at (λ (l : TableLevel). column_place l.name a.header) a.level_places.items a.declared.now.levels c.loop-k.k level c.index.result.now c.self.invariant.levels_placed within is c.index.ensures in
    let field = field_there a.header c.args.row.now level.name c.text-text.result.now c.index.result.now placed c.text-text.ensures in
    let means : level_value a.catalog.now a.header c.args.row.now level ≡ Some c.in-Some.value = rw field (sym c.find_value.ensures.found ∙ c.in-Some.is) in
    let step = levels_from a.catalog.now a.header c.args.n c.args.row.now c.as_slice-levels.result.now c.loop-k.k level (Some c.in-Some.value) c.loop-k-test.true c.index-levels-k.is means in
    let own = rw (← c.self.view_is) at c.loop-k.invariant.rest_faults in
    let so_far = rw (← c.self.view_is) at c.loop-k.invariant.values in
    record {
      values = rw (← c.self.view_is, c.in_ok-push.ensures.items) (values_upto a.catalog.now a.header c.args.row.now c.as_slice-levels.result.now c.loop-k.k c.in-Some.value level c.loop-k.found.items c.loop-k-test.true c.index-levels-k.is means so_far);
      rest_faults = rw (← c.self.view_is) (sym step ∙ own);
    }
