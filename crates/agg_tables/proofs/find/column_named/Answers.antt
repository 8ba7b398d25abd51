-- That `column_named` may call `column`.
use Rattle.std.proofs.lemmas.Option.{slice_get_within}
use Rattle.segment_header.proofs.RiseFacts.{all_at}
use Rattle.olap_meaning.specs.declared.tables.Column.{Column}
use Rattle.olap_meaning.proofs.Loads.{some_and}
use Rattle.std.proofs.Common.{◌≡◌, true, ◌==◌}
use Rattle.std.specs.Prelude.{slice_get}
use Rattle.olap_catalog.specs.Parts.{is_level}
use Rattle.agg_tables.proofs.find.column_named.Goals as goal

pub column-requires : goal.column-requires
column-requires c =
    let h = c.args.hierarchy.now in
    let columns = c.args.catalog.now.columns in
    let within = rw c.as_slice-column-items.ensures at c.loop-column-test.true in
    let is = rw c.as_slice-column-items.ensures at c.column-item.is in
    let level : is_level columns h.dimension c.column-item.result ≡ true = rw is (all_at (is_level columns h.dimension) h.levels c.loop-column.column-index c.column-item.result c.requires within) in
    let there = some_and (λ (own : Column). own.dimension == h.dimension) (slice_get columns c.column-item.result) level in
    slice_get_within columns c.column-item.result there.0 there.1
