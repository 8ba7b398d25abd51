-- Each turn adds a column, and all columns make the header.
use Rattle.std.proofs.Common.{refl, rules}
use Rattle.cell_groups.specs.Lent.{lent}
use Rattle.cell_groups.proofs.HeaderFacts.{columns_more, header_made}
use Rattle.cell_groups.proofs.header.header_for.Goals as goal

pub loop-place-preserved : goal.loop-place-preserved
loop-place-preserved g c =
    columns_more _ c.args.catalog.now c.args.group.now.first.now (lent c.args.group.now.cells.items) c.loop-place.place c.column_at.result c.in_ok-allowed.allowed c.loop-place.columns.items _ (search rules) c.column_at.ensures c.in_ok-push.ensures.items
    c.in_ok-allowed.ensures.allowed c.in_ok-allowed.ensures.serves c.loop-place.invariant

pub returns : goal.returns
returns g c =
    rw c.from_vec.ensures
    (header_made _ c.args.catalog.now c.args.group.now.first.now (lent c.args.group.now.cells.items) c.loop-place.place _ (search rules) refl refl c.loop-place.invariant)
