-- That `columns_in` ensures what it says.
use Rattle.std.proofs.Common.{◌<◌, length}
use Rattle.segment_body.proofs.TableFacts.{columns_are, not_empty}
use Rattle.segment_body.proofs.tables.columns_in.Goals as goal

pub returns : goal.returns
returns c =
    let some : 0 < length c.args.cells.now = not_empty (length c.args.cells.now) c.if-is_empty.ensures in
    columns_are c.args.cells.now c.index-cells-0.result c.columns_at.result c.index-cells-0.is some c.requires (rw (c.as_slice.ensures, ← c.index-cells-0.is) at c.columns_at.ensures)
