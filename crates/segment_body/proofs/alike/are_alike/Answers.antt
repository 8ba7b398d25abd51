-- That `are_alike` ensures what it says.
use Rattle.std.proofs.Common.{◌-◌, ◌∙◌, arith, length}
use Rattle.segment_body.proofs.TableFacts.{alike_first}
use Rattle.segment_body.proofs.alike.are_alike.Goals as goal

pub returns : goal.returns
returns c =
    (rw (c.as_slice.ensures, ← c.index-cells-0.is) at c.have_columns.ensures)
    ∙ alike_first c.args.cells.now c.index-cells-0.result (length c.args.cells.now - 1) c.index-cells-0.is (omega arith)
