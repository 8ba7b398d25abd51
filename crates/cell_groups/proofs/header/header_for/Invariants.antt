-- The columns so far are the group's, each with what the widener may allow there.
use Rattle.segment_header.specs.Widening.{Widened}
use Rattle.segment_header.specs.contracts.widener.WidenerAllowsValues as widener
use Rattle.cell_groups.specs.Lent.{lent}
use Rattle.cell_groups.proofs.HeaderFacts.{ColumnsSoFar}
use Rattle.cell_groups.proofs.header.header_for.Given as goal

abbrev pub invariant-loop-place : goal.invariant-loop-place
invariant-loop-place g l = ColumnsSoFar (Widened ((widener.TheImpl.ghosts g.dyn-1).answers l.widener)) l.catalog l.group.first.now (lent l.group.cells.items) l.place l.columns.items
