-- What holds at each turn of `group_cells`.
use Rattle.std.proofs.Common.{map}
use Rattle.cell_groups.specs.Gathered.{seen}
use Rattle.cell_groups.specs.Lent.{lent}
use Rattle.cell_groups.proofs.GroupFacts.{SoFar}
use Rattle.cell_groups.proofs.groups.group_cells.Given as goal

abbrev pub invariant-loop-cell : goal.invariant-loop-cell
invariant-loop-cell l = SoFar l.catalog (lent l.cells) l.cell-index l.keys.keys (map seen l.groups.items)
