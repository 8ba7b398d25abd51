-- What holds at each turn of `read_values`.
use Rattle.std.proofs.Common.{◌≡◌, map, take}
use Rattle.cell_groups.specs.Gathered.{value_at}
use Rattle.cell_groups.specs.Lent.{lent}
use Rattle.cell_groups.proofs.values.read_values.Given as goal

abbrev pub invariant-loop-cell : goal.invariant-loop-cell
invariant-loop-cell l = l.values.items ≡ map (value_at l.place) (take l.cell-index (lent l.cells))
