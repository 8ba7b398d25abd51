-- The loads that the cells so far await.
use Rattle.std.proofs.Common.{◌≡◌, take}
use Rattle.history_core.specs.Groups.{awaited_loads}
use Rattle.cell_groups.specs.Lent.{lent}
use Rattle.cache_manager.proofs.manager.Manager.awaited_by.Given as goal

abbrev pub invariant-loop-cell : goal.invariant-loop-cell
invariant-loop-cell l = l.found.items ≡ awaited_loads l.self.entries (lent (take l.cell-index l.cells))
