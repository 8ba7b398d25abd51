-- The cells so far that await no load.
use Rattle.std.proofs.Common.{◌≡◌, take}
use Rattle.history_core.specs.Groups as groups
use Rattle.cell_groups.specs.Lent.{lent}
use Rattle.cache_manager.proofs.manager.Manager.unawaited.Given as goal

abbrev pub invariant-loop-cell : goal.invariant-loop-cell
invariant-loop-cell l = lent l.found.items ≡ groups.unawaited l.self.entries (lent (take l.cell-index l.cells))
