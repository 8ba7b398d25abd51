-- What was found for the cells so far.
use Rattle.std.proofs.Common.{◌≡◌, All, take}
use Rattle.cache_manager.specs.Found.{IsFirst, IsHit, cells_of}
use Rattle.cache_manager.specs.Rollups.{IsRollup}
use Rattle.cache_manager.proofs.findings.look_for.Given as goal

abbrev pub invariant-loop-cell : goal.invariant-loop-cell
invariant-loop-cell l = record {
  cells : cells_of l.hits.items ≡ take l.cell-index l.cells;
  hits : All (IsHit l.history.setting.catalog l.history.entries l.rollups.items) l.hits.items;
  firsts : All (λ hit. IsFirst l.shelf.loads l.rollups.items hit.cell.now hit.found) l.hits.items;
  rollups : All (IsRollup l.history.setting.catalog l.history.entries l.shelf.loads) l.rollups.items;
}
