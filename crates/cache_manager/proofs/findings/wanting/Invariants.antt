-- The cells so far for which nothing was found.
use Rattle.std.proofs.Common.{◌≡◌, filter, take}
use Rattle.cache_manager.specs.Found.{cells_of, wants}
use Rattle.cell_groups.specs.Lent.{lent}
use Rattle.cache_manager.proofs.findings.wanting.Given as goal

abbrev pub invariant-loop-hit : goal.invariant-loop-hit
invariant-loop-hit l = lent l.wanted.items ≡ cells_of (filter wants (take l.hit-index l.hits))
