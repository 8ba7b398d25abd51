-- What holds at each turn of `lines`.
use Rattle.std.proofs.Common.{◌≡◌, Some, map, take}
use Rattle.history_core.specs.Shown.{kept_line}
use Rattle.cache_manager.proofs.manager.Manager.lines.Given as goal

-- the loads so far have their lines
abbrev pub invariant-loop-number : goal.invariant-loop-number
invariant-loop-number l = map Some l.lines ≡ map (kept_line l.self.entries) (take l.number-index l.number-items)
