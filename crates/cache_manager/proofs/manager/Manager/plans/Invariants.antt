-- What holds at each turn of `plans`.
use Rattle.std.proofs.Common.{◌≡◌, ◌+◌, length, map, take}
use Rattle.segment_header.specs.contracts.widener.WidenerAllowsValues.TheImpl.{answers-value}
use Rattle.segment_header.specs.Widening.{Widened}
use Rattle.cell_groups.specs.Lent.{lent}
use Rattle.cache_manager.specs.Plans.{ArePrepared}
use Rattle.cache_manager.proofs.manager.Manager.plans.Given as goal

-- the groups so far are prepared, and the number of the next load is known
abbrev pub invariant-loop-group : goal.invariant-loop-group
invariant-loop-group g l = record {
  planned : ArePrepared (Widened ((answers-value g.dyn-1).it l.widener)) l.self l.who (lent l.wanted) (length l.self.entries + 1) (map (λ group. group.first.now) (take l.group-index l.group-items)) l.plans.items;
  number : l.load ≡ length l.self.entries + 1 + l.group-index;
}
