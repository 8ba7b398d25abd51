use Rattle.std.proofs.Common.{◌≡◌, suc, ◌-◌, ◌++◌, ◌∷◌, take, length, flat_map}
use Rattle.olap_meaning.specs.Catalog.{below, under}
use Rattle.member_trees.proofs.tree.MemberTree.+add_under.Given as goal

abbrev pub decreases-add_under : goal.decreases-add_under
decreases-add_under l = l.self.now.levels - length l.path.now

abbrev pub invariant-loop-place : goal.invariant-loop-place
invariant-loop-place l = l.paths ≡ l.fn.paths ++ flat_map (λ next. next ∷ under l.self.leaves (l.self.levels - suc (length l.path)) next) (take (l.place - l.fn.span.start) (below l.self.leaves l.path))
