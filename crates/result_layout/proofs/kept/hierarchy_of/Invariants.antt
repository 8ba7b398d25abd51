-- What holds at each turn of `hierarchy_of`: none so far has the column.
use Rattle.std.proofs.Common.{◌≡◌, false, take}
use Rattle.std.specs.List.{list_any}
use Rattle.olap_meaning.specs.Covering.{among}
use Rattle.result_layout.proofs.kept.hierarchy_of.Given as goal

abbrev pub invariant-loop-h : goal.invariant-loop-h
invariant-loop-h l = list_any (λ hierarchy. among hierarchy.levels l.column) (take l.h l.catalog.hierarchies) ≡ false
