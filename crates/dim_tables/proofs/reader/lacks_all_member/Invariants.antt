-- What holds at each turn of `lacks_all_member`.
use Rattle.std.proofs.Common.{◌≡◌, drop}
use Rattle.std.specs.List.{list_all}
use Rattle.dim_tables.proofs.reader.lacks_all_member.Given as goal

abbrev pub invariant-loop-hierarchy : goal.invariant-loop-hierarchy
invariant-loop-hierarchy l = list_all (λ hierarchy. hierarchy.has_all) (drop l.hierarchy-index l.hierarchy-items) ≡ list_all (λ hierarchy. hierarchy.has_all) l.hierarchy-items
