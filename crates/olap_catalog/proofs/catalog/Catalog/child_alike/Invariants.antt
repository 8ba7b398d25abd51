-- What holds at each turn of `child_alike`.
use Rattle.std.proofs.Common.{◌≡◌, drop, map}
use Rattle.std.specs.List.{find}
use Rattle.catalog_tables.specs.Names.{is_alike}
use Rattle.member_trees.specs.declared.node.Node.{Node}
use Rattle.olap_catalog.specs.Members.{child_text, child_values}
use Rattle.olap_catalog.proofs.catalog.Catalog.child_alike.Given as goal

abbrev pub invariant-loop-node : goal.invariant-loop-node
invariant-loop-node l =
    find (λ value. is_alike l.likeness l.name (child_text l.self l.h l.path value)) (map (λ (node : Node). node.value) (drop l.node-index l.node-items))
    ≡ find (λ value. is_alike l.likeness l.name (child_text l.self l.h l.path value)) (child_values l.self l.h l.path)
