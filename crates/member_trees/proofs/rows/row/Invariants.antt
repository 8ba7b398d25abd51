-- What the loop of `row` keeps: the nodes of the members so far, and how many children they have.
use Rattle.std.proofs.Common.{◌≡◌, [], take, length, flat_map, slice_index_or}
use Rattle.member_trees.specs.Numbered.{listed_nodes}
use Rattle.member_trees.proofs.rows.row.Given as goal

abbrev pub invariant-loop-one : goal.invariant-loop-one
invariant-loop-one l = record {
  listed : l.row.items ≡ listed_nodes l.children (take l.one-index l.placed);
  counted : l.first ≡ length (flat_map (λ one. slice_index_or l.children one.number []) (take l.one-index l.placed));
}
