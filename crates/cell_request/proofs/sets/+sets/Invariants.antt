-- What `set_part` and `item_parts` end by, and what holds at each turn of `item_parts`.
use Rattle.std.proofs.Common.{◌≡◌, Ok, All, map, take}
use Rattle.query_meaning.specs.Resolution.{items_meant}
use Rattle.query_meaning.specs.Tree.{set_size, sets_of, sets_size}
use Rattle.cell_request.specs.Parts.{item_of, IsItemOf}
use Rattle.cell_request.proofs.sets.+sets.Given as goal

abbrev pub decreases-set_part : goal.decreases-set_part
decreases-set_part l = set_size l.set.now

abbrev pub decreases-item_parts : goal.decreases-item_parts
decreases-item_parts l = sets_size (sets_of l.sets.now)

abbrev pub invariant-item_parts-loop-set : goal.invariant-item_parts-loop-set
invariant-item_parts-loop-set l = (items_meant l.catalog l.cube (sets_of (take l.set-index l.sets)) ≡ Ok (map (item_of l.catalog l.cube) l.items)) × All (IsItemOf l.catalog l.cube) l.items
