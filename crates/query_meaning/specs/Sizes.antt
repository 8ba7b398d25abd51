-- A set is larger than the sets in it: what a walk through a set ends by.
use Rattle.std.specs.Prelude.{◌+◌, ◌≤◌, List, [], ◌∷◌}
use Rattle.std.proofs.Common.{arith}
use denote.Param.Weighed.{most}
use Rattle.query_meaning.specs.Tree.{Set, set_size, sets_size, sets_of}

-- no set of a list is as large as the list
pub most_sets : (sets : List Set) → most (λ s. set_size s + 1) sets ≤ sets_size (sets_of sets)
most_sets [] = omega arith
most_sets (set ∷ sets) = omega (arith, most_sets sets)
