-- A set at the end of a list of sets.
use Rattle.std.proofs.Common.{◌≡◌, ap, refl, List, [], ◌∷◌, ◌++◌}
use Rattle.query_meaning.specs.Tree.{Set, more, pushed, sets_of}

pub push_is : (sets : List Set) (set : Set) → sets_of (sets ++ set ∷ []) ≡ pushed (sets_of sets) set
push_is [] set = refl
push_is (first ∷ sets) set = ap (more first) (push_is sets set)
