-- What a clause sees of the sets of the code.
use Rattle.query_meaning.specs.declared.set_text.SetShape.{SetShape}
use Rattle.query_meaning.specs.declared.set_text.SetShape.TheVariants.{Braces, Cross, Tuple, Picked}
use Rattle.query_meaning.specs.Tree.{Set}
use Rattle.query_meaning.specs.Tree as tree

-- the set of a shape
abbrev pub set_of : SetShape → Set
set_of (Braces at sets) = tree.Braces at sets
set_of (Cross at first second) = tree.Cross at first.value second.value
set_of (Tuple at paths) = tree.Tuple at paths
set_of (Picked at path picks) = tree.Picked at path picks
