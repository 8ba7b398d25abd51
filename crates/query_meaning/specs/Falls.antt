-- A shape is larger than the sets in it.
use Rattle.std.specs.Prelude.{◌≤◌}
use Rattle.std.proofs.Common.{arith}
use Rattle.query_meaning.specs.declared.set_text.SetShape.{SetShape}
use Rattle.query_meaning.specs.declared.set_text.SetShape.TheVariants.{Braces, Cross, Tuple, Picked}
use Rattle.query_meaning.specs.declared.set_text.SetText.TheDeep.{deep-SetShape}
use Rattle.query_meaning.specs.Tree.{set_size}
use Rattle.query_meaning.specs.View.{set_of}

pub shape_falls : (shape : SetShape) → deep-SetShape shape ≤ set_size (set_of shape)
shape_falls (Braces at sets) = omega arith
shape_falls (Cross at first second) = omega arith
shape_falls (Tuple at paths) = omega arith
shape_falls (Picked at path picks) = omega arith
