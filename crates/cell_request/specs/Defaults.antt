-- The boxes of the default members of a cube's hierarchies.
use Rattle.std.specs.Prelude.{ℕ, false, List, [], ◌∷◌, if◌then◌else◌, map, slice_get}
use Rattle.std.specs.Option.{option_map_or}
use Rattle.olap_meaning.specs.declared.cells.LevelRef.TheVariants.{Whole}
use Rattle.olap_meaning.specs.declared.tables.Catalog.{Catalog}
use Rattle.olap_meaning.specs.Catalog.{box, default_member, hierarchies_within}
use Rattle.cell_request.specs.declared.defaults.DefaultBox.{DefaultBox}
use Rattle.cell_request.specs.Boxes.{is_within}

-- a hierarchy with the box of its default member, or with no pair where it has no member
abbrev pub default_box : Catalog → ℕ → ℕ → DefaultBox
default_box catalog cube h = record {
  hierarchy = h;
  pairs = option_map_or (box catalog) (default_member catalog cube (Whole h)) [];
}

-- the hierarchies of a cube's dimensions with such boxes, in the schema's order
abbrev pub default_boxes : Catalog → ℕ → List DefaultBox
default_boxes catalog cube = map (default_box catalog cube) (hierarchies_within catalog cube)

-- such a box of a hierarchy alone, and none where it is of no dimension of the cube
abbrev pub default_boxes_at : Catalog → ℕ → ℕ → List DefaultBox
default_boxes_at catalog cube h =
    if option_map_or (is_within catalog cube) (slice_get catalog.hierarchies h) false
    then default_box catalog cube h ∷ [] else []
