-- What the regions of a catalog have in common.
use Rattle.std.specs.Prelude.{ℕ, ◌≡◌, ◌≤◌, ◌<◌, ◌⊎◌, List, None, All, length, slice_get, IsTrue}
use Rattle.std.specs.List.{list_all, list_any}
use Rattle.std.specs.Option.{option_map_or}
use Rattle.olap_meaning.specs.declared.cells.Member.{Member}
use Rattle.olap_meaning.specs.declared.cells.Member.TheVariants as member
use Rattle.olap_meaning.specs.declared.regions.Region.{Region}
use Rattle.olap_meaning.specs.declared.tables.Catalog.{Catalog}
use Rattle.olap_meaning.specs.Legal.{is_box, is_measures}
use Rattle.query_meaning.specs.declared.TheConstants.{BOX_LIMIT}

-- a region is bounded, as the calls give it: it has not too many boxes, and its boxes name measures only where the
-- measures are among its dimensions
pub record IsBounded (region : Region) : Type 0 where
  pub limit : length region.boxes ≤ BOX_LIMIT
  pub measures : IsTrue (list_any is_measures region.dims)
      ⊎ All (λ box. box.measures ≡ None) region.boxes

-- a region is a bounded one of a cube, and the columns and values of its boxes are the catalog's
pub record IsBoundedOf (catalog : Catalog) (cube : ℕ) (region : Region) : Type 0 where
  pub of_cube : region.cube ≡ cube
  pub bounded : IsBounded region
  pub boxes : IsTrue (list_all (is_box catalog) region.boxes)

-- the cube of the first of some regions
abbrev pub cube_of : List Region → ℕ
cube_of parts = option_map_or (λ part. part.cube) (slice_get parts 0) 0

-- a member is a measure, or its hierarchy is one of a catalog
abbrev pub HasHierarchy : Catalog → Member → Type 0
HasHierarchy catalog (member.Measure m) = Unit {0}
HasHierarchy catalog (member.All h) = h < length catalog.hierarchies
HasHierarchy catalog (member.At h path) = h < length catalog.hierarchies
