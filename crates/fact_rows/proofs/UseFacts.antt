-- In a whole catalog each use of a cube has its dimension.
use Rattle.std.proofs.Common.{◌≡◌, ◌∙◌, refl, sym, ap, ℕ, suc, List, [], ◌∷◌, length, map, All, Option, Some, None, true, slice_get, filter_map}
use Rattle.std.specs.Prelude.{is_some, option_map}
use Rattle.std.specs.List.{cons_option}
use Rattle.std.proofs.lemmas.List.Elements.{All-head, All-tail}
use Rattle.std.proofs.lemmas.Option.{slice_get-map}
use Rattle.olap_meaning.specs.declared.schema.SchemaCube.{SchemaCube}
use Rattle.olap_meaning.specs.declared.schema.SchemaUse.{SchemaUse}
use Rattle.olap_meaning.specs.declared.tables.Catalog.{Catalog}
use Rattle.olap_meaning.specs.declared.tables.Cube.{Cube}
use Rattle.olap_meaning.specs.Schema.{cube_over, dimension_place}
use Rattle.olap_meaning.specs.Whole.{AreUsesNamed, IsWhole}
use Rattle.olap_meaning.proofs.Lists.{holds_at}
use Rattle.fact_rows.specs.BatchFiles.{HasDimensions}

-- as many dimensions as uses, where each use names one
as_many : (f : SchemaUse → Option ℕ) (uses : List SchemaUse) → All (λ used. is_some (f used) ≡ true) uses → length (filter_map f uses) ≡ length uses
as_many f [] all = refl
as_many f (used ∷ uses) all = by (f used) (All-head Named used uses all) (as_many f uses (All-tail Named used uses all))
  where
    Named : SchemaUse → Type 0
    Named u = is_some (f u) ≡ true

    by : (o : Option ℕ) → is_some o ≡ true → length (filter_map f uses) ≡ length uses → length (cons_option o (filter_map f uses)) ≡ length (used ∷ uses)
    by None there rest = absurd (let n : ⊥ = cc in n)
    by (Some place) there rest = ap suc rest

pub paired_in : (catalog : Catalog) (cube : ℕ) → IsWhole catalog.schema → catalog.cubes ≡ map (cube_over catalog.schema.dimensions) catalog.schema.cubes → HasDimensions catalog cube
paired_in catalog cube whole cubes = by (slice_get catalog.schema.cubes cube) refl
  where
    at : slice_get catalog.cubes cube ≡ option_map (cube_over catalog.schema.dimensions) (slice_get catalog.schema.cubes cube)
    at = ap (λ (cs : List Cube). slice_get cs cube) cubes ∙ slice_get-map (cube_over catalog.schema.dimensions) catalog.schema.cubes cube

    by : (o : Option SchemaCube) → slice_get catalog.schema.cubes cube ≡ o → HasDimensions catalog cube
    by None there = rw (at, there) refl
    by (Some c) there = rw (at, there) (sym (as_many (λ used. dimension_place catalog.schema.dimensions used.source) c.dimensions (holds_at (AreUsesNamed catalog.schema) catalog.schema.cubes cube c whole.uses there)))
