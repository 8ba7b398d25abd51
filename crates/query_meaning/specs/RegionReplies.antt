-- The replies to flushes that mean no region.
use Rattle.std.specs.Prelude.{ℕ, ◌++◌, List, [], codes, map, slice_get, unwrap_or}
use Rattle.std.specs.Fmt.{decimal}
use Rattle.std.specs.Option.{option_map_or}
use Rattle.olap_meaning.specs.declared.cells.Member.{Member}
use Rattle.olap_meaning.specs.declared.regions.RegionDim.{RegionDim}
use Rattle.olap_meaning.specs.declared.regions.RegionDim.TheVariants as dim
use Rattle.olap_meaning.specs.declared.tables.Catalog.{Catalog}
use Rattle.olap_meaning.specs.Catalog.{find_cube}
use Rattle.olap_meaning.specs.Texts.{line, name_text, named_line}
use Rattle.query_meaning.specs.declared.region_text.RegionText.{RegionText}
use Rattle.query_meaning.specs.RegionMeaning.{RegionRefusal, NoCube, NoMember, CommonDimension, Mismatch, NoMeasures, RangeLevels, TooManyBoxes}
use Rattle.query_meaning.specs.Replies.{no_cube_reply, no_member_reply}
use Rattle.query_meaning.specs.Titles.{joined_by, title}

-- the name of a dimension of regions: Measures, or the dimension's, as the schema has it
abbrev pub dim_name : Catalog → RegionDim → List ℕ
dim_name catalog dim.Measures = codes "Measures"
dim_name catalog (dim.Dimension d) =
    option_map_or (λ dimension. dimension.name) (slice_get catalog.schema.dimensions d) []

-- the name texts of dimensions, with a comma and a space between each two
abbrev pub dims_text : Catalog → List RegionDim → List ℕ
dims_text catalog dims = joined_by (codes ", ") (map (λ one. name_text (dim_name catalog one)) dims)

-- the reply to a crossjoin of two parts with this dimension
abbrev pub common_reply : Catalog → RegionDim → List ℕ
common_reply catalog dimension =
    named_line (codes "ERR 13 REGION COMMON") (dim_name catalog dimension)

-- the reply to a union of parts of different dimensions
abbrev pub mismatch_reply : Catalog → List RegionDim → List RegionDim → List ℕ
mismatch_reply catalog first second =
    line
    (codes "ERR 13 REGION MISMATCH " ++ dims_text catalog first ++ codes "; "
    ++ dims_text catalog second)

-- the reply to a range whose ends are of two levels
abbrev pub levels_reply : Catalog → ℕ → Member → Member → List ℕ
levels_reply catalog cube first last =
    line
    (codes "ERR 13 REGION LEVELS " ++ title catalog cube first ++ codes "; "
    ++ title catalog cube last)

-- the cube that a flush names, and the first of the catalog where none has the name
abbrev pub cube_named : Catalog → RegionText → ℕ
cube_named catalog text = unwrap_or (find_cube catalog text.cube) 0

-- the reply to a flush of a cube that means no region, by its first refusal
abbrev pub flush_refusal_reply : Catalog → ℕ → RegionRefusal → List ℕ
flush_refusal_reply catalog cube (NoCube name) = no_cube_reply name
flush_refusal_reply catalog cube (NoMember name) = no_member_reply name
flush_refusal_reply catalog cube (CommonDimension dimension) = common_reply catalog dimension
flush_refusal_reply catalog cube (Mismatch first second) = mismatch_reply catalog first second
flush_refusal_reply catalog cube NoMeasures = line (codes "ERR 13 REGION MEASURES")
flush_refusal_reply catalog cube (RangeLevels first last) = levels_reply catalog cube first last
flush_refusal_reply catalog cube (TooManyBoxes count limit) =
    line (codes "ERR 13 REGION BOXES " ++ decimal count ++ codes " " ++ decimal limit)
