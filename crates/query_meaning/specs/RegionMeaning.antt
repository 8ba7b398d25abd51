-- What a region and a flush mean in a catalog, or why they mean none. (Cache Control)
use Rattle.std.specs.Prelude.{ℕ, suc, ◌++◌, ◌+◌, ◌*◌, Bool, true, false, ◌&&◌, not, List, [], ◌∷◌, drop, find, fold, flat_map, length, map, position, slice_get, take, bytes_eq, nat_eq, nat_le, Option, None, Some, option_map, Result, Ok, ok_or, if◌then◌else◌}
use Rattle.std.specs.List.{list_all, list_any, range_with_len}
use Rattle.std.specs.Option.{option_map_or, option_or}
use Rattle.olap_meaning.specs.declared.cells.Member.{Member}
use Rattle.olap_meaning.specs.declared.cells.Member.TheVariants as member
use Rattle.olap_meaning.specs.declared.regions.Region.{Region}
use Rattle.olap_meaning.specs.declared.regions.RegionBox.{RegionBox}
use Rattle.olap_meaning.specs.declared.regions.RegionDim.{RegionDim}
use Rattle.olap_meaning.specs.declared.regions.RegionDim.TheVariants as dim
use Rattle.olap_meaning.specs.declared.tables.Catalog.{Catalog}
use Rattle.olap_meaning.specs.Catalog.{all_member, box, find_cube, measure_members, member_of, members_with, paths_at}
use Rattle.olap_meaning.specs.Legal.{is_measures}
use Rattle.olap_meaning.specs.MemberOf.{measure_count}
use Rattle.olap_meaning.specs.Results.{◌>>=◌, refused_as, unless}
use Rattle.query_meaning.specs.declared.TheConstants.{BOX_LIMIT}
use Rattle.query_meaning.specs.declared.region_text.Joins.{Joins}
use Rattle.query_meaning.specs.declared.region_text.Joins.TheVariants as joins
use Rattle.query_meaning.specs.declared.region_text.RegionText.{RegionText}
use Rattle.query_meaning.specs.RegionTree.{RegionTree, RegionTrees, Member as OneMember, Range, Measures, Parts, none, more}

-- why a flush means no region: no cube has its name; a name has no match in the cube; a dimension is of two parts of a
-- crossjoin; a part of a union is of other dimensions than the first part; the measures are missing; the ends of a range
-- are of two levels; or it has too many boxes
pub data RegionRefusal : Type 0 where
  NoCube : (name : List ℕ) → RegionRefusal
  NoMember : (name : List ℕ) → RegionRefusal
  CommonDimension : (dimension : RegionDim) → RegionRefusal
  Mismatch : (first second : List RegionDim) → RegionRefusal
  NoMeasures : RegionRefusal
  RangeLevels : (first last : Member) → RegionRefusal
  TooManyBoxes : (count limit : ℕ) → RegionRefusal

-- why a number of boxes is too many
abbrev pub too_many_boxes : ℕ → Option RegionRefusal
too_many_boxes count =
    if nat_le count BOX_LIMIT then None else Some (TooManyBoxes count BOX_LIMIT)

-- ---- one member

-- the dimension of a hierarchy
abbrev pub hierarchy_dim : Catalog → ℕ → RegionDim
hierarchy_dim catalog h =
    dim.Dimension
    (option_map_or (λ hierarchy. hierarchy.dimension) (slice_get catalog.hierarchies h) 0)

-- the dimension of a member: the measures, or that of its hierarchy
abbrev pub dim_of : Catalog → Member → RegionDim
dim_of catalog (member.Measure m) = dim.Measures
dim_of catalog (member.All h) = hierarchy_dim catalog h
dim_of catalog (member.At h path) = hierarchy_dim catalog h

-- the measures that a member names: a measure itself; any other member names none
abbrev pub named_measures : Member → Option (List ℕ)
named_measures (member.Measure m) = Some (m ∷ [])
named_measures (member.All h) = None
named_measures (member.At h path) = None

-- the box of a member in a region: the columns of its own box, with one value each, and the measure that it is. The
-- all member names neither
abbrev pub member_box : Catalog → Member → RegionBox
member_box catalog member = record {
  measures = named_measures member;
  columns = map (λ pair. (pair.0, pair.1 ∷ [])) (box catalog member);
}

-- the region of some members of one dimension: the box of each
abbrev pub members_region : Catalog → ℕ → RegionDim → List Member → Region
members_region catalog cube dimension members = record {
  cube = cube;
  dims = dimension ∷ [];
  boxes = map (member_box catalog) members;
}

-- the region of a member
abbrev pub member_region : Catalog → ℕ → Member → Region
member_region catalog cube member =
    members_region catalog cube (dim_of catalog member) (member ∷ [])

-- ---- the measures

-- the measures of a cube, by number
abbrev pub measures_of : Catalog → ℕ → List ℕ
measures_of catalog cube = range_with_len 0 (measure_count catalog cube)

-- the region of the measures: one box, with all measures of the cube
abbrev pub measures_region : Catalog → ℕ → Region
measures_region catalog cube = record {
  cube = cube;
  dims = dim.Measures ∷ [];
  boxes = record { measures = Some (measures_of catalog cube); columns = [] } ∷ [];
}

-- ---- ranges

-- two members stand in one level: both are measures; or the all member of one hierarchy; or as deep in one hierarchy
abbrev pub in_one_level : Member → Member → Bool
in_one_level (member.Measure m) (member.Measure n) = true
in_one_level (member.All g) (member.All h) = nat_eq g h
in_one_level (member.At g path) (member.At h other) =
    nat_eq g h && nat_eq (length path) (length other)
in_one_level _ _ = false

-- the members of the level that a member stands in, in hierarchical order
abbrev pub level_around : Catalog → ℕ → Member → List Member
level_around catalog cube (member.Measure m) = measure_members catalog cube
level_around catalog cube (member.All h) = all_member catalog h
level_around catalog cube (member.At h path) =
    members_with catalog h (λ hierarchy. paths_at catalog hierarchy (length path))

-- two members are the same
abbrev pub is_member : Member → Member → Bool
is_member (member.Measure m) (member.Measure n) = nat_eq m n
is_member (member.All g) (member.All h) = nat_eq g h
is_member (member.At g path) (member.At h other) = nat_eq g h && bytes_eq path other
is_member _ _ = false

-- the members of a list from one place to another, both counted: none where the first place is after the last, or one of
-- them is missing
abbrev pub between : Option ℕ → Option ℕ → List Member → List Member
between None last members = []
between (Some first) None members = []
between (Some first) (Some last) members = drop first (take (suc last) members)

-- the members of a level from one to another, by their places in hierarchical order
abbrev pub members_from : Catalog → ℕ → Member → Member → List Member
members_from catalog cube first last =
    let members = level_around catalog cube first in
    between (position (is_member first) members) (position (is_member last) members) members

-- why two members are no ends of a range: they stand in two levels
abbrev pub two_levels : Member → Member → Option RegionRefusal
two_levels first last = if in_one_level first last then None else Some (RangeLevels first last)

-- the region of a range: its ends stand in one level, and it has not too many members
abbrev pub range_meant : Catalog → ℕ → Member → Member → Result Region RegionRefusal
range_meant catalog cube first last =
    let members = members_from catalog cube first last in
    unless (two_levels first last)
    (unless (too_many_boxes (length members))
    (Ok (members_region catalog cube (dim_of catalog first) members)))

-- ---- dimensions

-- two dimensions are the same
abbrev pub is_dim : RegionDim → RegionDim → Bool
is_dim dim.Measures dim.Measures = true
is_dim dim.Measures (dim.Dimension d) = false
is_dim (dim.Dimension d) dim.Measures = false
is_dim (dim.Dimension d) (dim.Dimension e) = nat_eq d e

-- a dimension is among some
abbrev pub has_dim : List RegionDim → RegionDim → Bool
has_dim dims one = list_any (is_dim one) dims

-- the same dimensions, in whatever order
abbrev pub same_dims : List RegionDim → List RegionDim → Bool
same_dims dims others = list_all (has_dim others) dims && list_all (has_dim dims) others

-- the first of some dimensions that is among those before it
abbrev pub dim_again : List RegionDim → List RegionDim → Option RegionDim
dim_again before [] = None
dim_again before (one ∷ dims) = if has_dim before one then Some one else dim_again (one ∷ before) dims

-- the numbers of boxes of some regions
abbrev pub box_counts : List Region → List ℕ
box_counts parts = map (λ part. length part.boxes) parts

-- ---- crossjoins

-- two boxes put together: the columns of the first, then those of the second, and the measures of whichever names some
abbrev pub together : RegionBox → RegionBox → RegionBox
together first second = record {
  measures = option_or first.measures second.measures;
  columns = first.columns ++ second.columns;
}

-- each of some boxes with each of others: the first varies slowest
abbrev pub crossed_boxes : List RegionBox → List RegionBox → List RegionBox
crossed_boxes firsts seconds = flat_map (λ first. map (together first) seconds) firsts

-- the box that names nothing, with which a crossjoin begins
abbrev pub whole_box : RegionBox
whole_box = record { measures = None; columns = [] }

-- each box of the first part with each of the second, each of these with each of the third, and so on
abbrev pub all_crossed : List Region → List RegionBox
all_crossed parts = fold crossed_boxes (whole_box ∷ []) (map (λ part. part.boxes) parts)

-- the dimensions of some parts, one part after another
abbrev pub all_dims : List Region → List RegionDim
all_dims parts = flat_map (λ part. part.dims) parts

-- why some parts share a dimension: the first that repeats
abbrev pub common : List Region → Option RegionRefusal
common parts = option_map CommonDimension (dim_again [] (all_dims parts))

-- the first product, from the front, that is too many boxes
abbrev pub many_crossed : ℕ → List ℕ → Option RegionRefusal
many_crossed product [] = None
many_crossed product (count ∷ counts) =
    if nat_le (product * count) BOX_LIMIT then many_crossed (product * count) counts
    else too_many_boxes (product * count)

-- the crossjoin of some regions of a cube: no two share a dimension, and no product of the first is too many boxes
abbrev pub crossjoin_meant : ℕ → List Region → Result Region RegionRefusal
crossjoin_meant cube parts =
    unless (common parts)
    (unless (many_crossed 1 (box_counts parts))
    (Ok (record { cube = cube; dims = all_dims parts; boxes = all_crossed parts })))

-- ---- unions

-- the dimensions of the first part
abbrev pub first_dims : List Region → List RegionDim
first_dims parts = option_map_or (λ part. part.dims) (slice_get parts 0) []

-- why some parts are of different dimensions: the first that is of others than the first part
abbrev pub mismatch : List Region → Option RegionRefusal
mismatch parts =
    option_map
    (λ part. Mismatch (first_dims parts) part.dims)
    (find (λ part. not (same_dims (first_dims parts) part.dims)) parts)

-- the first sum, from the front, that is too many boxes
abbrev pub many_united : ℕ → List ℕ → Option RegionRefusal
many_united sum [] = None
many_united sum (count ∷ counts) =
    if nat_le (sum + count) BOX_LIMIT then many_united (sum + count) counts
    else too_many_boxes (sum + count)

-- the union of some regions of a cube: all are of the same dimensions, and no sum of the first is too many boxes
abbrev pub union_meant : ℕ → List Region → Result Region RegionRefusal
union_meant cube parts =
    unless (mismatch parts)
    (unless (many_united 0 (box_counts parts))
    (Ok (record {
      cube = cube;
      dims = first_dims parts;
      boxes = flat_map (λ part. part.boxes) parts;
    })))

-- ---- texts

-- what some regions mean together
abbrev pub joined_meant : Joins → ℕ → List Region → Result Region RegionRefusal
joined_meant joins.Crossjoin cube parts = crossjoin_meant cube parts
joined_meant joins.Union cube parts = union_meant cube parts

-- the member that a path of a region means
abbrev pub region_member : Catalog → ℕ → List (List ℕ) → Result Member RegionRefusal
region_member catalog cube path = refused_as NoMember (member_of catalog cube path)

-- what a region means, its parts before their whole
abbrev mutual
  pub region_meant : Catalog → ℕ → RegionTree → Result Region RegionRefusal
  region_meant catalog cube (OneMember path) = do
    found ← region_member catalog cube path
    Ok (member_region catalog cube found)
  region_meant catalog cube (Range first last) = do
    from ← region_member catalog cube first
    to ← region_member catalog cube last
    range_meant catalog cube from to
  region_meant catalog cube Measures = Ok (measures_region catalog cube)
  region_meant catalog cube (Parts joins parts) = do
    regions ← parts_meant catalog cube parts
    joined_meant joins cube regions

  pub parts_meant : Catalog → ℕ → RegionTrees → Result (List Region) RegionRefusal
  parts_meant catalog cube none = Ok []
  parts_meant catalog cube (more part parts) = do
    region ← region_meant catalog cube part
    regions ← parts_meant catalog cube parts
    Ok (region ∷ regions)

-- why a region can not be flushed: the measures are not among its dimensions (Cache Control)
abbrev pub without_measures : Region → Option RegionRefusal
without_measures region = if list_any is_measures region.dims then None else Some NoMeasures

-- what a flush means in a catalog, or its first refusal: the cube; the region from left to right, parts before their
-- whole; then the measures that are missing
abbrev pub flush_meant : Catalog → RegionText → Result Region RegionRefusal
flush_meant catalog text = do
  cube ← ok_or (find_cube catalog text.cube) (NoCube text.cube)
  region ← region_meant catalog cube text.region
  unless (without_measures region) (Ok region)
