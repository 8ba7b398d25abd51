-- What follows of regions: which cells those are that a range, a crossjoin and a union cover.
use Rattle.std.specs.Prelude.{ℕ, ◌≡◌, ◌<◌, List, All, Ok, length}
use Rattle.std.specs.List.{list_all, list_any}
use Rattle.olap_meaning.specs.declared.cells.Cell.{Cell}
use Rattle.olap_meaning.specs.declared.cells.Member.{Member}
use Rattle.olap_meaning.specs.declared.regions.Region.{Region}
use Rattle.olap_meaning.specs.declared.tables.Catalog.{Catalog}
use Rattle.olap_meaning.specs.Covering.{region_covers}
use Rattle.query_meaning.specs.declared.TheConstants.{BOX_LIMIT}
use Rattle.query_meaning.specs.RegionMeaning.{crossjoin_meant, member_region, members_from, range_meant, union_meant}
use Rattle.region_algebra.specs.Regions.{IsBounded}

-- the limit of the boxes is this number
abbrev pub BoxLimitIsStated : Type 0
BoxLimitIsStated = BOX_LIMIT ≡ 100_000

-- a range covers a cell exactly where the region of one of its members does
abbrev pub RangesCover : Type 0
RangesCover =
    (catalog : Catalog) (cube : ℕ) (first last : Member) (region : Region) (cell : Cell)
    → range_meant catalog cube first last ≡ Ok region
    → region_covers region cell
    ≡ list_any (λ one. region_covers (member_region catalog cube one) cell)
    (members_from catalog cube first last)

-- a crossjoin of some regions of one cube covers a cell exactly where all of them do
abbrev pub CrossjoinsCover : Type 0
CrossjoinsCover =
    (cube : ℕ) (parts : List Region) (region : Region) (cell : Cell)
    → 0 < length parts
    → All (λ part. part.cube ≡ cube) parts
    → All IsBounded parts
    → crossjoin_meant cube parts ≡ Ok region
    → region_covers region cell ≡ list_all (λ part. region_covers part cell) parts

-- a union of some regions of one cube covers a cell exactly where one of them does
abbrev pub UnionsCover : Type 0
UnionsCover =
    (cube : ℕ) (parts : List Region) (region : Region) (cell : Cell)
    → All (λ part. part.cube ≡ cube) parts
    → union_meant cube parts ≡ Ok region
    → region_covers region cell ≡ list_any (λ part. region_covers part cell) parts
