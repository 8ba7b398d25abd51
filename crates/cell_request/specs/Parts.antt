-- What the parts of a query mean.
use Rattle.std.specs.Prelude.{◌≡◌, ℕ, List, Option, Result, Ok, ◌++◌, option_map, Bool, ◌&&◌, not, All, length, min}
use Rattle.olap_meaning.specs.Catalog.{level_of}
use Rattle.olap_meaning.specs.MemberOf.{IsLevelIn}
use Rattle.olap_meaning.specs.Results.{refused_as, unless}
use Rattle.olap_meaning.specs.declared.cells.LevelRef.{LevelRef}
use Rattle.olap_meaning.specs.declared.cells.Member.{Member}
use Rattle.olap_meaning.specs.declared.tables.Catalog.{Catalog}
use Rattle.query_meaning.specs.Resolution.{Item, Meaning, NoMember, Refusal, all_roots, are_roots, cell_count, crossed, most_told, too_many, twice}
use Rattle.query_meaning.specs.declared.axes.Axes.{Axes}
use Rattle.cell_request.specs.declared.parts.ItemPart.{ItemPart}
use Rattle.cell_request.specs.declared.parts.Part.{Part}
use Rattle.cell_request.specs.Plans.{listed, IsPlanOf}

-- what a part means
abbrev pub part_meant : Catalog → ℕ → Part → Meaning
part_meant catalog cube part = record {
  roots = part.roots;
  is_open = part.is_open;
  tuples = listed catalog cube part.plan;
}

-- a part's members and levels are a cube's, and its count is that of its tuples, as far as it is told
pub record IsPartOf (catalog : Catalog) (cube : ℕ) (part : Part) : Type 0 where
  pub roots : All (IsLevelIn catalog) part.roots
  pub plan : IsPlanOf catalog cube part.plan
  pub count : part.count ≡ min (length (listed catalog cube part.plan)) most_told

-- the level that a path means
abbrev pub level_meant : Catalog → ℕ → List (List ℕ) → Result LevelRef Refusal
level_meant catalog cube path = refused_as NoMember (level_of catalog cube path)

-- an item in braces, and what it means
abbrev pub item_of : Catalog → ℕ → ItemPart → Item
item_of catalog cube item = record { at = item.at; meant = part_meant catalog cube item.part }

-- the Crossjoin of what two sets mean, where their hierarchies may stand together
abbrev pub crossing : Catalog → Meaning → Meaning → Result Meaning Refusal
crossing catalog one other =
    unless (twice catalog (one.roots ++ other.roots)) (Ok (crossed one other))

-- axes of these columns, rows and slicer, unless a hierarchy stands twice in them or they have too many cells
abbrev pub unless_refused : Catalog → ℕ → Part → Option Part → List Member → Axes → Result Axes Refusal
unless_refused catalog cube columns rows slicer axes =
    let first = part_meant catalog cube columns in
    let second = option_map (part_meant catalog cube) rows in
    unless (twice catalog (all_roots first second slicer))
    (unless (too_many (cell_count first second)) (Ok axes))

-- an item is not open, and is of other roots
abbrev pub is_other : List LevelRef → ItemPart → Bool
is_other roots item = not item.part.is_open && not (are_roots item.part.roots roots)

-- the same of an item
abbrev pub IsItemOf : Catalog → ℕ → ItemPart → Type 0
IsItemOf catalog cube item = IsPartOf catalog cube item.part
