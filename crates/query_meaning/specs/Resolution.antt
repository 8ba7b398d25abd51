-- What a query means in a catalog: its axes, or why it means none. (MDX, "SELECT Statement", "Crossjoin")
use Rattle.std.specs.Prelude.{ℕ, ◌++◌, ◌*◌, Bool, true, false, ◌&&◌, not, List, [], ◌∷◌, length, map, flat_map, find, Option, None, Some, option_map, Result, Ok, ok_or, nat_eq, nat_le, max, min, if◌then◌else◌}
use Rattle.std.specs.List.{list_any}
use Rattle.std.specs.Option.{option_map_or}
use Rattle.olap_meaning.specs.declared.TheConstants.{CELL_LIMIT}
use Rattle.olap_meaning.specs.declared.tables.Catalog.{Catalog}
use Rattle.olap_meaning.specs.declared.cells.Member.{Member}
use Rattle.olap_meaning.specs.declared.cells.Member.TheVariants as member
use Rattle.olap_meaning.specs.declared.cells.LevelRef.{LevelRef}
use Rattle.olap_meaning.specs.declared.cells.LevelRef.TheVariants.{Measures, Whole, One}
use Rattle.olap_meaning.specs.Catalog.{children, find_cube, level_members, level_of, member_of, root_name}
use Rattle.olap_meaning.specs.Results.{◌>>=◌, refused_as, unless}
use Rattle.query_meaning.specs.declared.axes.Axes.{Axes}
use Rattle.query_meaning.specs.declared.query.AxisText.{AxisText}
use Rattle.query_meaning.specs.declared.query.Query.{Query}
use Rattle.query_meaning.specs.declared.set_text.Picks.TheVariants as picks
use Rattle.query_meaning.specs.Tree.{Set, Sets, Braces, Cross, Tuple, Picked, none, more}

-- why a query means no axes: no cube has its name; a name has no match in the cube, or is one too many; a hierarchy stands
-- twice; an item in braces, by the byte at which it begins, is of other hierarchies than the first item that is not open;
-- or it has too many cells
pub data Refusal : Type 0 where
  NoCube : (name : List ℕ) → Refusal
  NoMember : (name : List ℕ) → Refusal
  AxisTwice : (hierarchy : List ℕ) → Refusal
  MixedSet : (at : ℕ) → Refusal
  TooManyCells : (count limit : ℕ) → Refusal

-- ---- roots: the measures, which count as a hierarchy, and the hierarchies

-- the root of a member
abbrev pub root_of : Member → LevelRef
root_of (member.Measure m) = Measures
root_of (member.All h) = Whole h
root_of (member.At h path) = Whole h

-- the root of a level
abbrev pub level_root : LevelRef → LevelRef
level_root Measures = Measures
level_root (Whole h) = Whole h
level_root (One h level) = Whole h

-- two roots are the same
abbrev pub is_root : LevelRef → LevelRef → Bool
is_root Measures Measures = true
is_root Measures (Whole h) = false
is_root Measures (One h level) = false
is_root (Whole g) Measures = false
is_root (Whole g) (Whole h) = nat_eq g h
is_root (Whole g) (One h level) = false
is_root (One g level) root = false

-- the same roots, in the same order
abbrev pub are_roots : List LevelRef → List LevelRef → Bool
are_roots [] [] = true
are_roots [] (root ∷ roots) = false
are_roots (root ∷ roots) [] = false
are_roots (root ∷ roots) (other ∷ others) = is_root root other && are_roots roots others

-- the first of some roots that is among those before it
abbrev pub repeat_after : List LevelRef → List LevelRef → Option LevelRef
repeat_after before [] = None
repeat_after before (root ∷ roots) =
    if list_any (is_root root) before then Some root else repeat_after (root ∷ before) roots

abbrev pub first_repeat : List LevelRef → Option LevelRef
first_repeat roots = repeat_after [] roots

-- why some roots may not stand together: one of them stands twice, and this is the first that repeats
abbrev pub twice : Catalog → List LevelRef → Option Refusal
twice catalog roots = option_map (λ root. AxisTwice (root_name catalog root)) (first_repeat roots)

-- ---- sets

-- what a set means: the roots of its tuples' members, whether it is open, and its tuples. An open set has no tuples and
-- goes with any roots
pub record Meaning : Type 0 where
  pub roots : List LevelRef
  pub is_open : Bool
  pub tuples : List (List Member)

-- tuples of one member each
abbrev pub single : LevelRef → List Member → Meaning
single root members = record {
  roots = root ∷ [];
  is_open = false;
  tuples = map (λ one. one ∷ []) members;
}

-- each tuple of one set with each of another: the first varies slowest
abbrev pub pairs : List (List Member) → List (List Member) → List (List Member)
pairs firsts seconds = flat_map (λ first. map (λ second. first ++ second) seconds) firsts

-- the Crossjoin of two sets
abbrev pub crossed : Meaning → Meaning → Meaning
crossed first second = record {
  roots = first.roots ++ second.roots;
  is_open = if first.is_open then true else second.is_open;
  tuples = pairs first.tuples second.tuples;
}

-- an item in braces: the byte at which it begins, and what it means
pub record Item : Type 0 where
  pub at : ℕ
  pub meant : Meaning

-- the first item that is not open gives the roots of braces
abbrev pub leading : List Item → Option Item
leading items = find (λ item. not item.meant.is_open) items

-- an item is not open, and is of other roots
abbrev pub is_mixed : List LevelRef → Item → Bool
is_mixed roots item = not item.meant.is_open && not (are_roots item.meant.roots roots)

-- why some items may not stand in braces
abbrev pub mixed : List LevelRef → List Item → Option Refusal
mixed roots items = option_map (λ item. MixedSet item.at) (find (is_mixed roots) items)

-- braces: the tuples of their items in order, repeats kept. Without an item that is not open they are open
abbrev pub joined : List Item → Result Meaning Refusal
joined items =
    let roots = option_map_or (λ item. item.meant.roots) (leading items) [] in
    unless (mixed roots items)
    (Ok (record {
      roots = roots;
      is_open = option_map_or (λ item. false) (leading items) true;
      tuples = flat_map (λ item. item.meant.tuples) items;
    }))

-- the member that a path means
abbrev pub member_meant : Catalog → ℕ → List (List ℕ) → Result Member Refusal
member_meant catalog cube path = refused_as NoMember (member_of catalog cube path)

-- the members that some paths mean
abbrev pub members_meant : Catalog → ℕ → List (List (List ℕ)) → Result (List Member) Refusal
members_meant catalog cube [] = Ok []
members_meant catalog cube (path ∷ paths) = do
  first ← member_meant catalog cube path
  others ← members_meant catalog cube paths
  Ok (first ∷ others)

-- a tuple: its members, no two of one hierarchy
abbrev pub tuple_meant : Catalog → ℕ → List (List (List ℕ)) → Result (List Member) Refusal
tuple_meant catalog cube paths = do
  tuple ← members_meant catalog cube paths
  unless (twice catalog (map root_of tuple)) (Ok tuple)

-- the byte at which a set begins
abbrev pub begin_of : Set → ℕ
begin_of (Braces at sets) = at
begin_of (Cross at first second) = at
begin_of (Tuple at paths) = at
begin_of (Picked at path what) = at

-- what a set means, its parts before their whole
abbrev mutual
  pub set_meant : Catalog → ℕ → Set → Result Meaning Refusal
  set_meant catalog cube (Picked at path picks.Itself) = do
    found ← member_meant catalog cube path
    Ok (single (root_of found) (found ∷ []))
  set_meant catalog cube (Picked at path picks.Members) = do
    level ← refused_as NoMember (level_of catalog cube path)
    Ok (single (level_root level) (level_members catalog cube level))
  set_meant catalog cube (Picked at path picks.Children) = do
    found ← member_meant catalog cube path
    Ok (single (root_of found) (children catalog found))
  set_meant catalog cube (Tuple at paths) = do
    tuple ← tuple_meant catalog cube paths
    Ok (record { roots = map root_of tuple; is_open = false; tuples = tuple ∷ [] })
  set_meant catalog cube (Cross at first second) = do
    one ← set_meant catalog cube first
    other ← set_meant catalog cube second
    unless (twice catalog (one.roots ++ other.roots)) (Ok (crossed one other))
  set_meant catalog cube (Braces at sets) = do
    items ← items_meant catalog cube sets
    joined items

  pub items_meant : Catalog → ℕ → Sets → Result (List Item) Refusal
  items_meant catalog cube none = Ok []
  items_meant catalog cube (more set sets) = do
    meant ← set_meant catalog cube set
    items ← items_meant catalog cube sets
    Ok (record { at = begin_of set; meant = meant } ∷ items)

-- ---- axes

-- what the rows mean, where there are rows
abbrev pub rows_meant : Catalog → ℕ → Option AxisText → Result (Option Meaning) Refusal
rows_meant catalog cube None = Ok None
rows_meant catalog cube (Some axis) = do
  meant ← set_meant catalog cube axis.set
  Ok (Some meant)

-- the roots of the columns, the rows and the slicer together
abbrev pub all_roots : Meaning → Option Meaning → List Member → List LevelRef
all_roots columns rows slicer =
    columns.roots ++ option_map_or (λ meant. meant.roots) rows [] ++ map root_of slicer

-- the number of cells that a query may not have too many of. An axis without a tuple counts as one
abbrev pub cell_count : Meaning → Option Meaning → ℕ
cell_count columns rows =
    max 1 (length columns.tuples)
    * max 1 (option_map_or (λ meant. length meant.tuples) rows 1)

-- the greatest number that is told
abbrev pub most_told : ℕ
most_told = 18_446_744_073_709_551_615

-- why a query has too many cells
abbrev pub too_many : ℕ → Option Refusal
too_many count =
    if nat_le count CELL_LIMIT then None else Some (TooManyCells (min count most_told) CELL_LIMIT)

-- the axes of what columns, rows and slicer mean
abbrev pub axes_of : ℕ → Query → Meaning → Option Meaning → List Member → Axes
axes_of cube query columns rows slicer = record {
  cube = cube;
  columns = record { non_empty = query.columns.non_empty; tuples = columns.tuples };
  rows = option_map
      (λ meant. record {
        non_empty = option_map_or (λ axis. axis.non_empty) query.rows false;
        tuples = meant.tuples;
      }) rows;
  slicer = slicer;
}

-- what a query means in a catalog, or its first refusal: the cube; columns, rows and slicer, each from left to right, parts
-- before their whole; the hierarchies of the axes together; the number of cells
abbrev pub axes_meant : Catalog → Query → Result Axes Refusal
axes_meant catalog query = do
  cube ← ok_or (find_cube catalog query.cube) (NoCube query.cube)
  columns ← set_meant catalog cube query.columns.set
  rows ← rows_meant catalog cube query.rows
  slicer ← tuple_meant catalog cube query.slicer
  unless (twice catalog (all_roots columns rows slicer))
      (unless (too_many (cell_count columns rows)) (Ok (axes_of cube query columns rows slicer)))
