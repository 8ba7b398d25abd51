-- Each cell of axes is one of the catalog.
use Rattle.std.proofs.Common.{◌≡◌, ◌∙◌, ◌<◌, ◌++◌, ◌&&◌, ℕ, Bool, true, false, List, [], ◌∷◌, Option, Some, None, refl, sym, ap, subst, map, flat_map, find, slice_get, length, nat_lt, arith, option_and_then, option_map, cond}
use Rattle.std.specs.Bool.{IsTrue}
use Rattle.std.specs.List.{All, list_all}
use Rattle.std.specs.Option.{option_map_or}
use Rattle.std.proofs.lemmas.Bool.{and_from, and_parts}
use Rattle.std.proofs.lemmas.List.Elements.{All-append, All-head, All-map, All-nil, All-same, All-tail, All-weaker}
use Rattle.std.proofs.lemmas.Option.{slice_get-map}
use Rattle.olap_catalog.specs.Parts.{has_levels}
use Rattle.olap_meaning.specs.declared.cells.Cell.{Cell}
use Rattle.olap_meaning.specs.declared.cells.LevelRef.TheVariants.{Measures, Whole}
use Rattle.olap_meaning.specs.declared.cells.Member.{Member}
use Rattle.olap_meaning.specs.declared.cells.Member.TheVariants as member
use Rattle.olap_meaning.specs.declared.schema.SchemaCube.{SchemaCube}
use Rattle.olap_meaning.specs.declared.tables.Catalog.{Catalog}
use Rattle.olap_meaning.specs.declared.tables.Cube.{Cube}
use Rattle.olap_meaning.specs.declared.tables.Measure.{Measure}
use Rattle.olap_meaning.specs.Catalog.{box}
use Rattle.olap_meaning.specs.History.{is_some_and}
use Rattle.olap_meaning.specs.Legal.{is_cell, is_column_of, is_value, rise}
use Rattle.olap_meaning.specs.MemberOf.{IsMemberOf, measure_count}
use Rattle.olap_meaning.specs.Schema.{cube_over}
use Rattle.olap_meaning.specs.Whole.{IsNamedCube, IsWhole}
use Rattle.olap_meaning.proofs.Lists.{holds_at, missing}
use Rattle.query_meaning.specs.AxisCells.{cell_among, cells_of, measure_number}
use Rattle.cell_request.specs.Standing.{is_of}
use Rattle.query_meaning.specs.Grids.{row_tuples}
use Rattle.query_meaning.specs.OwnAxes.{AreAxesOf}
use Rattle.query_meaning.specs.Resolution.{is_root, root_of}
use Rattle.query_meaning.specs.declared.axes.Axes.{Axes}
use Rattle.cell_request.specs.declared.defaults.DefaultBox.{DefaultBox}
use Rattle.cell_request.specs.Boxes.{is_own, HasOwnBox, IsBoxOf}
use Rattle.cell_request.specs.Defaults.{default_boxes}
use Rattle.cell_request.specs.Standing.{box_among, measure_among, member_of_root, row_cells}
use Rattle.cell_request.proofs.BoxFacts.{box_is}
use Rattle.cell_request.proofs.WalkFacts.{all_own, StandsFor}
use Rattle.cell_request.proofs.CellFacts.{cell_is, cell_with}

-- what holds of each item holds of the one that is found
found_holds : {A : Type 0} (P : A → Type 0) (test : A → Bool) (xs : List A) (x : A) → All P xs → find test xs ≡ Some x → P x × (test x ≡ true)
found_holds P test [] x all at = absurd (cc at)
found_holds P test (y ∷ ys) x all at = by (found_holds P test ys x (All-tail P y ys all)) (test y) refl at
  where
    by : (find test ys ≡ Some x → P x × (test x ≡ true)) → (b : Bool) → test y ≡ b → cond b (Some y) (find test ys) ≡ Some x → P x × (test x ≡ true)
    by rest true is here = let same : y ≡ x = cc here in (subst P same (All-head P y ys all), ap test (sym same) ∙ is)
    by rest false is later = rest later

-- a cube of a whole schema has a measure
pub has_measure : (catalog : Catalog) (cube : ℕ) → IsWhole catalog.schema → catalog.cubes ≡ map (cube_over catalog.schema.dimensions) catalog.schema.cubes → cube < length catalog.cubes → 0 < measure_count catalog cube
has_measure catalog cube whole are within = by (slice_get catalog.schema.cubes cube) refl
  where
    there : slice_get catalog.cubes cube ≡ option_map (cube_over catalog.schema.dimensions) (slice_get catalog.schema.cubes cube)
    there = ap (λ cubes. slice_get cubes cube) are ∙ slice_get-map (cube_over catalog.schema.dimensions) catalog.schema.cubes cube

    some : (ms : List Measure) → (ms ≡ [] → ⊥) → 0 < length ms
    some [] none = absurd (none refl)
    some (m ∷ ms) none = omega arith

    by : (o : Option SchemaCube) → slice_get catalog.schema.cubes cube ≡ o → 0 < measure_count catalog cube
    by None at = absurd (missing catalog.cubes cube within (there ∙ ap (option_map (cube_over catalog.schema.dimensions)) at))
    by (Some own) at =
        let named : IsNamedCube own = holds_at IsNamedCube catalog.schema.cubes cube own whole.named_cubes at in
        let count : measure_count catalog cube ≡ length own.measures = ap (λ o. option_map_or (λ (c : Cube). length c.measures) o 0) (there ∙ ap (option_map (cube_over catalog.schema.dimensions)) at) in
        let has : 0 < length own.measures = some own.measures named.some in
        omega (arith, count, has)

-- what is the cube's is a column and a value of the catalog
own_value : (catalog : Catalog) (cube : ℕ) (own : Cube) (at : List (ℕ × ℕ)) → slice_get catalog.cubes cube ≡ Some own → list_all (is_own catalog cube) at ≡ true
    → (list_all (λ (pair : ℕ × ℕ). nat_lt pair.0 (length catalog.columns) && is_value catalog pair.0 pair.1) at ≡ true) × (list_all (λ (pair : ℕ × ℕ). is_column_of catalog own.dimensions pair.0) at ≡ true)
own_value catalog cube own [] there all = (refl, refl)
own_value catalog cube own (pair ∷ at) there all =
    let parts = and_parts (is_own catalog cube pair) (list_all (is_own catalog cube) at) all in
    let here = and_parts (nat_lt pair.0 (length catalog.columns) && is_value catalog pair.0 pair.1) (is_some_and (λ (x : Cube). is_column_of catalog x.dimensions pair.0) (slice_get catalog.cubes cube)) parts.0 in
    let later = own_value catalog cube own at there parts.1 in
    (and_from _ _ here.0 later.0, and_from _ _ (sym (ap (is_some_and (λ (x : Cube). is_column_of catalog x.dimensions pair.0)) there) ∙ here.1) later.1)

-- a cell of a cube's measure, at rising columns and values of the cube's, is one of the catalog
cell_known : (catalog : Catalog) (cube measure : ℕ) (at : List (ℕ × ℕ)) → measure < measure_count catalog cube → list_all (is_own catalog cube) at ≡ true → rise (map (λ pair. pair.0) at) ≡ true → is_cell catalog (cell_with cube measure at) ≡ true
cell_known catalog cube measure at within own up = by (slice_get catalog.cubes cube) refl
  where
    measured : (c : Cube) → slice_get catalog.cubes cube ≡ Some c → (o : Option Measure) → slice_get c.measures measure ≡ o → is_some_and (λ (m : Measure). true) o ≡ true
    measured c there (Some m) is = refl
    measured c there None is = let count = ap (λ o. option_map_or (λ (x : Cube). length x.measures) o 0) there in absurd (missing c.measures measure (omega (arith, count, within)) is)

    by : (o : Option Cube) → slice_get catalog.cubes cube ≡ o → is_cell catalog (cell_with cube measure at) ≡ true
    by None there = let count = ap (λ o. option_map_or (λ (x : Cube). length x.measures) o 0) there in absurd (omega (arith, count, within))
    by (Some c) there =
        let parts = own_value catalog cube c at there own in
        and_from _ _
        (and_from _ _ (and_from _ _ (ap (λ o. is_some_and (λ (m : Measure). true) (option_and_then (λ (x : Cube). slice_get x.measures measure) o)) there ∙ measured c there (slice_get c.measures measure) refl) parts.0) up)
        (ap (is_some_and (λ (x : Cube). list_all (λ (pair : ℕ × ℕ). is_column_of catalog x.dimensions pair.0) at)) there ∙ parts.1)

-- what a catalog and a cube of it give
pub record IsSound (catalog : Catalog) (cube : ℕ) : Type 0 where
  pub levels : list_all (has_levels catalog.columns) catalog.hierarchies ≡ true
  pub rising : rise (flat_map (λ hierarchy. hierarchy.levels) catalog.hierarchies) ≡ true
  pub measure : 0 < measure_count catalog cube
  pub defaults : All (HasOwnBox catalog) (default_boxes catalog cube)

module _ (catalog : Catalog) (cube : ℕ) (members : List Member) (own : All (IsMemberOf catalog cube) members) where
  -- the measure of a cell is the cube's
  measure_own : 0 < measure_count catalog cube → measure_among members < measure_count catalog cube
  measure_own some = by (member_of_root Measures members) refl
    where
      number : (m : Member) → IsMemberOf catalog cube m → measure_number m < measure_count catalog cube
      number (member.Measure m) is = is.1
      number (member.All h) is = some
      number (member.At h path) is = some

      by : (o : Option Member) → member_of_root Measures members ≡ o → option_map_or measure_number o 0 < measure_count catalog cube
      by None is = some
      by (Some m) is = number m (found_holds (IsMemberOf catalog cube) (λ one. is_root (root_of one) Measures) members m own is).0

  -- a member of a hierarchy's root is of the hierarchy
  root_is_of : (m : Member) (h : ℕ) → is_root (root_of m) (Whole h) ≡ true → is_of m h ≡ true
  root_is_of (member.Measure m) h is = is
  root_is_of (member.All k) h is = is
  root_is_of (member.At k path) h is = is

  -- the box on which a hierarchy stands in a cell is one of it
  stands : (kept : DefaultBox) → HasOwnBox catalog kept → StandsFor catalog (box_among catalog members) kept
  stands kept default = by (member_of_root (Whole kept.hierarchy) members) refl
    where
      by : (o : Option Member) → member_of_root (Whole kept.hierarchy) members ≡ o → IsBoxOf catalog kept.hierarchy (option_map_or (box catalog) o kept.pairs)
      by None is = default
      by (Some m) is =
          let found = found_holds (IsMemberOf catalog cube) (λ one. is_root (root_of one) (Whole kept.hierarchy)) members m own is in
          box_is catalog cube kept.hierarchy m (box catalog m) found.0 (root_is_of m kept.hierarchy found.1) refl

  -- the cell of members of a cube
  among_known : IsSound catalog cube → is_cell catalog (cell_among catalog cube members) ≡ true
  among_known sound =
      let are = all_own catalog cube (box_among catalog members) sound.levels sound.rising (All-weaker (HasOwnBox catalog) (StandsFor catalog (box_among catalog members)) stands (default_boxes catalog cube) sound.defaults) in
      let at : List (ℕ × ℕ) = flat_map (box_among catalog members) (default_boxes catalog cube) in
      ap (is_cell catalog) (sym (cell_is catalog cube members (measure_among members) at refl refl)) ∙ cell_known catalog cube (measure_among members) at (measure_own sound.measure) are.own are.rising

all_flat : {A B : Type 0} (P : B → Type 0) (f : A → List B) (xs : List A) → All (λ x. All P (f x)) xs → All P (flat_map f xs)
all_flat P f [] all = All-nil P
all_flat P f (x ∷ xs) all = All-append P (f x) (flat_map f xs) (All-head (λ k. All P (f k)) x xs all) (all_flat P f xs (All-tail (λ k. All P (f k)) x xs all))

-- each cell of axes is one of the catalog
pub cells_known : (catalog : Catalog) (axes : Axes) → IsSound catalog axes.cube → AreAxesOf catalog axes → All (λ cell. IsTrue (is_cell catalog cell)) (cells_of catalog axes)
cells_known catalog axes sound own = all_flat Known (row_cells catalog axes) (row_tuples axes) (All-weaker Owned (λ row. All Known (row_cells catalog axes row)) in_row (row_tuples axes) own.rows)
  where
    Known : Cell → Type 0
    Known cell = IsTrue (is_cell catalog cell)

    Owned : List Member → Type 0
    Owned tuple = All (IsMemberOf catalog axes.cube) tuple

    in_cell : (row : List Member) → Owned row → (column : List Member) → Owned column → Known (cell_among catalog axes.cube (column ++ row ++ axes.slicer))
    in_cell row is column own_column =
        among_known catalog axes.cube (column ++ row ++ axes.slicer)
        (All-append (IsMemberOf catalog axes.cube) (column ++ row) axes.slicer (All-append (IsMemberOf catalog axes.cube) column row own_column is) own.slicer) sound

    in_row : (row : List Member) → Owned row → All Known (row_cells catalog axes row)
    in_row row is =
        All-map Known (λ column. cell_among catalog axes.cube (column ++ row ++ axes.slicer)) axes.columns.tuples
        (All-weaker Owned (λ column. Known (cell_among catalog axes.cube (column ++ row ++ axes.slicer))) (in_cell row is) axes.columns.tuples own.columns)

-- what a catalog gives, with the boxes that are kept of a cube of it
pub sound_with : (catalog : Catalog) (cube : ℕ) (kept : List DefaultBox) → list_all (has_levels catalog.columns) catalog.hierarchies ≡ true → rise (flat_map (λ hierarchy. hierarchy.levels) catalog.hierarchies) ≡ true → IsWhole catalog.schema → catalog.cubes ≡ map (cube_over catalog.schema.dimensions) catalog.schema.cubes → cube < length catalog.cubes
    → kept ≡ default_boxes catalog cube → All (HasOwnBox catalog) kept → IsSound catalog cube
sound_with catalog cube kept levels rising whole are within all own = record {
  levels = levels;
  rising = rising;
  measure = has_measure catalog cube whole are within;
  defaults = All-same (HasOwnBox catalog) (default_boxes catalog cube) kept (sym all) own;
}
