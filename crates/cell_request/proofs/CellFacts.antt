-- What the code makes of a column and a row is their cell, and what it makes of the rows are the cells of the axes.
use Rattle.std.proofs.Common.{◌≡◌, ◌∙◌, ◌++◌, ◌*◌, ℕ, List, [], ◌∷◌, Option, Some, None, refl, sym, ap, arith, length, map, flat_map, slice_get}
use Rattle.std.specs.List.{enumerate_from}
use Rattle.std.specs.Option.{option_map_or, option_or}
use Rattle.std.proofs.Math.Nat.{suc-mul}
use Rattle.std.proofs.lemmas.List.{append-nil, length-append, length-map}
use Rattle.std.proofs.lemmas.List.Folds.{flat_map-map}
use Rattle.olap_meaning.specs.declared.cells.Cell.{Cell}
use Rattle.olap_meaning.specs.declared.cells.LevelRef.TheVariants.{Measures, Whole}
use Rattle.olap_meaning.specs.declared.cells.Member.{Member}
use Rattle.olap_meaning.specs.declared.cells.Member.TheVariants as member
use Rattle.olap_meaning.specs.declared.tables.Catalog.{Catalog}
use Rattle.olap_meaning.specs.declared.tables.Cube.{Cube}
use Rattle.olap_meaning.specs.declared.tables.Measure.{Measure}
use Rattle.olap_meaning.specs.Catalog.{box, default_member}
use Rattle.query_meaning.specs.AxisCells.{cell_among, cells_of, measure_number, standing_among}
use Rattle.olap_meaning.specs.Catalog.{hierarchies_within}
use Rattle.query_meaning.specs.Grids.{row_tuples}
use Rattle.query_meaning.specs.declared.axes.Axes.{Axes}
use Rattle.query_meaning.specs.declared.axes.Axis.{Axis}
use Rattle.cell_request.specs.Defaults.{default_box, default_boxes}
use Rattle.cell_request.specs.Standing.{box_among, measure_among, member_of_root, row_cells}

-- the measure of a cell is the first among its members, or else 0, which is also the number of a cube's first
measure_is : (catalog : Catalog) (cube : ℕ) (members : List Member) → measure_among members ≡ option_map_or measure_number (standing_among catalog cube members Measures) 0
measure_is catalog cube members = by (member_of_root Measures members)
  where
    first : (ms : List Measure) → ◌≡◌ {A = ℕ} 0 (option_map_or measure_number (slice_get (map (λ (m : ℕ × Measure). member.Measure m.0) (enumerate_from 0 ms)) 0) 0)
    first [] = refl
    first (m ∷ ms) = refl

    by : (o : Option Member) → option_map_or measure_number o 0 ≡ option_map_or measure_number (option_or o (default_member catalog cube Measures)) 0
    by None = first (option_map_or (λ (c : Cube). c.measures) (slice_get catalog.cubes cube) [])
    by (Some m) = refl

-- the boxes of a cell are those of its members, or else the kept ones
boxes_are : (catalog : Catalog) (cube : ℕ) (members : List Member)
    → flat_map (box_among catalog members) (default_boxes catalog cube) ≡ flat_map (λ h. option_map_or (box catalog) (standing_among catalog cube members (Whole h)) []) (hierarchies_within catalog cube)
boxes_are catalog cube members = flat_map-map (box_among catalog members) (default_box catalog cube) (hierarchies_within catalog cube) ∙ each (hierarchies_within catalog cube)
  where
    chosen : (o other : Option Member) → option_map_or (box catalog) o (option_map_or (box catalog) other []) ≡ option_map_or (box catalog) (option_or o other) []
    chosen None other = refl
    chosen (Some m) other = refl

    each : (hs : List ℕ) → flat_map (λ h. box_among catalog members (default_box catalog cube h)) hs ≡ flat_map (λ h. option_map_or (box catalog) (standing_among catalog cube members (Whole h)) []) hs
    each [] = refl
    each (h ∷ hs) =
        ap (λ pairs. pairs ++ flat_map (λ k. box_among catalog members (default_box catalog cube k)) hs) (chosen (member_of_root (Whole h) members) (default_member catalog cube (Whole h)))
        ∙ ap (λ later. option_map_or (box catalog) (standing_among catalog cube members (Whole h)) [] ++ later) (each hs)

abbrev pub cell_with : ℕ → ℕ → List (ℕ × ℕ) → Cell
cell_with cube measure at = record { cube = cube; measure = measure; at = at }

-- the cell of some members
pub cell_is : (catalog : Catalog) (cube : ℕ) (members : List Member) (measure : ℕ) (at : List (ℕ × ℕ)) → measure ≡ measure_among members → at ≡ flat_map (box_among catalog members) (default_boxes catalog cube)
    → ◌≡◌ {A = Cell} (record { cube = cube; measure = measure; at = at }) (cell_among catalog cube members)
cell_is catalog cube members measure at measured boxed =
    ap (λ m. cell_with cube m at) (measured ∙ measure_is catalog cube members)
    ∙ ap (λ pairs. cell_with cube (option_map_or measure_number (standing_among catalog cube members Measures) 0) pairs) (boxed ∙ boxes_are catalog cube members)

-- without a rows axis the cells are those of one row, of no members
pub one_row : (catalog : Catalog) (axes : Axes) (cells : List Cell) → axes.rows ≡ None → cells ≡ row_cells catalog axes [] → cells ≡ cells_of catalog axes
one_row catalog axes cells none are = are ∙ sym (append-nil (row_cells catalog axes [])) ∙ sym (ap (λ (rows : Option Axis). flat_map (row_cells catalog axes) (option_map_or (λ (axis : Axis). axis.tuples) rows ([] ∷ []))) none)

-- with one they are those of its tuples
pub all_rows : (catalog : Catalog) (axes : Axes) (rows : Axis) (cells : List Cell) → axes.rows ≡ Some rows → cells ≡ flat_map (row_cells catalog axes) rows.tuples → cells ≡ cells_of catalog axes
all_rows catalog axes rows cells some are = are ∙ sym (ap (λ (x : Option Axis). flat_map (row_cells catalog axes) (option_map_or (λ (axis : Axis). axis.tuples) x ([] ∷ []))) some)

-- there are as many cells as rows times columns
pub count_of : (catalog : Catalog) (axes : Axes) → length (cells_of catalog axes) ≡ length (row_tuples axes) * length axes.columns.tuples
count_of catalog axes = by (row_tuples axes)
  where
    by : (rows : List (List Member)) → length (flat_map (row_cells catalog axes) rows) ≡ length rows * length axes.columns.tuples
    by [] = omega (arith)
    by (row ∷ rows) =
        let first = length-append (row_cells catalog axes row) (flat_map (row_cells catalog axes) rows) in
        let one = length-map axes.columns.tuples (λ column. cell_among catalog axes.cube (column ++ row ++ axes.slicer)) in
        let others = by rows in
        omega (arith, first, one, others, suc-mul (length rows) (length axes.columns.tuples))
