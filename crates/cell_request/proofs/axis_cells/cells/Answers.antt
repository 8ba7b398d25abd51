-- That `cells` ensures `known` and `count`.
use Rattle.std.proofs.Common.{◌≡◌, ◌∙◌, ◌++◌, Bool, List, [], ◌∷◌, All, IsTrue, ap, flat_map, length, refl}
use Rattle.std.specs.List.{list_all}
use Rattle.std.proofs.lemmas.List.{take_all}
use Rattle.std.proofs.lemmas.List.Elements.{All-head, All-same, All-tail}
use Rattle.olap_meaning.specs.declared.cells.Cell.{Cell}
use Rattle.olap_meaning.specs.Legal.{is_cell}
use Rattle.query_meaning.specs.AxisCells.{cells_of}
use Rattle.cell_request.specs.Standing.{row_cells}
use Rattle.cell_request.proofs.CellFacts.{all_rows, count_of, one_row}
use Rattle.cell_request.proofs.KnownFacts.{cells_known, sound_with}
use Rattle.cell_request.proofs.axis_cells.cells.Goals as goal
use Rattle.cell_request.proofs.axis_cells.cells.Goals.{In_ok-defaults}

-- what holds of each is tested of all
all_pass : (p : Cell → Bool) (cells : List Cell) → All (λ cell. IsTrue (p cell)) cells → IsTrue (list_all p cells)
all_pass p [] all = refl
all_pass p (cell ∷ cells) all = rw (All-head (λ k. IsTrue (p k)) cell cells all) (all_pass p cells (All-tail (λ k. IsTrue (p k)) cell cells all))

-- the cells of the axes are the catalog's
known : (c : In_ok-defaults) (cells : List Cell) → cells ≡ cells_of c.args.catalog.now c.args.axes.now → IsTrue (list_all (is_cell c.args.catalog.now) cells)
known c cells are =
    let sound =
    sound_with c.args.catalog.now c.args.axes.now.cube c.in_ok-defaults.defaults c.layout_holds.ensures.levels c.layout_holds.ensures.rising c.is_whole.ensures.schema c.is_whole.ensures.cubes c.requires.cube c.in_ok-defaults.ensures.all c.in_ok-defaults.ensures.own in
    all_pass (is_cell c.args.catalog.now) cells (All-same (λ cell. IsTrue (is_cell c.args.catalog.now cell)) cells (cells_of c.args.catalog.now c.args.axes.now) are (cells_known c.args.catalog.now c.args.axes.now sound c.requires))

pub returns-in_default-clause-known : goal.returns-in_default-clause-known
returns-in_default-clause-known c =
    known ((goal.at.returns-in_default-clause-known c).In_ok-defaults) c.add_row.new.cells
    (one_row c.args.catalog.now c.args.axes.now c.add_row.new.cells c.in_default.is (c.in_ok-add_row.ensures ∙ ap (λ cells. cells ++ row_cells c.args.catalog.now c.args.axes.now []) c.new-cells.ensures))

pub returns-clause-known : goal.returns-clause-known
returns-clause-known c =
    known ((goal.at.returns-clause-known c).In_ok-defaults) c.loop-row.cells
    (all_rows c.args.catalog.now c.args.axes.now c.in-Some.rows c.loop-row.cells c.in-Some.is
    (c.loop-row.invariant ∙ ap (flat_map (row_cells c.args.catalog.now c.args.axes.now)) (take_all c.loop-row.row-index c.as_slice-row-items.result.now c.loop-row-test.false ∙ c.as_slice-row-items.ensures)))

pub returns-in_default-clause-count : goal.returns-in_default-clause-count
returns-in_default-clause-count c =
    ap length (one_row c.args.catalog.now c.args.axes.now c.add_row.new.cells c.in_default.is (c.in_ok-add_row.ensures ∙ ap (λ cells. cells ++ row_cells c.args.catalog.now c.args.axes.now []) c.new-cells.ensures))
    ∙ count_of c.args.catalog.now c.args.axes.now

pub returns-clause-count : goal.returns-clause-count
returns-clause-count c =
    ap length (all_rows c.args.catalog.now c.args.axes.now c.in-Some.rows c.loop-row.cells c.in-Some.is
    (c.loop-row.invariant ∙ ap (flat_map (row_cells c.args.catalog.now c.args.axes.now)) (take_all c.loop-row.row-index c.as_slice-row-items.result.now c.loop-row-test.false ∙ c.as_slice-row-items.ensures)))
    ∙ count_of c.args.catalog.now c.args.axes.now
