-- That `axes_in` ensures what it says.
use Rattle.std.proofs.Common.{◌∙◌, option_map, subst, sym}
use Rattle.std.proofs.lemmas.Result.{err_from_is_err_and}
use Rattle.query_meaning.specs.Resolution.{axes_of}
use Rattle.cell_request.specs.Faults.{IsFaultOf}
use Rattle.cell_request.specs.Parts.{part_meant}
use Rattle.cell_request.proofs.AxesFacts.{listed_fault, listed_ok, meant_as}
use Rattle.cell_request.proofs.axes.axes_in.Goals as goal

pub returns-in_err-refuse_axes-clause-fault : goal.returns-in_err-refuse_axes-clause-fault
returns-in_err-refuse_axes-clause-fault c =
    let p = err_from_is_err_and c.from_residual-in_err-refuse_axes.result c.from_residual-in_err-refuse_axes.ensures.1 in
    let slicer = rw c.as_slice.ensures at c.in_ok-slicer.ensures.ok in
    let fault = rw c.as_slice-2.ensures at c.in_err-refuse_axes.ensures.fault in
    rw (p.1, p.2)
    (subst (λ outcome. IsFaultOf c.in_err-refuse_axes.field-0.0 outcome) (sym (meant_as c.args.catalog.now c.args.query.now c.args.cube c.in_ok-columns.columns c.in_ok-rows.rows c.in_ok-slicer.slicer c.requires.found c.in_ok-columns.ensures.ok c.in_ok-rows.ensures.ok slicer))
    (fault (axes_of c.args.cube c.args.query.now (part_meant c.args.catalog.now c.args.cube c.in_ok-columns.columns) (option_map (part_meant c.args.catalog.now c.args.cube) c.in_ok-rows.rows) c.in_ok-slicer.slicer)))

pub returns-clause-ok : goal.returns-clause-ok
returns-clause-ok c =
    let slicer = rw c.as_slice.ensures at c.in_ok-slicer.ensures.ok in
    let ok = rw c.as_slice-2.ensures at c.in_ok-refuse_axes.ensures.ok in
    listed_ok _ _ _
    (meant_as c.args.catalog.now c.args.query.now c.args.cube c.in_ok-columns.columns c.in_ok-rows.rows c.in_ok-slicer.slicer c.requires.found c.in_ok-columns.ensures.ok c.in_ok-rows.ensures.ok slicer ∙ ok _)
    c.listed_axes.ensures.axes

pub returns-clause-fault : goal.returns-clause-fault
returns-clause-fault c = listed_fault _ _ c.listed_axes.ensures.fault
