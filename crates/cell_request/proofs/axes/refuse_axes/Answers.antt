-- That `refuse_axes` ensures what it says.
use Rattle.std.proofs.Common.{◌∙◌, ap, subst, sym}
use Rattle.std.proofs.lemmas.List.Elements.{All-same}
use Rattle.std.proofs.lemmas.Result.{err_from_is_err_and}
use Rattle.olap_meaning.specs.MemberOf.{IsLevelIn}
use Rattle.query_meaning.specs.Resolution.{twice}
use Rattle.cell_request.specs.Faults.{IsReason}
use Rattle.cell_request.proofs.AxesFacts.{cells_told, refused_twice, shared_own, tested, tested_fault}
use Rattle.cell_request.proofs.axes.refuse_axes.Goals as goal

pub refuse_twice-requires : goal.refuse_twice-requires
refuse_twice-requires c =
    All-same (IsLevelIn c.args.catalog.now) _ _ (c.as_slice.ensures ∙ c.in_ok-roots.ensures)
    (shared_own c.args.catalog.now c.args.cube c.args.columns.now c.args.rows.now c.args.slicer.now c.requires.columns c.requires.rows c.requires.slicer)

pub returns-in_err-refuse_twice-clause-fault : goal.returns-in_err-refuse_twice-clause-fault
returns-in_err-refuse_twice-clause-fault c =
    let p = err_from_is_err_and c.from_residual-in_err-refuse_twice.result c.from_residual-in_err-refuse_twice.ensures.1 in
    rw (p.1, p.2)
    (refused_twice c.args.catalog.now c.args.cube c.args.columns.now c.args.rows.now c.args.slicer.now c.in_err-refuse_twice.field-0.0
    (subst (λ roots. IsReason c.in_err-refuse_twice.field-0.0 (twice c.args.catalog.now roots)) (c.as_slice.ensures ∙ c.in_ok-roots.ensures) c.in_err-refuse_twice.ensures.fault))

pub returns-clause-ok : goal.returns-clause-ok
returns-clause-ok c =
    tested c.args.catalog.now c.args.cube c.args.columns.now c.args.rows.now c.args.slicer.now (ap (twice c.args.catalog.now) (sym (c.as_slice.ensures ∙ c.in_ok-roots.ensures)) ∙ c.in_ok-refuse_twice.ensures.ok) _ c.cell_count.result
    (c.cell_count.ensures ∙ cells_told c.args.catalog.now c.args.cube c.args.columns.now c.args.rows.now c.requires.columns c.requires.rows) c.refuse_many.ensures.ok

pub returns-clause-fault : goal.returns-clause-fault
returns-clause-fault c =
    tested_fault c.args.catalog.now c.args.cube c.args.columns.now c.args.rows.now c.args.slicer.now (ap (twice c.args.catalog.now) (sym (c.as_slice.ensures ∙ c.in_ok-roots.ensures)) ∙ c.in_ok-refuse_twice.ensures.ok) _ c.cell_count.result
    (c.cell_count.ensures ∙ cells_told c.args.catalog.now c.args.cube c.args.columns.now c.args.rows.now c.requires.columns c.requires.rows) c.refuse_many.ensures.many c.refuse_many.ensures.fault
