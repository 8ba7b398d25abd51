-- That `kind_number` ensures what it says of a kind that is added.
use Rattle.std.proofs.Common.{◌≡◌, ◌∙◌, List, ap, map}
use Rattle.olap_meaning.specs.declared.ids.ColumnId.{ColumnId}
use Rattle.olap_meaning.specs.declared.ids.ValueId.{ValueId}
use Rattle.history_core.specs.declared.kinds.Kind.{Kind}
use Rattle.history_core.specs.CellSources.{kind_of}
use Rattle.history_core.proofs.PackFacts.{added_kept, added_number}
use Rattle.history_core.proofs.kinds.kind_number.Goals as goal

pub returns-2-clause-number : goal.returns-2-clause-number
returns-2-clause-number c =
    let kind : Kind = record { cube = c.args.cell.now.cube; measure = c.args.cell.now.measure; columns = c.in_ok-columns_of.field-0 } in
    let columns = c.in_ok-columns_of.ensures ∙ ap (λ (at : List (ColumnId × ValueId)). map (λ (pair : ColumnId × ValueId). pair.0) at) c.as_slice.ensures in
    let same : kind ≡ kind_of c.args.cell.now = ap (λ (columns : List ColumnId). record kind { columns = columns }) columns in
    added_number c.add.result c.args.kinds.now c.add.new.self kind (kind_of c.args.cell.now) same c.add.ensures.number c.add.ensures.ok

pub returns-2-clause-kept : goal.returns-2-clause-kept
returns-2-clause-kept c =
    let kind : Kind = record { cube = c.args.cell.now.cube; measure = c.args.cell.now.measure; columns = c.in_ok-columns_of.field-0 } in
    added_kept c.add.result c.args.kinds.now c.add.new.self kind c.add.ensures.ok c.add.ensures.err
