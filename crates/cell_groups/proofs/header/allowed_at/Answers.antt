-- The widener is asked with the values that all cells of the group have in the column.
use Rattle.std.proofs.Common.{◌∙◌, ap, length}
use Rattle.olap_meaning.specs.Catalog.{values}
use Rattle.olap_meaning.specs.Legal.{is_cell}
use Rattle.segment_header.specs.contracts.widener.WidenerAllowsValues as widener
use Rattle.cell_groups.specs.Lent.{lent}
use Rattle.cell_groups.proofs.HeaderFacts.{answered, enough, known_column, member_passes, served, values_are, wanted_there}
use Rattle.cell_groups.proofs.ValueFacts.{among_read}
use Rattle.cell_groups.proofs.header.allowed_at.Goals as goal

pub read_values-requires : goal.read_values-requires
read_values-requires g c = rw c.as_slice.ensures.value (enough c.args.group.now.first.now (lent c.args.group.now.cells.items) c.args.place c.requires.alike c.requires.place)

pub value_count-count-requires : goal.value_count-count-requires
value_count-count-requires g c =
    rw c.column_at.ensures
    (known_column c.args.catalog.now c.args.group.now.first.now c.args.place c.requires.place
    (member_passes (is_cell c.args.catalog.now) (lent c.args.group.now.cells.items) c.args.group.now.first.now c.requires.known c.requires.among))

pub allow-requires : goal.allow-requires
allow-requires g c =
    let count = c.value_count-count.ensures.count ∙ ap (λ column. length (values c.args.catalog.now column)) c.column_at.ensures in
    let limit = rw count at c.value_count-count.ensures.limit in
    rw (c.as_slice-2.ensures.value, count)
    (wanted_there c.args.catalog.now c.args.group.now.first.now c.args.place c.requires.place (lent c.args.group.now.cells.items) c.requires.known c.requires.alike c.make_rising.new.values.items c.make_rising.ensures.rising
    (among_read c.args.place c.args.group.now.cells.items c.as_slice.result.now c.read_values.new.values.items c.make_rising.new.values.items c.as_slice.ensures.value c.in_ok-read_values.ensures c.make_rising.ensures.same)
    c.requires.among limit)

pub returns-clause-allowed : goal.returns-clause-allowed
returns-clause-allowed g c =
    answered ((widener.TheImpl.ghosts g.dyn-1).answers c.args.widener.now) _ _ _ _ c.allow.result
    (c.as_slice-2.ensures.value
    ∙ values_are c.args.catalog.now c.args.group.now.first.now c.args.place c.requires.place (lent c.args.group.now.cells.items) c.requires.known c.requires.alike c.make_rising.new.values.items c.make_rising.ensures.rising
    (among_read c.args.place c.args.group.now.cells.items c.as_slice.result.now c.read_values.new.values.items c.make_rising.new.values.items c.as_slice.ensures.value c.in_ok-read_values.ensures c.make_rising.ensures.same))
    (c.value_count-count.ensures.count ∙ ap (λ column. length (values c.args.catalog.now column)) c.column_at.ensures)
    c.allow.ensures.answer

pub returns-clause-serves : goal.returns-clause-serves
returns-clause-serves g c =
    served _ _ _ _ c.allow.result
    (c.as_slice-2.ensures.value
    ∙ values_are c.args.catalog.now c.args.group.now.first.now c.args.place c.requires.place (lent c.args.group.now.cells.items) c.requires.known c.requires.alike c.make_rising.new.values.items c.make_rising.ensures.rising
    (among_read c.args.place c.args.group.now.cells.items c.as_slice.result.now c.read_values.new.values.items c.make_rising.new.values.items c.as_slice.ensures.value c.in_ok-read_values.ensures c.make_rising.ensures.same))
    (c.value_count-count.ensures.count ∙ ap (λ column. length (values c.args.catalog.now column)) c.column_at.ensures)
    c.allow.ensures.serves
