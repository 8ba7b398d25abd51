-- That `push` ensures what it says.
use Rattle.std.proofs.Common.{◌≡◌, ◌∙◌, ◌++◌, OnOk, map}
use Rattle.olap_meaning.proofs.Lists.{on_err}
use Rattle.history_core.proofs.PackFacts.{packed_after, packed_grown, same_lists, unpacked_after, unpacked_err, unpacked_grown}
use Rattle.history_core.proofs.cell_sources.CellSources.push.Goals as goal

pub invariant_of-self : goal.invariant_of-self
invariant_of-self c =
    packed_grown c.self.inside.kinds c.kind_number.new.kinds c.self.inside.lists c.self.inside.lists c.self.inside.cells.items c.self.inside.values.items c.kind_number.ensures.kept (same_lists c.self.inside.lists) c.self.invariant

pub returns-in_err-kind-clause-err : goal.returns-in_err-kind-clause-err
returns-in_err-kind-clause-err c =
    let same = unpacked_grown c.self.inside.kinds c.kind_number.new.kinds c.self.inside.lists c.self.inside.lists c.self.inside.cells.items c.self.inside.values.items c.kind_number.ensures.kept (same_lists c.self.inside.lists) c.self.invariant in
    on_err c.from_residual.result (same ∙ c.self.view_is)

pub invariant_of-self-in_err-list : goal.invariant_of-self-in_err-list
invariant_of-self-in_err-list c =
    packed_grown c.self.inside.kinds c.kind_number.new.kinds c.self.inside.lists c.list_number.new.lists c.self.inside.cells.items c.self.inside.values.items c.kind_number.ensures.kept c.list_number.ensures.kept c.self.invariant

pub returns-in_err-list-clause-err : goal.returns-in_err-list-clause-err
returns-in_err-list-clause-err c =
    let same = unpacked_grown c.self.inside.kinds c.kind_number.new.kinds c.self.inside.lists c.list_number.new.lists c.self.inside.cells.items c.self.inside.values.items c.kind_number.ensures.kept c.list_number.ensures.kept c.self.invariant in
    on_err c.from_residual-in_err-list.result (same ∙ c.self.view_is)

pub invariant_of-self-2 : goal.invariant_of-self-2
invariant_of-self-2 c =
    let grown = packed_grown c.self.inside.kinds c.kind_number.new.kinds c.self.inside.lists c.list_number.new.lists c.self.inside.cells.items c.self.inside.values.items c.kind_number.ensures.kept c.list_number.ensures.kept c.self.invariant in
    let values : OnOk c.add_cell.result (c.add_cell.new.values.items ≡ c.self.inside.values.items ++ map (λ pair. pair.1) c.args.cell.now.at) = rw (← c.as_slice-at.ensures) c.add_cell.ensures.values in
    packed_after c.add_cell.result c.kind_number.new.kinds c.list_number.new.lists (record { kind = c.in_ok-kind.kind; loads = c.in_ok-list.list }) c.args.cell.now c.args.loads.now c.self.inside.cells.items c.add_cell.new.cells.items c.self.inside.values.items c.add_cell.new.values.items grown
    c.in_ok-kind.ensures.number c.in_ok-list.ensures.number c.add_cell.ensures.cells values c.add_cell.ensures.cells_kept c.add_cell.ensures.values_kept

pub returns-clause-ok : goal.returns-clause-ok
returns-clause-ok c =
    let grown = packed_grown c.self.inside.kinds c.kind_number.new.kinds c.self.inside.lists c.list_number.new.lists c.self.inside.cells.items c.self.inside.values.items c.kind_number.ensures.kept c.list_number.ensures.kept c.self.invariant in
    let same = unpacked_grown c.self.inside.kinds c.kind_number.new.kinds c.self.inside.lists c.list_number.new.lists c.self.inside.cells.items c.self.inside.values.items c.kind_number.ensures.kept c.list_number.ensures.kept c.self.invariant in
    let values : OnOk c.add_cell.result (c.add_cell.new.values.items ≡ c.self.inside.values.items ++ map (λ pair. pair.1) c.args.cell.now.at) = rw (← c.as_slice-at.ensures) c.add_cell.ensures.values in
    rw (← c.self.view_is, ← same) (unpacked_after c.add_cell.result c.kind_number.new.kinds c.list_number.new.lists (record { kind = c.in_ok-kind.kind; loads = c.in_ok-list.list }) c.args.cell.now c.args.loads.now c.self.inside.cells.items c.add_cell.new.cells.items c.self.inside.values.items c.add_cell.new.values.items grown
    c.in_ok-kind.ensures.number c.in_ok-list.ensures.number c.add_cell.ensures.cells values)

pub returns-clause-err : goal.returns-clause-err
returns-clause-err c =
    let grown = packed_grown c.self.inside.kinds c.kind_number.new.kinds c.self.inside.lists c.list_number.new.lists c.self.inside.cells.items c.self.inside.values.items c.kind_number.ensures.kept c.list_number.ensures.kept c.self.invariant in
    let same = unpacked_grown c.self.inside.kinds c.kind_number.new.kinds c.self.inside.lists c.list_number.new.lists c.self.inside.cells.items c.self.inside.values.items c.kind_number.ensures.kept c.list_number.ensures.kept c.self.invariant in
    rw (← c.self.view_is, ← same) (unpacked_err c.add_cell.result c.kind_number.new.kinds c.list_number.new.lists (record { kind = c.in_ok-kind.kind; loads = c.in_ok-list.list }) c.args.cell.now c.args.loads.now c.self.inside.cells.items c.add_cell.new.cells.items c.self.inside.values.items c.add_cell.new.values.items grown
    c.add_cell.ensures.cells_kept c.add_cell.ensures.values_kept)
