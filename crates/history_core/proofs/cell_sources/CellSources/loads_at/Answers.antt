-- That `loads_at` ensures what it says.
use Rattle.std.proofs.Common.{◌∙◌, ◌≤◌, [], length, sym}
use Rattle.std.proofs.lemmas.Option.{none-some, slice_get-get_or}
use Rattle.history_core.proofs.PackFacts.{list_known, loads_past, loads_there}
use Rattle.history_core.proofs.cell_sources.CellSources.loads_at.Goals as goal

pub returns-in_err-numbers : goal.returns-in_err-numbers
returns-in_err-numbers c =
    let past : length c.self.inside.cells.items ≤ c.args.i = rw (← c.deref.ensures.value) c.in_err-numbers.ensures.lookup.3 in
    rw (c.from_residual.ensures, ← c.self.view_is) (sym (loads_past c.self.inside.kinds c.self.inside.lists c.self.inside.cells.items c.self.inside.values.items c.args.i past))

pub returns-in_err-list : goal.returns-in_err-list
returns-in_err-list c =
    let inside = rw c.deref.ensures.value at c.in_ok-numbers.ensures.lookup.3.0 in
    let there = rw c.deref.ensures.value at c.in_ok-numbers.ensures.lookup.1 in
    let known = list_known c.self.inside.kinds c.self.inside.lists c.self.inside.cells.items c.self.inside.values.items c.args.i c.in_ok-numbers.numbers.now inside there c.self.invariant in
    absurd (none-some _ (c.in_err-list.ensures ∙ slice_get-get_or c.self.inside.lists c.in_ok-numbers.numbers.now.loads [] known))

pub returns : goal.returns
returns c =
    let inside = rw c.deref.ensures.value at c.in_ok-numbers.ensures.lookup.3.0 in
    let there = rw c.deref.ensures.value at c.in_ok-numbers.ensures.lookup.1 in
    rw (c.as_slice.ensures, ← c.self.view_is) (sym (loads_there c.self.inside.kinds c.self.inside.lists c.self.inside.cells.items c.self.inside.values.items c.args.i c.in_ok-numbers.numbers.now inside there c.in_ok-list.list.now (sym c.in_ok-list.ensures)))
