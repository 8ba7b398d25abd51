-- That `len` ensures what it says.
use Rattle.std.proofs.Common.{rules}
use Rattle.history_core.proofs.PackFacts.{length-unpacked}
use Rattle.history_core.proofs.cell_sources.CellSources.len.Goals as goal

pub returns : goal.returns
returns c =
    let long = length-unpacked c.self.inside.kinds c.self.inside.lists c.self.inside.cells.items c.self.inside.values.items in
    rw (← c.self.view_is, long) (search rules)
