-- That `groups` ensures what it says.
use Rattle.std.proofs.Common.{◌∙◌, length, ap, arith}
use Rattle.agg_tables.specs.Tables.{TableOf, groups_in}
use Rattle.agg_tables.proofs.TableFacts.{different_few, groups_there}
use Rattle.agg_tables.proofs.table.AggTable.groups.Goals as goal

pub returns-clause-count : goal.returns-clause-count
returns-clause-count c =
    let bodies = c.self.inside.bodies.items in
    c.groups.ensures.count
    ∙ ap length (groups_there bodies c.index.result.now c.index.result.now c.self.invariant.some c.index.ensures)
    ∙ ap (λ (t : TableOf). length (groups_in t.bodies)) c.self.view_is

pub returns-clause-limit : goal.returns-clause-limit
returns-clause-limit c = omega (arith, c.groups.ensures.count, c.groups.ensures.limit, different_few c.index.result.now.rows)
