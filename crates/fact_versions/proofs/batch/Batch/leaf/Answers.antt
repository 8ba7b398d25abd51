-- That `leaf` ensures what it says and may call `item`.
use Rattle.std.proofs.Common.{◌∙◌, length, ap, arith}
use Rattle.fact_versions.specs.FactRows.{FactRows}
use Rattle.fact_versions.proofs.RowFacts.{length-rows_of_columns, row-leaf}
use Rattle.fact_versions.proofs.batch.Batch.leaf.Goals as goal

pub item-requires-clause-even : goal.item-requires-clause-even
item-requires-clause-even c =
    let rows = ap (λ (b : FactRows). length b.rows) c.self.view_is in
    let long = length-rows_of_columns c.self.inside.rows c.self.inside.leaves c.self.inside.values in
    λ k d h. omega (arith, c.self.invariant.leaf_each k d h)

pub returns : goal.returns
returns c =
    let rows = ap (λ (b : FactRows). length b.rows) c.self.view_is in
    let long = length-rows_of_columns c.self.inside.rows c.self.inside.leaves c.self.inside.values in
    rw (← c.self.view_is) (row-leaf c.self.inside.rows c.args.i c.args.dimension c.self.inside.leaves c.self.inside.values c.self.invariant.leaf_each (omega arith) ∙ c.item.ensures)
