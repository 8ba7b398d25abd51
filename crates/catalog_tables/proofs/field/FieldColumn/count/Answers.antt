-- That `count` stays within its numbers, and within the limit of records.
use Rattle.std.proofs.Common.{arith, subst, le_trans, length, ◌≤◌, List, ℕ}
use Rattle.olap_meaning.specs.Catalog.{first_appearances}
use Rattle.olap_meaning.specs.declared.schema.TheConstants.{RECORD_LIMIT}
use Rattle.olap_meaning.proofs.Lists.{appearances_le}
use Rattle.catalog_tables.proofs.FieldFacts.{count_fits}
use Rattle.catalog_tables.proofs.field.FieldColumn.count.Goals as goal

pub overflow_cast-result : goal.overflow_cast-result
overflow_cast-result c =
    let fits = count_fits c.self.inside.names c.self.inside.numbers.items c.self.inside.of.items c.self.invariant in
    omega (arith, fits, c.len.ensures)

pub returns-clause-limit : goal.returns-clause-limit
returns-clause-limit c =
    let most = appearances_le c.self.inside.of.items in
    subst (λ (texts : List (List ℕ)). length (first_appearances texts) ≤ RECORD_LIMIT) c.self.view_is (le_trans most c.self.invariant.room)
