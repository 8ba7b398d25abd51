-- That `push` ensures `err` and `ok` and leaves a value that is whole.
use Rattle.std.proofs.Common.{refl, ap, arith}
use Rattle.fact_versions.specs.FactRows.{FactRows}
use Rattle.fact_versions.proofs.ColumnFacts.{cut-with_row, even-with_row, length-with_row}
use Rattle.fact_versions.proofs.RowFacts.{rows-with_row}
use Rattle.fact_versions.proofs.batch.Batch.push.Goals as goal

pub invariant_of-self-in-Err : goal.invariant_of-self-in-Err
invariant_of-self-in-Err c =
    rw (c.cut.ensures, c.in_ok-push.ensures.ok, cut-with_row c.self.inside.rows c.self.inside.leaves c.args.leaves.now c.self.invariant.leaf_each, c.in-Err.ensures.err) c.self.invariant

pub returns-in-Err-clause-err : goal.returns-in-Err-clause-err
returns-in-Err-clause-err c =
    rw (c.cut.ensures, c.in_ok-push.ensures.ok, cut-with_row c.self.inside.rows c.self.inside.leaves c.args.leaves.now c.self.invariant.leaf_each, c.in-Err.ensures.err) c.self.view_is

pub invariant_of-self-2 : goal.invariant_of-self-2
invariant_of-self-2 c =
    let dimensions = ap (λ (b : FactRows). b.dimensions) c.self.view_is in
    let columns = ap (λ (b : FactRows). b.columns) c.self.view_is in
    rw (c.in_ok-push.ensures.ok, c.in_default.ensures.ok) (record {
      leaf_each = even-with_row c.self.inside.rows c.self.inside.leaves c.args.leaves.now c.self.invariant.leaf_each (omega (arith, c.requires.leaves));
      value_each = even-with_row c.self.inside.rows c.self.inside.values c.args.values.now c.self.invariant.value_each (omega (arith, c.requires.values));
      dimensions_fit = rw (length-with_row c.self.inside.leaves c.args.leaves.now) c.self.invariant.dimensions_fit;
      columns_fit = rw (length-with_row c.self.inside.values c.args.values.now) c.self.invariant.columns_fit;
      rows_fit = omega (arith, c.self.invariant.rows_fit);
    })

pub returns-clause-ok : goal.returns-clause-ok
returns-clause-ok c =
    let dimensions = ap (λ (b : FactRows). b.dimensions) c.self.view_is in
    let columns = ap (λ (b : FactRows). b.columns) c.self.view_is in
    let more = rows-with_row c.self.inside.rows c.self.inside.leaves c.self.inside.values c.args.leaves.now c.args.values.now c.self.invariant.leaf_each c.self.invariant.value_each (omega (arith, c.requires.leaves)) (omega (arith, c.requires.values)) in
    rw (← c.self.view_is, c.in_ok-push.ensures.ok, c.in_default.ensures.ok, length-with_row c.self.inside.leaves c.args.leaves.now, length-with_row c.self.inside.values c.args.values.now, more) refl
