-- That `open_tables` ensures `ok`, `levels`, `fault` and `same_files`, and keeps what holds at each turn.
use Rattle.std.proofs.Common.{◌≤◌, ◌∙◌, ◌+◌, ◌++◌, ◌∷◌, [], arith, length, refl}
use Rattle.std.proofs.lemmas.Result.{err_from_is_err_and}
use Rattle.cache_opening.proofs.TableSteps.{all_tables, more_tables, no_tables, table_fails, tables_stop, whole_tables}
use Rattle.cache_opening.proofs.catalogs.open_tables.Goals as goal

pub loop-dimension-init : goal.loop-dimension-init
loop-dimension-init g c = record {
  same = refl;
  are = rw c.new-tables.ensures (no_tables (g.D.Depot.files c.args.depot.now) (g.D.Depot.answers c.args.depot.now) c.args.schema.now.dimensions);
}

pub returns-in_err-table-clause-fault : goal.returns-in_err-table-clause-fault
returns-in_err-table-clause-fault g c =
    let p = err_from_is_err_and c.from_residual.result c.from_residual.ensures.1 in rw (p.1, p.2)
    (table_fails (g.D.Depot.files c.args.depot.now) (g.D.Depot.answers c.args.depot.now) (g.D.Depot.answers c.loop-dimension.depot) (g.D.Depot.answers c.open_table.new.depot) c.args.schema.now.dimensions c.loop-dimension.dimension c.loop-dimension.tables
    c.loop-dimension.invariant.are c.in_err-table.field-0.0 (rw c.loop-dimension.invariant.same at c.in_err-table.ensures.fault))

pub returns-in_err-table-clause-same_files : goal.returns-in_err-table-clause-same_files
returns-in_err-table-clause-same_files g c = c.open_table.ensures.same_files ∙ c.loop-dimension.invariant.same

pub returns-in_err-push-clause-fault : goal.returns-in_err-push-clause-fault
returns-in_err-push-clause-fault g c =
    let more =
    more_tables (g.D.Depot.files c.args.depot.now) (g.D.Depot.answers c.args.depot.now) (g.D.Depot.answers c.loop-dimension.depot) (g.D.Depot.answers c.open_table.new.depot) c.args.schema.now.dimensions c.loop-dimension.dimension c.loop-dimension.tables
    c.loop-dimension.invariant.are c.in_ok-table.table (rw c.loop-dimension.invariant.same at c.in_ok-table.ensures.ok) c.in_ok-table.ensures.levels in
    let p = err_from_is_err_and c.from_residual-in_err-push.result c.from_residual-in_err-push.ensures.1 in rw (p.1, p.2)
    (tables_stop (g.D.Depot.files c.args.depot.now) (g.D.Depot.answers c.args.depot.now) (g.D.Depot.answers c.open_table.new.depot) c.args.schema.now.dimensions (c.loop-dimension.dimension + 1) (c.loop-dimension.tables ++ c.in_ok-table.table ∷ []) more)

pub returns-in_err-push-clause-same_files : goal.returns-in_err-push-clause-same_files
returns-in_err-push-clause-same_files g c = c.open_table.ensures.same_files ∙ c.loop-dimension.invariant.same

pub loop-dimension-preserved : goal.loop-dimension-preserved
loop-dimension-preserved g c = record {
  same = c.open_table.ensures.same_files ∙ c.loop-dimension.invariant.same;
  are =
      rw c.in_ok-push.ensures.ok
      (more_tables (g.D.Depot.files c.args.depot.now) (g.D.Depot.answers c.args.depot.now) (g.D.Depot.answers c.loop-dimension.depot) (g.D.Depot.answers c.open_table.new.depot) c.args.schema.now.dimensions c.loop-dimension.dimension c.loop-dimension.tables
      c.loop-dimension.invariant.are c.in_ok-table.table (rw c.loop-dimension.invariant.same at c.in_ok-table.ensures.ok) c.in_ok-table.ensures.levels);
}

pub returns-clause-ok : goal.returns-clause-ok
returns-clause-ok g c =
    let end : length c.args.schema.now.dimensions ≤ c.loop-dimension.dimension = omega (arith, c.len-dimension-end.ensures, c.loop-dimension-test.false) in
    all_tables (g.D.Depot.files c.args.depot.now) (g.D.Depot.answers c.args.depot.now) (g.D.Depot.answers c.loop-dimension.depot) c.args.schema.now.dimensions c.loop-dimension.dimension c.loop-dimension.tables c.loop-dimension.invariant.are end

pub returns-clause-levels : goal.returns-clause-levels
returns-clause-levels g c =
    let end : length c.args.schema.now.dimensions ≤ c.loop-dimension.dimension = omega (arith, c.len-dimension-end.ensures, c.loop-dimension-test.false) in
    whole_tables (g.D.Depot.files c.args.depot.now) (g.D.Depot.answers c.args.depot.now) (g.D.Depot.answers c.loop-dimension.depot) c.args.schema.now.dimensions c.loop-dimension.dimension c.loop-dimension.tables c.loop-dimension.invariant.are end

pub returns-clause-same_files : goal.returns-clause-same_files
returns-clause-same_files g c = c.loop-dimension.invariant.same
