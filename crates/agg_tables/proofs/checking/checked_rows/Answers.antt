-- That `checked_rows` ensures `fault`.
use Rattle.std.proofs.lemmas.Result.{err_from_is_err_and}
use Rattle.fact_reader.specs.BodyRows.{rows_in}
use Rattle.agg_tables.proofs.CheckFacts.{records_told, same_told}
use Rattle.agg_tables.proofs.checking.checked_rows.Goals as goal

pub returns-in_err-check_records-clause-fault : goal.returns-in_err-check_records-clause-fault
returns-in_err-check_records-clause-fault g c =
    let p = err_from_is_err_and c.from_residual-in_err-check_records.result c.from_residual-in_err-check_records.ensures.1 in
    let told = records_told c.args.catalog.now c.args.rows.now (rows_in c.args.snapshot.now) c.args.declared.now c.in_ok-file.file.header c.file_of.new.rows c.in_ok-file.ensures.first c.in_ok-file.ensures.sound in
    let err = rw (c.in_ok-checker.ensures.checker, c.in_ok-file.ensures.catalog, c.in_ok-file.ensures.declared) at c.in_err-check_records.ensures.err in
    rw (p.1, p.2) (same_told _ _ _ told err)
