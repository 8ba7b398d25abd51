-- That `push_row` ensures `err`.
use Rattle.std.proofs.Common.{take}
use Rattle.fact_versions.proofs.ColumnFacts.{cut-with_row}
use Rattle.fact_versions.proofs.columns.push_row.Goals as goal

pub returns-in-Err-clause-err : goal.returns-in-Err-clause-err
returns-in-Err-clause-err g c =
    let pushed = c.in-Err.ensures.err in
    rw (c.cut_each.ensures, pushed.1) (cut-with_row c.args.rows c.args.columns.now (take pushed.0 c.args.items.now) c.requires.even)
