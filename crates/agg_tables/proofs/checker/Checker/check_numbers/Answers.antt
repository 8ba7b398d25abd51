-- That `check_numbers` ensures `err` and keeps what holds at each turn.
use Rattle.std.proofs.Common.{◌∙◌, ◌<◌, List, length, sym, ap, add-one, arith}
use Rattle.std.proofs.lemmas.Result.{err_from_is_err_and}
use Rattle.agg_tables.specs.declared.declared.FileColumn.{FileColumn}
use Rattle.agg_tables.specs.Places.{CheckerOf}
use Rattle.agg_tables.specs.Files.{file_columns}
use Rattle.agg_tables.proofs.CheckFacts.{first_told, no_fault}
use Rattle.agg_tables.proofs.GroupFacts.{numbers_from}
use Rattle.agg_tables.proofs.checker.Checker.check_numbers.Goals as goal

pub returns-in_err-check_number-clause-err : goal.returns-in_err-check_number-clause-err
returns-in_err-check_number-clause-err c =
    let v = c.args.self.now in
    let p = err_from_is_err_and c.from_residual.result c.from_residual.ensures.1 in
    let within : c.loop-j.j < length (file_columns v.file.declared.measures) =
    (let end = ap (λ (cs : List FileColumn). length cs) c.columns-j-end.ensures in
    let same = ap (λ (of : CheckerOf). length (file_columns of.file.declared.measures)) c.self.view_is in
    omega (arith, end, same, c.loop-j-test.true)) in
    let step = numbers_from v c.args.row.now c.args.n c.args.values.now (file_columns v.file.declared.measures) c.loop-j.j within in
    rw (p.1, p.2) (first_told _ _ _ _ (sym c.loop-j.invariant ∙ step) c.in_err-check_number.ensures.err)

pub loop-j-preserved : goal.loop-j-preserved
loop-j-preserved c =
    let v = c.args.self.now in
    let within : c.loop-j.j < length (file_columns v.file.declared.measures) =
    (let end = ap (λ (cs : List FileColumn). length cs) c.columns-j-end.ensures in
    let same = ap (λ (of : CheckerOf). length (file_columns of.file.declared.measures)) c.self.view_is in
    omega (arith, end, same, c.loop-j-test.true)) in
    let step = numbers_from v c.args.row.now c.args.n c.args.values.now (file_columns v.file.declared.measures) c.loop-j.j within in
    rw (add-one c.loop-j.j) (no_fault _ _ _ (sym c.loop-j.invariant ∙ step) c.in_ok-check_number.ensures.sound)
