-- That `fold_rows` ensures `fault`.
use Rattle.std.proofs.Common.{◌+◌}
use Rattle.std.proofs.lemmas.Result.{err_from_is_err_and}
use Rattle.olap_server.proofs.FaultFacts.{tells_first}
use Rattle.olap_server.proofs.cell.fold_rows.Goals as goal

pub returns-in_err-value-clause-fault : goal.returns-in_err-value-clause-fault
returns-in_err-value-clause-fault c =
    let p = err_from_is_err_and c.from_residual-in_err-value.result c.from_residual-in_err-value.ensures.1 in
    rw (p.1, p.2) (tells_first _ c.args.bound.now.query c.args.bound.now.header (c.loop-row.n + 1) c.next.new.row c.next.new.self c.loop-row.rows _ (c.in_ok-next.ensures.taken c.if-branch.true) c.loop-row.invariant.sound_so_far c.in_err-value.ensures.fault)
