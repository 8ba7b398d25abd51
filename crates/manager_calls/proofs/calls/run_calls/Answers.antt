-- What `run_calls` has done where it stops.
use Rattle.std.proofs.Common.{[], arith, refl}
use Rattle.std.proofs.lemmas.Result.{err_from_is_err_and}
use Rattle.manager_calls.proofs.calls.run_calls.Goals as goal

pub returns-in_err-manager-clause-stopped : goal.returns-in_err-manager-clause-stopped
returns-in_err-manager-clause-stopped g c =
    let p = err_from_is_err_and c.from_residual.result c.from_residual.ensures.1 in
    rw p.1 (record { made = []; left = c.args.calls; replies = []; front = refl; may = tt; at_most = omega arith })

pub returns-in_err-replies-clause-stopped : goal.returns-in_err-replies-clause-stopped
returns-in_err-replies-clause-stopped g c =
    let p = err_from_is_err_and c.from_residual-in_err-replies.result c.from_residual-in_err-replies.ensures.1 in
    rw p.1 (rw c.in_ok-manager.ensures at c.in_err-replies.ensures.stopped)
