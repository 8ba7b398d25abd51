-- That `new_rows` ensures what it says.
use Rattle.std.proofs.Common.{sym}
use Rattle.olap_plain.proofs.GroupFacts.{rows_kept, rows_more}
use Rattle.olap_plain.proofs.budget.new_rows.Goals as goal

pub returns-then-last-version : goal.returns-then-last-version
returns-then-last-version c =
    rows_kept c.args.before.now c.args.entry.now c.args.cube c.args.last (rw (sym c.version.ensures, sym c.last.view_is) c.if-last-version.true)

pub returns : goal.returns
returns c =
    rows_more c.args.before.now c.args.entry.now c.args.cube c.args.last c.rows_in.result.now (rw (sym c.version.ensures, sym c.last.view_is) c.if-last-version.false) c.rows_in.ensures
