-- A fetch is what was asked for, and what came of it.
use Rattle.std.proofs.Common.{ap, Err}
use Rattle.std.proofs.lemmas.Result.{err_from_is_err_and}
use Rattle.cache_opening.proofs.LeadFacts.{leads_failed, leads_found, leads_missing, leads_unnamed, leads_wanting}
use Rattle.cache_opening.proofs.files.fetch.Goals as goal

pub returns-in-Ok-clause-read : goal.returns-in-Ok-clause-read
returns-in-Ok-clause-read g c = leads_found (g.D.Depot.files c.args.depot.now) (g.D.Depot.answers c.args.depot.now) (g.D.Depot.answers c.fetch.new.self) c.args.name.now c.in-Ok.bytes c.in-Ok.ensures.answered c.in-Ok.ensures.file

pub returns-in_err-name-in-Err-Missing-clause-read : goal.returns-in_err-name-in-Err-Missing-clause-read
returns-in_err-name-in-Err-Missing-clause-read g c =
    let why = c.in-Err-Missing in
    let p = err_from_is_err_and c.from_residual.result c.from_residual.ensures.1 in rw (p.1, p.2)
    (leads_unnamed (g.D.Depot.files c.args.depot.now) (g.D.Depot.answers c.args.depot.now) (g.D.Depot.answers c.fetch.new.self) c.args.name.now (rw why.field-0-is at why.ensures.answered) (why.ensures.not_there (ap Err why.field-0-is)))

pub returns-in_ok-name-in-Err-Missing-clause-read : goal.returns-in_ok-name-in-Err-Missing-clause-read
returns-in_ok-name-in-Err-Missing-clause-read g c =
    let why = c.in-Err-Missing in rw c.in_ok-name-in-Err-Missing.ensures
    (leads_missing (g.D.Depot.files c.args.depot.now) (g.D.Depot.answers c.args.depot.now) (g.D.Depot.answers c.fetch.new.self) c.args.name.now (rw why.field-0-is at why.ensures.answered) (why.ensures.not_there (ap Err why.field-0-is)))

pub returns-in-Err-Failed-clause-read : goal.returns-in-Err-Failed-clause-read
returns-in-Err-Failed-clause-read g c =
    let why = c.in-Err-Failed in
    leads_failed (g.D.Depot.files c.args.depot.now) (g.D.Depot.answers c.args.depot.now) (g.D.Depot.answers c.fetch.new.self) c.args.name.now (rw why.field-0-is at why.ensures.answered)

pub returns-in-Err-OutOfMemory-clause-read : goal.returns-in-Err-OutOfMemory-clause-read
returns-in-Err-OutOfMemory-clause-read g c =
    let why = c.in-Err-OutOfMemory in
    leads_wanting (g.D.Depot.files c.args.depot.now) (g.D.Depot.answers c.args.depot.now) (g.D.Depot.answers c.fetch.new.self) c.args.name.now (rw why.field-0-is at why.ensures.answered)
