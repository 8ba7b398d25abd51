-- Where there is no memory for the catalog's owner, no session begins.
use Rattle.std.proofs.Common.{[], arith, refl}
use Rattle.line_session.proofs.GoingOn.{stands}
use Rattle.olap_server.specs.Run.{around_of, desk_over}
use Rattle.olap_server.proofs.RunFacts.{has_not_begun}
use Rattle.olap_server.proofs.sessions.serve_desk.Goals as goal

pub returns-in-Err : goal.returns-in-Err
returns-in-Err g c =
    let start = around_of g.D.Depot.answers g.K.Link.talk g.K.Link.left c.args.depot.now c.args.link.now in
    let finish = around_of g.D.Depot.answers g.K.Link.talk g.K.Link.left c.args.depot.now c.say-in-Err.new.link in
    record {
      served = (
        0,
        omega arith,
        has_not_begun _ (g.D.Depot.files c.args.depot.now) c.args.desk.now c.args.desk.now start finish c.say-in-Err.result c.no_memory.result refl c.no_memory.ensures c.say-in-Err.ensures.last refl c.say-in-Err.ensures.unread,
      );
      grown = ([], stands (desk_over c.args.desk.now));
    }
