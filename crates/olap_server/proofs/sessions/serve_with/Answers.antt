-- A session that was begun was served, and then the last was said; or it could not begin.
use Rattle.std.proofs.Common.{◌∙◌, ap, arith, inl, refl}
use Rattle.line_session.specs.Desks.{DeskOf}
use Rattle.line_session.specs.Sessions.{all_read}
use Rattle.olap_server.specs.Run.{around_of}
use Rattle.olap_server.proofs.RunFacts.{has_not_begun}
use Rattle.olap_server.proofs.sessions.serve_with.Goals as goal

pub returns-in_default : goal.returns-in_default
returns-in_default g c =
    let served = c.serve.ensures.served c.in_default.not-Memory in
    record {
      served = (
        all_read served.1,
        served.5,
        inl (record {
          end = c.serve.result;
          talk = g.K.Link.talk c.serve.new.link;
          asked = served.0;
          handled = served.1;
          conversed = served.3;
          answered = served.2;
          served = served.4;
          read_is = refl;
          few = served.6;
          last = c.last_word.ensures;
        }),
      );
      grown = c.serve.ensures.grown;
    }

pub returns-in-Memory : goal.returns-in-Memory
returns-in-Memory g c =
    let still = c.serve.ensures.unserved c.in-Memory.is in
    let start = around_of g.D.Depot.answers g.K.Link.talk g.K.Link.left c.args.depot.now c.args.link.now in
    let finish = around_of g.D.Depot.answers g.K.Link.talk g.K.Link.left c.serve.new.depot c.say-in-Memory.new.link in
    record {
      served = (
        0,
        (let none = still.3 in omega (arith, none)),
        has_not_begun _ (g.D.Depot.files c.args.depot.now) c.args.desk.now c.serve.new.desk start finish c.say-in-Memory.result c.no_memory.result (ap (λ (desk : DeskOf). desk.cache) still.0) c.no_memory.ensures (rw still.1 at c.say-in-Memory.ensures.last) (ap g.D.Depot.answers still.2) (c.say-in-Memory.ensures.unread ∙ ap g.K.Link.left still.1),
      );
      grown = c.serve.ensures.grown;
    }
