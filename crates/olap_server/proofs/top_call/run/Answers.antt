-- What each kind of command line tells where no cache was opened.
use Rattle.std.proofs.Common.{◌+◌, Some, None, refl, subst, sym, ap}
use Rattle.cache_opening.specs.Opening.{rows_checked}
use Rattle.command_words.specs.Commands.{Cell, Run}
use Rattle.command_words.specs.Shapes.{run_read}
use Rattle.olap_server.specs.Run.{Tells, around_of}
use Rattle.olap_server.specs.Said.{Said}
use Rattle.olap_server.proofs.RunFacts.{by_asked, by_memory, is_cut_off, is_told, where_history}
use Rattle.olap_server.proofs.top_call.run.Goals as goal

pub returns-in-Ok-Some-Run-clause-told : goal.returns-in-Ok-Some-Run-clause-told
returns-in-Ok-Some-Run-clause-told g c none whole =
    let told = c.run_session.ensures.told none in
    let is = rw (c.in-Ok-Some-Run.field-0-is, c.in-Ok-Some-Run.field-0-0-is) at c.in-Ok-Some-Run.ensures.asked in
    is_told c.args.words.now (g.D.Depot.files c.args.depot.now) (around_of g.D.Depot.answers g.K.Link.talk g.K.Link.left c.args.depot.now c.args.link.now) (around_of g.D.Depot.answers g.K.Link.talk g.K.Link.left c.run_session.new.depot c.run_session.new.link) c.run_session.result.status told.0 (by_asked c.args.words.now (Some (Run (run_read c.in-Ok-Some-Run.options))) (g.D.Depot.files c.args.depot.now) (g.D.Depot.answers c.args.depot.now) (g.D.Depot.answers c.run_session.new.depot) told.0.status told.0.text is told.1) told.2 (c.run_session.ensures.unread none) whole

pub returns-in-Ok-Some-Run-clause-cut_off : goal.returns-in-Ok-Some-Run-clause-cut_off
returns-in-Ok-Some-Run-clause-cut_off g c none sink =
    let told = c.run_session.ensures.told none in
    let is = rw (c.in-Ok-Some-Run.field-0-is, c.in-Ok-Some-Run.field-0-0-is) at c.in-Ok-Some-Run.ensures.asked in
    is_cut_off c.args.words.now (g.D.Depot.files c.args.depot.now) (around_of g.D.Depot.answers g.K.Link.talk g.K.Link.left c.args.depot.now c.args.link.now) (around_of g.D.Depot.answers g.K.Link.talk g.K.Link.left c.run_session.new.depot c.run_session.new.link) c.run_session.result.status told.0 (by_asked c.args.words.now (Some (Run (run_read c.in-Ok-Some-Run.options))) (g.D.Depot.files c.args.depot.now) (g.D.Depot.answers c.args.depot.now) (g.D.Depot.answers c.run_session.new.depot) told.0.status told.0.text is told.1) told.2 (c.run_session.ensures.unread none) sink

pub returns-in-Ok-Some-Cell-clause-cut_off : goal.returns-in-Ok-Some-Cell-clause-cut_off
returns-in-Ok-Some-Cell-clause-cut_off g c none sink =
    let said : Said = c.reply_to_command-reply.result in
    let is = rw (c.in-Ok-Some-Cell.field-0-is, c.in-Ok-Some-Cell.field-0-0-is) at c.in-Ok-Some-Cell.ensures.asked in
    is_cut_off c.args.words.now (g.D.Depot.files c.args.depot.now) (around_of g.D.Depot.answers g.K.Link.talk g.K.Link.left c.args.depot.now c.args.link.now) (around_of g.D.Depot.answers g.K.Link.talk g.K.Link.left c.reply_to_command-reply.new.depot c.without_cache.new.link) c.without_cache.result.status said (by_asked c.args.words.now (Some (Cell c.in-Ok-Some-Cell.command)) (g.D.Depot.files c.args.depot.now) (g.D.Depot.answers c.args.depot.now) (g.D.Depot.answers c.reply_to_command-reply.new.depot) said.status said.text is c.reply_to_command-reply.ensures) c.without_cache.ensures.last c.without_cache.ensures.unread sink

pub returns-in-Ok-None-clause-cut_off : goal.returns-in-Ok-None-clause-cut_off
returns-in-Ok-None-clause-cut_off g c none sink =
    let said : Said = c.fixed.result in
    let is = rw c.in-Ok-None.field-0-is at c.in-Ok-None.ensures.asked in
    let tells = by_asked c.args.words.now None (g.D.Depot.files c.args.depot.now) (g.D.Depot.answers c.args.depot.now) (g.D.Depot.answers c.args.depot.now) said.status said.text is (refl, ap (λ (s : Said). s.status) c.fixed.ensures, ap (λ (s : Said). s.text) c.fixed.ensures) in
    is_cut_off c.args.words.now (g.D.Depot.files c.args.depot.now) (around_of g.D.Depot.answers g.K.Link.talk g.K.Link.left c.args.depot.now c.args.link.now) (around_of g.D.Depot.answers g.K.Link.talk g.K.Link.left c.args.depot.now c.without_cache-in-Ok-None-2.new.link) c.without_cache-in-Ok-None-2.result.status said tells c.without_cache-in-Ok-None-2.ensures.last c.without_cache-in-Ok-None-2.ensures.unread sink

pub returns-in-Err-clause-cut_off : goal.returns-in-Err-clause-cut_off
returns-in-Err-clause-cut_off g c none sink =
    let said : Said = c.no_memory.result in
    let tells = subst (λ (s : Said). Tells c.args.words.now (g.D.Depot.files c.args.depot.now) (g.D.Depot.answers c.args.depot.now) (g.D.Depot.answers c.args.depot.now) s.status s.text) (sym c.no_memory.ensures) (by_memory c.args.words.now (g.D.Depot.files c.args.depot.now) (g.D.Depot.answers c.args.depot.now) c.in-Err.ensures.err) in
    is_cut_off c.args.words.now (g.D.Depot.files c.args.depot.now) (around_of g.D.Depot.answers g.K.Link.talk g.K.Link.left c.args.depot.now c.args.link.now) (around_of g.D.Depot.answers g.K.Link.talk g.K.Link.left c.args.depot.now c.without_cache-in-Err-2.new.link) c.without_cache-in-Err-2.result.status said tells c.without_cache-in-Err-2.ensures.last c.without_cache-in-Err-2.ensures.unread sink

pub returns-in-Err-clause-told : goal.returns-in-Err-clause-told
returns-in-Err-clause-told g c none whole =
    let said : Said = c.no_memory.result in
    let tells = subst (λ (s : Said). Tells c.args.words.now (g.D.Depot.files c.args.depot.now) (g.D.Depot.answers c.args.depot.now) (g.D.Depot.answers c.args.depot.now) s.status s.text) (sym c.no_memory.ensures) (by_memory c.args.words.now (g.D.Depot.files c.args.depot.now) (g.D.Depot.answers c.args.depot.now) c.in-Err.ensures.err) in
    is_told c.args.words.now (g.D.Depot.files c.args.depot.now) (around_of g.D.Depot.answers g.K.Link.talk g.K.Link.left c.args.depot.now c.args.link.now) (around_of g.D.Depot.answers g.K.Link.talk g.K.Link.left c.args.depot.now c.without_cache-in-Err-2.new.link) c.without_cache-in-Err-2.result.status said tells c.without_cache-in-Err-2.ensures.last c.without_cache-in-Err-2.ensures.unread whole

pub returns-in-Ok-Some-Run-clause-session : goal.returns-in-Ok-Some-Run-clause-session
returns-in-Ok-Some-Run-clause-session g c =
    let is = rw (c.in-Ok-Some-Run.field-0-is, c.in-Ok-Some-Run.field-0-0-is) at c.in-Ok-Some-Run.ensures.asked in
    where_history c.run_session.result.history _ _
    (λ history told. (
      record {
        command = run_read c.in-Ok-Some-Run.options;
        asked = is;
        cache = told.0;
        answers = told.1;
        opened = told.3;
        begins = told.4;
        read = told.2;
        ends = told.5;
        cost = rows_checked told.3.opening.catalog told.3.opening.batches + told.2;
        cost_is = refl;
      },
      told.6,
    ))
    c.run_session.ensures.session
