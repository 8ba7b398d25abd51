-- That `run_session` serves a session over what was opened, or tells a fault of the opening.
use Rattle.std.proofs.Common.{Option, arith, subst}
use Rattle.outside.specs.Told.{Files}
use Rattle.shown_values.specs.contracts.formatter.FormatterGivesTexts.TheImpl as formats
use Rattle.segment_header.specs.contracts.widener.WidenerAllowsValues.TheImpl as widens
use Rattle.line_session.specs.Tools.{tools_of}
use Rattle.olap_server.specs.Run.{EndsRun, around_of, with_answers}
use Rattle.olap_server.proofs.RunFacts.{of_history, opening_tells}
use Rattle.olap_server.proofs.top_call.run_session.Goals as goal

pub returns-in-Err-clause-told : goal.returns-in-Err-clause-told
returns-in-Err-clause-told g c =
    let told = opening_tells c.args.options.now.schema.now (g.D.Depot.files c.args.depot.now) (g.D.Depot.answers c.args.depot.now) (g.D.Depot.answers c.open_cache.new.depot) c.in-Err.fault c.reply_to_opening-reply.result c.in-Err.ensures.fault c.reply_to_opening-reply.ensures in
    λ none. (c.reply_to_opening-reply.result, told, c.without_cache.ensures.last)

pub returns-in-Ok-clause-session : goal.returns-in-Ok-clause-session
returns-in-Ok-clause-session g c =
    let tools = tools_of ((formats.answers-value g.dyn-1).it c.args.tools.now.formatter) ((widens.answers-value g.dyn-2).it c.args.tools.now.widener) in
    let start = around_of g.D.Depot.answers g.K.Link.talk g.K.Link.left c.args.depot.now c.args.link.now in
    let answers = g.D.Depot.answers c.open_cache.new.depot in
    let finish = around_of g.D.Depot.answers g.K.Link.talk g.K.Link.left c.serve_opened.new.depot c.serve_opened.new.link in
    of_history c.serve_opened.result.history _ _ _
    (λ history ends begins. (
      c.in-Ok.manager,
      answers,
      ends.0,
      c.in-Ok.ensures.opened.0,
      begins,
      subst (λ (files : Option Files). EndsRun tools files c.in-Ok.manager history (with_answers start answers) finish c.serve_opened.result.status ends.0) c.in-Ok.ensures.same_files ends.2,
      let counted = ends.1 in let checked = c.in-Ok.ensures.opened.1 in omega (arith, counted, checked),
    ))
    c.serve_opened.ensures.served c.serve_opened.ensures.begins
