-- A query, a flush and an AGG are replied to as their meanings say, and a look by what is kept; and only for a query and an AGG
-- anything is read.
use Rattle.std.proofs.Common.{refl, sym, append-nil, arith, [], subst, None}
use Rattle.olap_meaning.specs.Catalog.{find_agg, find_cube}
use Rattle.olap_meaning.specs.declared.tables.Catalog.{Catalog}
use Rattle.query_meaning.specs.RegionMeaning.{flush_meant}
use Rattle.query_meaning.specs.RegionReplies.{cube_named}
use Rattle.query_meaning.specs.Resolution.{axes_meant}
use Rattle.shown_values.specs.contracts.formatter.FormatterGivesTexts.TheImpl as formats
use Rattle.segment_header.specs.contracts.widener.WidenerAllowsValues.TheImpl as widens
use Rattle.line_session.specs.Tools.{tools_of}
use Rattle.line_session.specs.Replies.{AnswersAgg, AnswersAppend, AnswersFlush, AnswersMeaning}
use Rattle.line_session.proofs.Replying.{between, none_theirs, stands_still}
use Rattle.line_session.proofs.handle.reply_to_request.Goals as goal

pub returns-in-NotText-clause-answered : goal.returns-in-NotText-clause-answered
returns-in-NotText-clause-answered g c =
    (None, [], 0, omega arith, sym (append-nil (g.D.Depot.answers c.args.depot.now)), none_theirs (g.D.Depot.files c.args.depot.now), rw c.in-NotText.is ((stands_still (g.P.Desk.seen c.args.desk.now), c.fixed.ensures), refl))

pub returns-in-Blank-clause-answered : goal.returns-in-Blank-clause-answered
returns-in-Blank-clause-answered g c =
    (None, [], 0, omega arith, sym (append-nil (g.D.Depot.answers c.args.depot.now)), none_theirs (g.D.Depot.files c.args.depot.now), rw c.in-Blank.is ((stands_still (g.P.Desk.seen c.args.desk.now), c.fixed-in-Blank.ensures), refl))

pub returns-in-NoCommand-clause-answered : goal.returns-in-NoCommand-clause-answered
returns-in-NoCommand-clause-answered g c =
    (None, [], 0, omega arith, sym (append-nil (g.D.Depot.answers c.args.depot.now)), none_theirs (g.D.Depot.files c.args.depot.now), rw c.in-NoCommand.is ((stands_still (g.P.Desk.seen c.args.desk.now), c.fixed-in-NoCommand.ensures), refl))

pub returns-in-Stops-clause-answered : goal.returns-in-Stops-clause-answered
returns-in-Stops-clause-answered g c =
    (None, [], 0, omega arith, sym (append-nil (g.D.Depot.answers c.args.depot.now)), none_theirs (g.D.Depot.files c.args.depot.now), rw c.in-Stops.is ((stands_still (g.P.Desk.seen c.args.desk.now), c.numbers.ensures), refl))

pub returns-in-Quit-clause-answered : goal.returns-in-Quit-clause-answered
returns-in-Quit-clause-answered g c =
    (None, [], 0, omega arith, sym (append-nil (g.D.Depot.answers c.args.depot.now)), none_theirs (g.D.Depot.files c.args.depot.now), rw c.in-Quit.is ((stands_still (g.P.Desk.seen c.args.desk.now), c.fixed-in-Quit.ensures), refl))

pub returns-in-After-clause-answered : goal.returns-in-After-clause-answered
returns-in-After-clause-answered g c =
    let answers = c.reply_to_after.ensures in
    (answers.0, [], 0, omega arith, sym (append-nil (g.D.Depot.answers c.args.depot.now)), none_theirs (g.D.Depot.files c.args.depot.now), rw c.in-After.is (answers.1, refl))

pub returns-in-Append-clause-answered : goal.returns-in-Append-clause-answered
returns-in-Append-clause-answered g c =
    let before = g.P.Desk.seen c.args.desk.now in
    let after = g.P.Desk.seen c.reply_to_append.new.desk in
    let answers = c.reply_to_append.ensures.reply in (
      answers.0,
      answers.1,
      0,
      omega arith,
      answers.2,
      answers.3,
      rw c.in-Append.is (subst (λ (k : Catalog). AnswersAppend (between before after answers.1) c.in-Append.argument (find_cube k c.in-Append.argument.cube) answers.0 c.reply_to_append.result) c.requires.catalog answers.4, refl),
    )

pub returns-in-Ask-clause-answered : goal.returns-in-Ask-clause-answered
returns-in-Ask-clause-answered g c =
    let before = g.P.Desk.seen c.args.desk.now in
    let after = g.P.Desk.seen c.reply_to_query.new.desk in
    let answers = c.reply_to_query.ensures.reply in (
      answers.0,
      [],
      answers.1,
      answers.2,
      sym (append-nil (g.D.Depot.answers c.args.depot.now)),
      none_theirs (g.D.Depot.files c.args.depot.now),
      rw c.in-Ask.is ((refl, subst (λ (k : Catalog). AnswersMeaning (tools_of ((formats.answers-value g.dyn-1).it c.args.tools.now.formatter) ((widens.answers-value g.dyn-2).it c.args.tools.now.widener)) (between before after []) (axes_meant k c.in-Ask.query) answers.0 c.reply_to_query.result) c.requires.catalog answers.4), answers.3),
    )

pub returns-in-Flush-clause-answered : goal.returns-in-Flush-clause-answered
returns-in-Flush-clause-answered g c =
    let before = g.P.Desk.seen c.args.desk.now in
    let after = g.P.Desk.seen c.reply_to_flush.new.desk in
    let answers = c.reply_to_flush.ensures in (
      answers.0,
      [],
      0,
      omega arith,
      sym (append-nil (g.D.Depot.answers c.args.depot.now)),
      none_theirs (g.D.Depot.files c.args.depot.now),
      rw c.in-Flush.is (subst (λ (k : Catalog). AnswersFlush (between before after []) (cube_named k c.in-Flush.text) (flush_meant k c.in-Flush.text) answers.0 c.reply_to_flush.result) c.requires.catalog answers.1, refl),
    )

pub returns-in-Agg-clause-answered : goal.returns-in-Agg-clause-answered
returns-in-Agg-clause-answered g c =
    let before = g.P.Desk.seen c.args.desk.now in
    let after = g.P.Desk.seen c.reply_to_agg.new.desk in
    let answers = rw c.as_str.ensures at c.reply_to_agg.ensures.reply in (
      answers.0,
      [],
      answers.1,
      answers.2,
      sym (append-nil (g.D.Depot.answers c.args.depot.now)),
      none_theirs (g.D.Depot.files c.args.depot.now),
      rw c.in-Agg.is (subst (λ (k : Catalog). AnswersAgg (between before after []) c.in-Agg.name (find_agg k c.in-Agg.name) answers.0 c.reply_to_agg.result) c.requires.catalog answers.3.0, answers.3.1),
    )

pub returns-in-Show-clause-answered : goal.returns-in-Show-clause-answered
returns-in-Show-clause-answered g c =
    let answers = c.reply_to_show.ensures in (
      answers.0,
      [],
      0,
      omega arith,
      sym (append-nil (g.D.Depot.answers c.args.depot.now)),
      none_theirs (g.D.Depot.files c.args.depot.now),
      rw c.in-Show.is (answers.1, refl),
    )
