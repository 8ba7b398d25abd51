-- A line that was handled was replied to, or its reply could not be sent whole.
use Rattle.std.proofs.Common.{List, ℕ, ◌∙◌, ap, subst, sym}
use Rattle.line_session.specs.Conversations.{IsCutOff, sent}
use Rattle.line_session.proofs.session.answer_line.Goals as goal

pub returns-in-Err-clause-answered : goal.returns-in-Err-clause-answered
returns-in-Err-clause-answered g c =
    let handled = c.reply_to_line-reply.ensures.handled in
    let cut = c.in-Err.ensures.cut in (
      cut.0,
      handled.1,
      handled.2,
      handled.3,
      record { passed = cut.1; answered = handled.4; theirs = handled.5 },
      record { position = handled.0; reply = c.reply_to_line-reply.result.0; handles = handled.6; ends = subst (λ (text : List ℕ). IsCutOff text cut.0) c.as_str.ensures cut.2 },
    )

pub returns-clause-answered : goal.returns-clause-answered
returns-clause-answered g c =
    let handled = c.reply_to_line-reply.ensures.handled in (
      sent c.as_str.result.now,
      handled.1,
      handled.2,
      handled.3,
      record { passed = c.in-Ok.ensures.passed; answered = handled.4; theirs = handled.5 },
      record {
        position = handled.0;
        reply = c.reply_to_line-reply.result.0;
        handles = handled.6;
        ends = (sym c.reply_to_line-reply.ensures.ends ∙ c.if-ends.false, ap sent c.as_str.ensures);
      },
    )
