-- That `take_turn` ensures `turn`.
use Rattle.std.proofs.Common.{refl}
use Rattle.std.specs.Prelude.{Ok, Err}
use Rattle.input_lines.specs.declared.next.Next.TheVariants as next
use Rattle.line_session.specs.declared.end.SessionEnd.TheVariants.{Budget, EndOfInput, ReceiveFault}
use Rattle.line_session.proofs.Taking.{line_turn, long_turn, still_turn}
use Rattle.line_session.proofs.session.take_turn.Goals as goal

pub returns-in-Ok-Line-clause-turn : goal.returns-in-Ok-Line-clause-turn
returns-in-Ok-Line-clause-turn g c =
    line_turn _ c.args.reader.now c.next.new.self _ _ _ _ _ _ _ _ _ (g.K.Link.left c.next.new.link) _ c.line.result.now c.answer_line.result _ _ c.line.ensures.value c.answer_line.ensures.unread (rw c.in-Ok-Line.field-0-is at c.in-Ok-Line.ensures.tells) (rw c.in-Ok-Line.field-0-is at c.in-Ok-Line.ensures.told) c.answer_line.ensures.answered

pub returns-in-Ok-TooLong-clause-turn : goal.returns-in-Ok-TooLong-clause-turn
returns-in-Ok-TooLong-clause-turn g c =
    long_turn _ c.args.reader.now c.next.new.self _ _ _ _ _ _ _ (g.K.Link.left c.next.new.link) _ c.refuse_long_line.result _ c.refuse_long_line.ensures.unread (rw c.in-Ok-TooLong.field-0-is at c.in-Ok-TooLong.ensures.tells) (rw c.in-Ok-TooLong.field-0-is at c.in-Ok-TooLong.ensures.told) c.refuse_long_line.ensures.end c.refuse_long_line.ensures.passed c.refuse_long_line.ensures.cut

pub returns-in-Ok-End-clause-turn : goal.returns-in-Ok-End-clause-turn
returns-in-Ok-End-clause-turn g c =
    still_turn _ c.args.reader.now c.next.new.self _ _ _ _ _ _ _ (Ok next.End) EndOfInput _ (rw c.in-Ok-End.field-0-is at c.in-Ok-End.ensures.tells) (rw c.in-Ok-End.field-0-is at c.in-Ok-End.ensures.told) ((refl, refl, refl), refl)

pub returns-in-Ok-Spent-clause-turn : goal.returns-in-Ok-Spent-clause-turn
returns-in-Ok-Spent-clause-turn g c =
    still_turn _ c.args.reader.now c.next.new.self _ _ _ _ _ _ _ (Ok next.Spent) Budget _ (rw c.in-Ok-Spent.field-0-is at c.in-Ok-Spent.ensures.tells) (rw c.in-Ok-Spent.field-0-is at c.in-Ok-Spent.ensures.told) ((refl, refl, refl), refl)

pub returns-in-Err-clause-turn : goal.returns-in-Err-clause-turn
returns-in-Err-clause-turn g c =
    still_turn _ c.args.reader.now c.next.new.self _ _ _ _ _ _ _ (Err c.in-Err.field-0) ReceiveFault _ c.in-Err.ensures.tells tt ((refl, refl, refl), refl)
