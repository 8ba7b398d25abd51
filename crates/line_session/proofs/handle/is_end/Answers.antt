-- Only a line that asks for the end ends the session.
use Rattle.std.proofs.Common.{sym}
use Rattle.input_lines.specs.Asked.{asked}
use Rattle.line_session.proofs.LineEnds.{asks_for_end, goes_on}
use Rattle.line_session.proofs.handle.is_end.Goals as goal

pub returns-in_default : goal.returns-in_default
returns-in_default c = λ line is. sym (goes_on line (asked c.args.request.now) is (λ end. c.in_default.not-Quit (asks_for_end c.args.request.now end)))
