-- The line that is handled in a turn, if one is.
use Rattle.std.proofs.Common.{◌≡◌, refl, ℕ, List, [], ◌∷◌, Some, None, arith}
use Rattle.std.specs.Prelude.{Result, Ok, Err}
use Rattle.std.proofs.lemmas.List.Sums.{sum_by-cons}
use Rattle.outside.specs.Event.{Event}
use Rattle.outside.specs.declared.source.Failed.{Failed}
use Rattle.input_lines.specs.declared.next.Next.{Next}
use Rattle.input_lines.specs.declared.next.Next.TheVariants as next
use Rattle.line_session.specs.Replies.{Dealing, Handled}
use Rattle.line_session.specs.Sessions.{all_read}
use Rattle.line_session.specs.Tools.{ToolsOf}
use Rattle.line_session.specs.Turns.{Answers}
use Rattle.line_session.specs.declared.end.SessionEnd.{SessionEnd}
use Rattle.line_session.specs.declared.end.SessionEnd.TheVariants.{EndOfInput, LongLine, Budget, ReceiveFault, SendFault}

-- what was read for one line
only_one : (one : Handled) → one.read ≡ all_read (one ∷ [])
only_one one = let sum = sum_by-cons (λ (it : Handled). it.read) one [] in omega (arith, sum)

module _ (tools : ToolsOf) (around : Dealing) (line : List ℕ) (read : ℕ) (last : List Event) where
  -- the lines that are handled in a turn that ends a session: one, or none
  abbrev pub handled_by : (told : Result Next Failed) (end : SessionEnd) → Answers tools told around line read last (Some end) → List Handled
  handled_by (Ok next.Line) end answers = record { line = line; position = answers.position; reply = answers.reply; read = read } ∷ []
  handled_by (Ok next.TooLong) end answers = []
  handled_by (Ok next.End) end answers = []
  handled_by (Ok next.Spent) end answers = []
  handled_by (Err e) end answers = []

  -- what is read in it
  pub read_by : (told : Result Next Failed) (end : SessionEnd) (answers : Answers tools told around line read last (Some end)) → read ≡ all_read (handled_by told end answers)
  read_by (Ok next.Line) end answers = only_one (record { line = line; position = answers.position; reply = answers.reply; read = read })
  read_by (Ok next.TooLong) LongLine answers = answers.0.2
  read_by (Ok next.TooLong) SendFault answers = answers.0.2
  read_by (Ok next.End) EndOfInput answers = answers.0.2
  read_by (Ok next.Spent) Budget answers = answers.0.2
  read_by (Err e) ReceiveFault answers = answers.0.2
  read_by _ _ answers = absurd answers

  -- the line that is handled in a turn after which the session goes on
  abbrev pub handled_on : (told : Result Next Failed) → Answers tools told around line read last None → Handled
  handled_on (Ok next.Line) answers = record { line = line; position = answers.position; reply = answers.reply; read = read }
  handled_on _ answers = absurd answers

  pub read_on : (told : Result Next Failed) (answers : Answers tools told around line read last None) → (handled_on told answers).read ≡ read
  read_on (Ok next.Line) answers = refl
  read_on _ answers = absurd answers
