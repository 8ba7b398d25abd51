-- A conversation: what passes between a session and the other side of its link, in its order.
use Rattle.std.specs.Prelude.{ℕ, ◌≡◌, ◌++◌, ◌<◌, ◌≤◌, List, [], ◌∷◌, true, false, Ok, Err, Option, length}
use Rattle.query_meaning.specs.Replies.{too_long_reply}
use Rattle.outside.specs.Event.{Event, took}
use Rattle.outside.specs.Fetched.{Fetched}
use Rattle.outside.specs.Talks.{cut}
use Rattle.outside.specs.Told.{Files, AreTheirs}
use Rattle.outside.specs.declared.source.Failed.{Failed}
use Rattle.input_lines.specs.Reader.{Reading, Tells}
use Rattle.input_lines.specs.declared.next.Next.TheVariants as next
use Rattle.line_session.specs.Desks.{DeskOf}
use Rattle.line_session.specs.Replies.{Handled, Handles}
use Rattle.line_session.specs.Tools.{ToolsOf}
use Rattle.line_session.specs.Sessions.{ends_session}
use Rattle.line_session.specs.declared.end.SessionEnd.{SessionEnd}
use Rattle.line_session.specs.declared.end.SessionEnd.TheVariants.{Quit, EndOfInput, LongLine, Budget, ReceiveFault, SendFault}

-- what passes where a reply is sent whole; an empty one is not sent
abbrev pub sent : List ℕ → List Event
sent [] = []
sent (byte ∷ bytes) = took (byte ∷ bytes) ∷ []

-- what passes where a reply that is not empty could not be sent whole
pub record IsCutOff (reply : List ℕ) (events : List Event) : Type 0 where
  pub taken : ℕ
  pub within : taken ≤ length reply
  pub some : 0 < length reply
  pub events_are : events ≡ cut taken reply

-- what the reader of a session holds at its begin, where this many bytes may be lines
abbrev pub fresh : ℕ → Reading
fresh most = record { line = []; held = []; room = most; beyond = []; ended = false }

-- Converses tools reading before events asked handled after end: just this passes of a session from here on, where its reader
-- holds this; for it the depot is asked this; these lines are handled; so what is seen goes on, and so the session ends.
-- Whatever it waits for, each whole line that came before has been handled, and its reply was sent whole
pub data Converses (tools : ToolsOf) : Reading → DeskOf → List Event → List Fetched → List Handled
    → DeskOf → SessionEnd → Type 0 where
  -- a line comes, is handled, and its reply is sent whole; then the session goes on
  turn : {reading then : Reading} {before middle after : DeskOf} {end : SessionEnd}
      (heard more : List Event) (asked later : List Fetched) (position : Option ℕ) (reply : List ℕ)
      (read : ℕ) (lines : List Handled)
      → Tells reading heard then (Ok next.Line)
      → Handles tools (record { before = before; after = middle; asked = asked })
      (record { line = then.line; position = position; reply = reply; read = read })
      → ends_session then.line ≡ false → Converses tools then middle more later lines after end
      → Converses tools reading before ((heard ++ sent reply) ++ more) (asked ++ later)
      (record { line = then.line; position = position; reply = reply; read = read } ∷ lines)
      after end
  -- a line that ends it comes, and its reply is sent whole
  quits : {reading then : Reading} {before after : DeskOf} (heard : List Event)
      (asked : List Fetched) (position : Option ℕ) (reply : List ℕ) (read : ℕ)
      → Tells reading heard then (Ok next.Line)
      → Handles tools (record { before = before; after = after; asked = asked })
      (record { line = then.line; position = position; reply = reply; read = read })
      → ends_session then.line ≡ true
      → Converses tools reading before (heard ++ sent reply) asked
      (record { line = then.line; position = position; reply = reply; read = read } ∷ [])
      after Quit
  -- a line comes, and its reply can not be sent whole
  cut_off : {reading then : Reading} {before after : DeskOf} (heard last : List Event)
      (asked : List Fetched) (position : Option ℕ) (reply : List ℕ) (read : ℕ)
      → Tells reading heard then (Ok next.Line)
      → Handles tools (record { before = before; after = after; asked = asked })
      (record { line = then.line; position = position; reply = reply; read = read })
      → IsCutOff reply last
      → Converses tools reading before (heard ++ last) asked
      (record { line = then.line; position = position; reply = reply; read = read } ∷ [])
      after SendFault
  -- too long a line comes, and is told so
  too_long : {reading then : Reading} {desk : DeskOf} (heard : List Event)
      → Tells reading heard then (Ok next.TooLong)
      → Converses tools reading desk (heard ++ took too_long_reply ∷ []) [] [] desk LongLine
  -- or can not be told so
  too_long_cut_off : {reading then : Reading} {desk : DeskOf} (heard last : List Event)
      → Tells reading heard then (Ok next.TooLong) → IsCutOff too_long_reply last
      → Converses tools reading desk (heard ++ last) [] [] desk SendFault
  -- the end comes
  ends : {reading then : Reading} {desk : DeskOf} (heard : List Event)
      → Tells reading heard then (Ok next.End) → Converses tools reading desk heard [] [] desk EndOfInput
  -- no LF comes among the bytes that may be taken, and one byte more does
  spends : {reading then : Reading} {desk : DeskOf} (heard : List Event)
      → Tells reading heard then (Ok next.Spent) → Converses tools reading desk heard [] [] desk Budget
  -- a receive fails
  fails : {reading then : Reading} {desk : DeskOf} (heard : List Event) (e : Failed)
      → Tells reading heard then (Err e) → Converses tools reading desk heard [] [] desk ReceiveFault

-- between two states of a link and of a depot just a conversation has passed, in which these lines were handled. Where the
-- depot tells its files, what it answered is theirs
pub record HasConversed (tools : ToolsOf) (talk_before talk_after : List Event)
    (answers_before answers_after : List Fetched) (files : Option Files) (reading : Reading) (before after : DeskOf)
    (end : SessionEnd) (handled : List Handled) : Type 0 where
  pub events : List Event
  pub passed : talk_after ≡ talk_before ++ events
  pub asked : List Fetched
  pub answered : answers_after ≡ answers_before ++ asked
  pub theirs : AreTheirs files asked
  pub converses : Converses tools reading before events asked handled after end
