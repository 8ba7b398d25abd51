-- What one turn of a session does: one thing comes of the input, and is answered.
use Rattle.std.specs.Prelude.{ℕ, ◌≡◌, ◌++◌, List, [], ◌∷◌, true, false, Ok, Err, Option, Some, None, IfOk, Result}
use Rattle.query_meaning.specs.Replies.{too_long_reply}
use Rattle.outside.specs.Event.{Event, took}
use Rattle.outside.specs.Fetched.{Fetched}
use Rattle.outside.specs.Told.{Files, AreTheirs}
use Rattle.outside.specs.declared.source.Failed.{Failed}
use Rattle.input_lines.specs.Reader.{IsAtEnd, Reading, Tells, TellsFront, allowed, not_given}
use Rattle.input_lines.specs.declared.next.Next.{Next}
use Rattle.input_lines.specs.declared.next.Next.TheVariants as next
use Rattle.line_session.specs.Replies.{Dealing, Handles}
use Rattle.line_session.specs.Tools.{ToolsOf}
use Rattle.line_session.specs.Sessions.{ends_session}
use Rattle.line_session.specs.Conversations.{IsCutOff, sent}
use Rattle.line_session.specs.declared.end.SessionEnd.{SessionEnd}
use Rattle.line_session.specs.declared.end.SessionEnd.TheVariants.{Quit, EndOfInput, LongLine, Budget, ReceiveFault, SendFault}

-- between two states of a link and of a depot this has passed; where the depot tells its files, what it answered is
-- theirs
pub record HasPassed (talk_before talk_after : List Event)
    (answers_before answers_after : List Fetched) (files : Option Files) (events : List Event) (asked : List Fetched) : Type 0 where
  pub passed : talk_after ≡ talk_before ++ events
  pub answered : answers_after ≡ answers_before ++ asked
  pub theirs : AreTheirs files asked

-- the reply to a line was sent whole, and the session goes on, or ends there; or it could not be sent whole
abbrev pub EndsReply : List ℕ → List ℕ → List Event → Option SessionEnd → Type 0
EndsReply line reply events None = (ends_session line ≡ false) × (events ≡ sent reply)
EndsReply line reply events (Some Quit) = (ends_session line ≡ true) × (events ≡ sent reply)
EndsReply line reply events (Some SendFault) = IsCutOff reply events
EndsReply line reply events (Some end) = ⊥

-- a line was handled, for which this many rows and groups were read, and this has passed of its reply; the session goes on, or
-- ends there
pub record Replies (tools : ToolsOf) (dealing : Dealing) (line : List ℕ) (read : ℕ)
    (events : List Event) (end : Option SessionEnd) : Type 0 where
  pub position : Option ℕ
  pub reply : List ℕ
  pub handles : Handles tools dealing
      (record { line = line; position = position; reply = reply; read = read })
  pub ends : EndsReply line reply events end

-- nothing was asked of the desk or of the depot, and nothing was read
abbrev pub IsStill : Dealing → ℕ → Type 0
IsStill dealing read = (dealing.after ≡ dealing.before) × (dealing.asked ≡ []) × (read ≡ 0)

-- what comes next of an input was answered, for which this many rows and groups were read, and this has passed of the answer; the
-- session goes on, or ends there
abbrev pub Answers : ToolsOf → Result Next Failed → Dealing → List ℕ → ℕ → List Event
    → Option SessionEnd → Type 0
Answers tools (Ok next.Line) dealing line read events end = Replies tools dealing line read events end
Answers tools (Ok next.TooLong) dealing line read events (Some LongLine) =
    IsStill dealing read × (events ≡ took too_long_reply ∷ [])
Answers tools (Ok next.TooLong) dealing line read events (Some SendFault) =
    IsStill dealing read × IsCutOff too_long_reply events
Answers tools (Ok next.End) dealing line read events (Some EndOfInput) =
    IsStill dealing read × (events ≡ [])
Answers tools (Ok next.Spent) dealing line read events (Some Budget) =
    IsStill dealing read × (events ≡ [])
Answers tools (Err e) dealing line read events (Some ReceiveFault) =
    IsStill dealing read × (events ≡ [])
Answers tools told dealing line read events end = ⊥

-- a turn: what comes next is heard and answered, for which this many rows and groups are read. Where the link tells what is left,
-- it is what that begins with
pub record Turn (tools : ToolsOf) (reading then : Reading) (dealing : Dealing) (read : ℕ)
    (events : List Event) (left_before left_after : Option (List ℕ))
    (end : Option SessionEnd) : Type 0 where
  pub told : Result Next Failed
  pub heard : List Event
  pub last : List Event
  pub tells : Tells reading heard then told
  pub first : IfOk told (λ next. IsAtEnd reading.ended left_before
      → TellsFront (not_given reading left_before) (allowed reading) next then.line
      (not_given then left_after) (allowed then))
  pub events_are : events ≡ heard ++ last
  pub answers : Answers tools told dealing then.line read last end
