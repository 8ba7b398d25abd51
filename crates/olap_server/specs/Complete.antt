-- Runs in which nothing fails: each line has its reply, and each query its grid.
use Rattle.std.specs.Prelude.{ℕ, suc, ◌≡◌, ◌≢◌, ◌+◌, ◌++◌, List, [], ◌∷◌, true, Option, Some, None, Ok, Err, IfSome, IsSomeAnd, bytes_eq, codes, map, if◌then◌else◌}
use Rattle.std.specs.Str.{is_utf8}
use Rattle.olap_meaning.specs.Limits.{row_limit}
use Rattle.query_meaning.specs.declared.axes.Axes.{Axes}
use Rattle.query_meaning.specs.declared.query.Query.{Query}
use Rattle.query_meaning.specs.AxisCells.{cells_of}
use Rattle.query_meaning.specs.Replies.{no_memory_reply}
use Rattle.query_meaning.specs.Requests.{argument_of}
use Rattle.query_meaning.specs.Resolution.{axes_meant}
use Rattle.query_meaning.specs.WholeQueries.{WritesQuery}
use Rattle.outside.specs.Event.{Event, took}
use Rattle.outside.specs.Fetched.{Fetched}
use Rattle.outside.specs.Talks.{failures}
use Rattle.outside.specs.Told.{AreTheirs, Files}
use Rattle.outside.specs.declared.depot.DepotRefusal.TheVariants as depot
use Rattle.command_words.specs.Commands.{RunCommand, Run}
use Rattle.history_core.specs.Cache.{CacheOf}
use Rattle.history_core.specs.History.{HistoryOf, setting_of}
use Rattle.history_core.specs.declared.answers.Answer.{Answer}
use Rattle.cache_opening.specs.Opening.{Opening, opened_entries, opening_from, opening_of, rows_checked}
use Rattle.cache_opening.specs.Asking.{Leads}
use Rattle.line_session.specs.Conversations.{HasConversed, fresh}
use Rattle.line_session.specs.Desks.{DeskOf, HasAsked}
use Rattle.line_session.specs.Replies.{Dealing, Handled, Handles, IsGridOf, catalog_of}
use Rattle.line_session.specs.Tools.{ToolsOf}
use Rattle.line_session.specs.Sessions.{AreHandled, all_read, byte_limit}
use Rattle.line_session.specs.declared.end.SessionEnd.{SessionEnd}
use Rattle.line_session.specs.declared.end.SessionEnd.TheVariants as end
use Rattle.olap_server.specs.Asked.{IsAsked}
use Rattle.olap_server.specs.Run.{Around, BeginsWith, IsCutOff, IsLast, IsTold, RunsSession, cache_of, desk_over}
use Rattle.olap_server.specs.declared.status.Status.{Status}
use Rattle.olap_server.specs.declared.status.Status.TheVariants.{Done, Sink, Memory, Budget}
use Rattle.olap_server.specs.declared.words.Words.{Words}

-- how often a depot could not read a file
abbrev pub unread_files : List Fetched → ℕ
unread_files [] = 0
unread_files ((name, Ok bytes) ∷ answers) = unread_files answers
unread_files ((name, Err depot.Missing) ∷ answers) = unread_files answers
unread_files ((name, Err depot.Failed) ∷ answers) = suc (unread_files answers)
unread_files ((name, Err depot.OutOfMemory) ∷ answers) = unread_files answers

-- how often a reply was sent that there was no memory
abbrev pub memory_replies : List Event → ℕ
memory_replies [] = 0
memory_replies (took bytes ∷ events) =
    if bytes_eq bytes no_memory_reply then suc (memory_replies events) else memory_replies events
memory_replies (event ∷ events) = memory_replies events

-- what a depot was asked for in between was answered as these files say
pub record AnswersAs (all : Files) (before after : List Fetched) : Type 0 where
  pub answers : List Fetched
  pub added : after ≡ before ++ answers
  pub theirs : AreTheirs (Some all) answers

-- what the clauses of `run` say together: a session was served, or the status has its cause
abbrev pub Runs : ToolsOf → Words → Option Files → Around → Around → ℕ → ℕ → Option HistoryOf
    → Status → Type 0
Runs tools words files start finish steps_before steps_after (Some history) status =
    (session : RunsSession tools words files start finish history status)
    × (steps_after ≡ steps_before + session.cost)
Runs tools words files start finish steps_before steps_after None status =
    (status ≢ Sink → IsTold words files start finish status)
    × (status ≡ Sink → IsCutOff words files start finish)

-- where a line is a query that means axes, its reply is the whole grid of an answer to their cells
abbrev pub HasItsGrid : ToolsOf → Dealing → Handled → Type 0
HasItsGrid tools dealing handled =
    (argument : List ℕ) (query : Query) (axes : Axes)
    → is_utf8 handled.line ≡ true → argument_of (codes "MDX") handled.line ≡ Some argument
    → WritesQuery argument query → axes_meant (catalog_of dealing.before) query ≡ Ok axes
    → (answer : Answer)
    × HasAsked tools.allowed dealing.before dealing.after
    (cells_of (catalog_of dealing.before) axes) answer
    × IsGridOf tools (catalog_of dealing.before) axes answer handled.reply

-- HaveGrids tools before asked handled after: these lines were handled, one after another, and each query among them that means
-- axes has its grid
abbrev pub HaveGrids : ToolsOf → DeskOf → List Fetched → List Handled → DeskOf → Type 0
HaveGrids tools before asked [] after = (after ≡ before) × (asked ≡ [])
HaveGrids tools before asked (handled ∷ more) after =
    (middle : DeskOf) × (first : List Fetched) × (rest : List Fetched) × (asked ≡ first ++ rest)
    × Handles tools (record { before = before; after = middle; asked = first }) handled
    × HasItsGrid tools (record { before = before; after = middle; asked = first }) handled
    × HaveGrids tools middle rest more after

-- the status of a run whose session was ended by what was received: by a line, by the end, by too long a line, or by more
-- bytes than it takes
abbrev pub status_by_itself : SessionEnd → Option Status
status_by_itself end.Quit = Some Done
status_by_itself end.EndOfInput = Some Done
status_by_itself end.LongLine = Some Done
status_by_itself end.Budget = Some Budget
status_by_itself end.ReceiveFault = None
status_by_itself end.SendFault = None
status_by_itself end.Memory = None

-- a run is complete: a cache was opened, which is that of this opening with the command's budget, and with whose entries the
-- history begins; what the depot was asked for led to the opening, and then is what the lines asked for. A conversation over it has passed to its end, which what was received has brought about. Where the link tells
-- what is left, each line of it up to that end was handled; each query that means axes has its grid; and after the conversation
-- at most the line of the status was sent. The steps are the rows that the aggregate tables are checked over, and what was read
-- for the lines
pub record IsComplete (tools : ToolsOf) (command : RunCommand) (files : Option Files) (opening : Opening)
    (start finish : Around) (steps_before steps_after : ℕ) (history : HistoryOf) (status : Status)
    : Type 0 where
  pub cache : CacheOf
  pub setting : cache.setting ≡ setting_of opening.catalog row_limit command.budget
  pub entries : cache.entries ≡ opened_entries opening.batches opening.tables
  pub begins : BeginsWith cache history
  pub answers : List Fetched
  pub read : Leads files start.answers answers (opening_from command.file) (Ok opening)
  pub end : SessionEnd
  pub by_itself : status_by_itself end ≡ Some status
  pub talk : List Event
  pub asked : List Fetched
  pub answered : finish.answers ≡ answers ++ asked
  pub handled : List Handled
  pub conversed : HasConversed tools start.talk talk answers finish.answers files
      (fresh byte_limit) (desk_over cache) (desk_over (cache_of history)) end handled
  pub lines : IfSome start.left (AreHandled byte_limit end (map (λ one. one.line) handled))
  pub grids : HaveGrids tools (desk_over cache) asked handled (desk_over (cache_of history))
  pub last : IsLast end talk finish.talk status
  pub steps : steps_after
      ≡ steps_before + rows_checked opening.catalog opening.batches + all_read handled

-- where words ask for a session over the cache of a file, the depot answers as files say, of which that one opens without a
-- fault, neither depot nor link has failed, and no want of memory is told, by the status or to a line: then the run is complete
abbrev pub RunsAreComplete : ToolsOf → Type 0
RunsAreComplete tools =
    (words : Words) (files : Option Files) (all : Files) (command : RunCommand) (opening : Opening)
    (start finish : Around) (steps_before steps_after : ℕ) (history : Option HistoryOf) (status : Status)
    → Runs tools words files start finish steps_before steps_after history status
    → IsAsked words (Some (Run command)) → AnswersAs all start.answers finish.answers
    → opening_of all command.file ≡ Ok opening
    → unread_files finish.answers ≡ unread_files start.answers
    → failures finish.talk ≡ failures start.talk
    → status ≢ Memory → memory_replies finish.talk ≡ memory_replies start.talk
    → IsSomeAnd history
    (λ history. IsComplete tools command files opening start finish steps_before steps_after
    history status)
