-- What a run of the command line tells, and why.
use Rattle.std.specs.Prelude.{◌≡◌, ◌≢◌, ◌≤◌, ◌+◌, ◌⊎◌, ◌||◌, ◌++◌, ℕ, List, [], ◌∷◌, Option, Some, None, Result, Ok, Err, IfSome, length, map, string_bytes, true}
use Rattle.std.specs.List.{list_all}
use Rattle.csv_records.specs.Files.{file_records}
use Rattle.history_core.specs.History.{HistoryOf}
use Rattle.history_core.specs.Cache.{CacheOf}
use Rattle.history_core.specs.Seats.{is_of_seat}
use Rattle.cache_opening.specs.declared.fault.OpenFault.{OpenFault}
use Rattle.cache_opening.specs.declared.fault.OpenFault.TheVariants as fault
use Rattle.cache_opening.specs.Asking.{Leads}
use Rattle.cache_opening.specs.Opening.{AddsFewSteps, IsOpened, opening_from, rows_checked}
use Rattle.line_session.specs.declared.end.SessionEnd.{SessionEnd}
use Rattle.line_session.specs.declared.end.SessionEnd.TheVariants as end
use Rattle.line_session.specs.Desks.{DeskOf}
use Rattle.line_session.specs.Replies.{Dealing, Handled}
use Rattle.line_session.specs.Conversations.{HasConversed, fresh}
use Rattle.line_session.specs.Tools.{ToolsOf}
use Rattle.line_session.specs.Sessions.{IsServed, ReadsFew, all_read, byte_limit}
use Rattle.fault_texts.specs.FaultTexts.{fact_line}
use Rattle.command_words.specs.Commands.{CellCommand, Command, RunCommand, Cell, Run, command_of}
use Rattle.olap_meaning.specs.Budget.{is_eviction}
use Rattle.olap_meaning.specs.FileQuery.{FileFault, answer_of}
use Rattle.olap_meaning.specs.History.{Entry}
use Rattle.olap_meaning.specs.Texts.{line, plain_text}
use Rattle.olap_meaning.specs.declared.CellValue.{CellValue}
use Rattle.outside.specs.Event.{Event, took}
use Rattle.outside.specs.Fetched.{Fetched}
use Rattle.outside.specs.Talks.{cut, taken}
use Rattle.outside.specs.Told.{Files, file_named}
use Rattle.outside.specs.declared.depot.DepotRefusal.{DepotRefusal}
use Rattle.outside.specs.declared.depot.DepotRefusal.TheVariants.{Missing, Failed}
use Rattle.olap_server.specs.Asked.{IsAsked, may_be_run}
use Rattle.olap_server.specs.Faults.{refusal_text, told_fault}
use Rattle.olap_server.specs.Said.{Said, budget_line, memory_line, no_file_line, no_memory, source_line, told_opening, usage_line}
use Rattle.olap_server.specs.declared.status.Status.{Status}
use Rattle.olap_server.specs.declared.status.Status.TheVariants.{Done, Usage, Schema, Source, Sink, Memory, NoFile, Budget}
use Rattle.olap_server.specs.declared.words.Words.{Words}
use Rattle.olap_server.specs.declared.words.Words.TheVariants as words

-- the exit status
abbrev pub number_of : Status → ℕ
number_of Done = 0
number_of Usage = 2
number_of Schema = 3
number_of Source = 4
number_of Sink = 5
number_of Memory = 6
number_of NoFile = 8
number_of Budget = 9

-- what a depot was asked for, and what has passed of a link, at one time; and the bytes that are left to be received,
-- where the link tells them
pub record Around : Type 0 where
  pub answers : List Fetched
  pub talk : List Event
  pub left : Option (List ℕ)

-- the same of a depot and a link, by what these show
abbrev pub around_of : {D K : Type 0} → (D → List Fetched) → (K → List Event)
    → (K → Option (List ℕ)) → D → K → Around
around_of answers talk left depot link =
    record { answers = answers depot; talk = talk link; left = left link }

-- just this file was asked for, and this came
abbrev pub AsksFor : List ℕ → Result (List ℕ) DepotRefusal → List Fetched → List Fetched → Type 0
AsksFor file came before after = after ≡ before ++ (file, came) ∷ []

-- the line of a fault of a file
abbrev pub fault_line : List ℕ → FileFault → List ℕ
fault_line file fault = fact_line file (refusal_text (told_fault fault))

-- the answer to the query of a file is told: the plain text of the aggregate, or the file's fault
abbrev pub AnswerTells : Result CellValue FileFault → List ℕ → Status → List ℕ → Type 0
AnswerTells (Ok value) file status text = (status ≡ Done) × (text ≡ line (plain_text value))
AnswerTells (Err fault) file status text = (status ≡ Schema) × (text ≡ fault_line file fault)

-- the file of a command was asked for and came, and its answer is told; where the depot tells its files, the file is
-- the one of this name
pub record FileTells (command : CellCommand) (files : Option Files) (before after : List Fetched)
    (status : Status) (text : List ℕ) : Type 0 where
  pub bytes : List ℕ
  pub asked : AsksFor command.file (Ok bytes) before after
  pub theirs : IfSome files (λ all. file_named all command.file ≡ Some bytes)
  pub answer : AnswerTells (answer_of command.query (file_records bytes)) command.file status text

-- no file has the command's name: it was asked for, and is not there; where the depot tells its files, it is not among
-- them
pub record IsMissing (command : CellCommand) (files : Option Files) (before after : List Fetched)
    (text : List ℕ) : Type 0 where
  pub asked : AsksFor command.file (Err Missing) before after
  pub not_there : IfSome files (λ all. file_named all command.file ≡ None)
  pub line_is : text ≡ no_file_line command.file

-- the command's file could not be read
pub record IsUnread (command : CellCommand) (before after : List Fetched)
    (text : List ℕ) : Type 0 where
  pub failed : AsksFor command.file (Err Failed) before after
  pub line_is : text ≡ source_line

-- there was no memory; at most the command's file was asked for, and did not fail
pub record IsWanting (command : CellCommand) (before after : List Fetched)
    (text : List ℕ) : Type 0 where
  pub asked : (after ≡ before)
      ⊎ ((came : Result (List ℕ) DepotRefusal) × (came ≢ Err Failed)
      × AsksFor command.file came before after)
  pub line_is : text ≡ memory_line

-- the cause of each status of the command `cell`, and the text that is written with it. Want of memory alone is free.
abbrev pub CellTells : CellCommand → Option Files → List Fetched → List Fetched → Status → List ℕ
    → Type 0
CellTells command files before after Done text = FileTells command files before after Done text
CellTells command files before after Usage text = ⊥
CellTells command files before after Schema text =
    FileTells command files before after Schema text
CellTells command files before after Source text = IsUnread command before after text
CellTells command files before after Sink text = ⊥
CellTells command files before after Memory text = IsWanting command before after text
CellTells command files before after NoFile text = IsMissing command files before after text
CellTells command files before after Budget text = ⊥

-- what was asked for leads to a fault of the opening, of which this status and this text are told
abbrev pub FaultTells : List ℕ → Option Files → List Fetched → List Fetched → Status → List ℕ
    → Type 0
FaultTells file files before after status text =
    (reason : OpenFault) × (told_opening reason ≡ record { status = status; text = text })
    × Leads files before after (opening_from file) (Err reason)

-- the cause of each status where no cache was opened from the schema's file, and the text that is written with it
abbrev pub OpeningTells : List ℕ → Option Files → List Fetched → List Fetched → Status → List ℕ
    → Type 0
OpeningTells file files before after Done text = ⊥
OpeningTells file files before after Usage text = ⊥
OpeningTells file files before after Schema text =
    FaultTells file files before after Schema text
OpeningTells file files before after Source text =
    FaultTells file files before after Source text
OpeningTells file files before after Sink text = ⊥
OpeningTells file files before after Memory text =
    (reason : OpenFault) × (reason ≢ fault.Source)
    × Leads files before after (opening_from file) (Err reason) × (text ≡ memory_line)
OpeningTells file files before after NoFile text =
    FaultTells file files before after NoFile text
OpeningTells file files before after Budget text = ⊥

-- the same of what words ask for: a command; or they are no command line, and just that is told
abbrev pub AskedTells : Option Command → Option Files → List Fetched → List Fetched → Status
    → List ℕ → Type 0
AskedTells None files before after status text =
    (after ≡ before) × (status ≡ Usage) × (text ≡ usage_line)
AskedTells (Some (Cell command)) files before after status text =
    CellTells command files before after status text
AskedTells (Some (Run command)) files before after status text =
    OpeningTells command.file files before after status text

-- nothing was asked for, and it is told that there was no memory
abbrev pub TellsNoMemory : List Fetched → List Fetched → Status → List ℕ → Type 0
TellsNoMemory before after status text =
    (after ≡ before) × (status ≡ Memory) × (text ≡ memory_line)

-- a run over these words that opens no cache tells this status and this text: by what they ask for; or that there was
-- no memory for the words, or to read what may be the options of `run`
abbrev pub Tells : Words → Option Files → List Fetched → List Fetched → Status → List ℕ → Type 0
Tells (words.Read given) files before after status text =
    AskedTells (command_of (map string_bytes given.items)) files before after status text
    ⊎ ((may_be_run (map string_bytes given.items) ≡ true)
    × TellsNoMemory before after status text)
Tells words.NotText files before after status text =
    AskedTells None files before after status text
Tells words.OutOfMemory files before after status text = TellsNoMemory before after status text

-- the status has its cause, and just its text was sent
pub record IsTold (words : Words) (files : Option Files) (start finish : Around)
    (status : Status) : Type 0 where
  pub text : List ℕ
  pub cause : Tells words files start.answers finish.answers status text
  pub written : finish.talk ≡ start.talk ++ took text ∷ []
  pub unread : finish.left ≡ start.left

-- a text could not be sent whole, and nothing else has passed
pub record IsCut (text : List ℕ) (before after : List Event) : Type 0 where
  pub size : ℕ
  pub within : size ≤ length text
  pub passed : after ≡ before ++ cut size text

-- of the text of a status that has its cause only a front was sent
pub record IsCutOff (words : Words) (files : Option Files) (start finish : Around) : Type 0 where
  pub status : Status
  pub text : List ℕ
  pub cause : Tells words files start.answers finish.answers status text
  pub written : IsCut text start.talk finish.talk
  pub unread : finish.left ≡ start.left

-- what is to be said where no cache was opened, whatever the depot answers: what is told of the fault, or that there
-- was no memory for it. A failed source takes no memory to tell
abbrev pub SayTells : OpenFault → Said → Type 0
SayTells reason said =
    (said ≡ told_opening reason) ⊎ ((said ≡ no_memory) × (reason ≢ fault.Source))

-- a status and its text were the last to be said, or the text could not be sent whole
abbrev pub IsLastLine : Status → List ℕ → List Event → List Event → Status → Type 0
IsLastLine last text before after status =
    ((status ≡ last) × (after ≡ before ++ took text ∷ []))
    ⊎ ((status ≡ Sink) × IsCut text before after)

-- the status of a run whose session ended so, and what has passed after its conversation
abbrev pub IsLast : SessionEnd → List Event → List Event → Status → Type 0
IsLast end.Quit before after status = (status ≡ Done) × (after ≡ before)
IsLast end.EndOfInput before after status = (status ≡ Done) × (after ≡ before)
IsLast end.LongLine before after status = (status ≡ Done) × (after ≡ before)
IsLast end.Budget before after status = IsLastLine Budget budget_line before after status
IsLast end.ReceiveFault before after status = IsLastLine Source source_line before after status
IsLast end.SendFault before after status = (status ≡ Sink) × (after ≡ before)
IsLast end.Memory before after status = ⊥

-- the desk of a run over a cache: seat 1, and nobody else adds entries
abbrev pub desk_over : CacheOf → DeskOf
desk_over cache = record { cache = cache; seat = 1; alone = true; fronts = None }

-- what is seen of a cache by the desk of a run, and what its depot was asked for, around a session
abbrev pub dealing_over : CacheOf → CacheOf → List Fetched → Dealing
dealing_over opened cache asked =
    record { before = desk_over opened; after = desk_over cache; asked = asked }

-- a session was served over a cache, which was a conversation, and then the last was said; where the link tells what
-- is left, the lines that were handled in it are those of that. For these lines this many rows and groups were read
pub record HasServed (tools : ToolsOf) (files : Option Files) (opened cache : CacheOf) (start finish : Around)
    (status : Status) (read : ℕ) : Type 0 where
  pub end : SessionEnd
  pub talk : List Event
  pub asked : List Fetched
  pub handled : List Handled
  pub conversed : HasConversed tools start.talk talk start.answers finish.answers files
      (fresh byte_limit) (desk_over opened) (desk_over cache) end handled
  pub answered : finish.answers ≡ start.answers ++ asked
  pub served : IsServed tools byte_limit end (dealing_over opened cache asked) start.left
      (taken start.talk) (taken talk) handled
  pub read_is : read ≡ all_read handled
  pub few : ReadsFew (dealing_over opened cache asked) handled
  pub last : IsLast end talk finish.talk status

-- there was no memory to begin a session: nothing was received, asked for or read, and just that was said
pub record HasNotBegun (opened cache : CacheOf) (start finish : Around)
    (status : Status) (read : ℕ) : Type 0 where
  pub same : cache ≡ opened
  pub last : IsLastLine Memory memory_line start.talk finish.talk status
  pub unasked : finish.answers ≡ start.answers
  pub unread : finish.left ≡ start.left
  pub none_read : read ≡ 0

-- the cache of a history
abbrev pub cache_of : HistoryOf → CacheOf
cache_of history = record { setting = history.setting; entries = history.entries }

-- a session over a cache was served, for which this many rows and groups were read, or could not begin
abbrev pub ServesDesk : ToolsOf → Option Files → CacheOf → CacheOf → Around → Around → Status → ℕ
    → Type 0
ServesDesk tools files opened cache start finish status read =
    HasServed tools files opened cache start finish status read
    ⊎ HasNotBegun opened cache start finish status read

-- a run ends over a cache that was opened: its session was served, for which this many rows and groups were read, or could not
-- begin
abbrev pub EndsRun : ToolsOf → Option Files → CacheOf → HistoryOf → Around → Around → Status → ℕ
    → Type 0
EndsRun tools files opened history start finish status read =
    ServesDesk tools files opened (cache_of history) start finish status read

-- the same time, except for what a depot was asked for
abbrev pub with_answers : Around → List Fetched → Around
with_answers around answers = record around { answers = answers }

-- no cache was opened: no step was added, or the words ask for a schema's file, of which the catalog and the base batches
-- were read, and at most the rows over which those of its aggregate tables are checked whose files came
abbrev pub AddsFew : Words → Option Files → List Fetched → List Fetched → ℕ → ℕ → Type 0
AddsFew words files before after steps_before steps_after =
    (steps_after ≡ steps_before)
    ⊎ ((command : RunCommand) × IsAsked words (Some (Run command))
    × AddsFewSteps files before after command.file steps_before steps_after)

-- a history begins with that of an opened cache, under the same setting; each entry after it is of seat 1, or an eviction
pub record BeginsWith (opened : CacheOf) (history : HistoryOf) : Type 0 where
  pub added : List Entry
  pub setting : history.setting ≡ opened.setting
  pub entries : history.entries ≡ opened.entries ++ added
  pub own : list_all (λ entry. is_eviction entry || is_of_seat 1 entry) added ≡ true

-- a run of the words opened a cache from their schema's file with their budget, and then served a session over it, which added
-- to its history. It costs the rows that the aggregate tables are checked over, and what was read for the lines
pub record RunsSession (tools : ToolsOf) (words : Words) (files : Option Files) (start finish : Around)
    (history : HistoryOf) (status : Status) : Type 0 where
  pub command : RunCommand
  pub asked : IsAsked words (Some (Run command))
  pub cache : CacheOf
  pub answers : List Fetched
  pub opened : IsOpened files start.answers answers command.file command.budget cache
  pub begins : BeginsWith cache history
  pub read : ℕ
  pub ends : EndsRun tools files cache history (with_answers start answers) finish status read
  pub cost : ℕ
  pub cost_is : cost ≡ rows_checked opened.opening.catalog opened.opening.batches + read
