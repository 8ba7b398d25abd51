-- What a session replies to a line, and what the line adds to what is seen of a history.
use Rattle.std.specs.Prelude.{ℕ, ◌≡◌, ◌⊎◌, ◌+◌, ◌≤◌, List, [], ◌∷◌, Option, Some, None, Result, Ok, Err, length, nat_le, if◌then◌else◌}
use Rattle.std.specs.Option.{IsSome, option_map_or}
use Rattle.olap_meaning.specs.declared.tables.Catalog.{Catalog}
use Rattle.olap_meaning.specs.Catalog.{find_agg, find_cube}
use Rattle.olap_meaning.specs.declared.regions.Region.{Region}
use Rattle.olap_meaning.specs.History.{Entry}
use Rattle.query_meaning.specs.declared.axes.Axes.{Axes}
use Rattle.query_meaning.specs.AxisCells.{cells_of}
use Rattle.query_meaning.specs.GridForm.{IsGridText, IsOfGrid}
use Rattle.query_meaning.specs.Grids.{grid_of}
use Rattle.query_meaning.specs.RegionMeaning.{RegionRefusal, flush_meant}
use Rattle.query_meaning.specs.RegionReplies.{cube_named, flush_refusal_reply}
use Rattle.query_meaning.specs.Replies.{built_reply, flushed_reply, no_command_reply, no_cube_reply, no_file_reply, no_memory_reply, no_table_reply, not_text_reply, not_yet_reply, quit_reply, refusal_reply, refused_batch_reply, seen_reply, source_reply, syntax_reply, version_reply}
use Rattle.query_meaning.specs.Resolution.{Refusal, axes_meant}
use Rattle.query_meaning.specs.Requests.{MayFindNoMemory, MayTakeMemory}
use Rattle.outside.specs.Fetched.{Fetched}
use Rattle.outside.specs.declared.depot.DepotRefusal.{DepotRefusal}
use Rattle.outside.specs.declared.depot.DepotRefusal.TheVariants as depot
use Rattle.command_arguments.specs.declared.append.AppendArgument.{AppendArgument}
use Rattle.input_lines.specs.Requests.{Request, NotText, Blank, NoCommand, Stops, Quit, After, Append, Ask, Flush, Agg, Show, IsRequest}
use Rattle.fact_rows.specs.BatchFiles.{batch_of}
use Rattle.fact_rows.specs.declared.fault.BatchFault.{BatchFault}
use Rattle.fact_versions.specs.FactRows.{FactRows}
use Rattle.fact_versions.specs.Facts.{append_fault}
use Rattle.fact_versions.specs.declared.faults.AppendFault.{AppendFault}
use Rattle.fault_texts.specs.FaultTexts.{refused_append_text, refused_batch_text}
use Rattle.installed_tables.specs.Installed.{present_rows}
use Rattle.history_core.specs.Arrivals.{arrival_in}
use Rattle.history_core.specs.Shown.{cache_lines}
use Rattle.history_core.specs.declared.answers.AggBuilt.{AggBuilt}
use Rattle.history_core.specs.declared.answers.Answer.{Answer}
use Rattle.history_core.specs.declared.answers.Appended.{Appended}
use Rattle.history_core.specs.declared.answers.CacheView.{CacheView}
use Rattle.result_layout.specs.Axes.{values_of}
use Rattle.result_layout.specs.CacheTexts.{cache_text}
use Rattle.line_session.specs.Tools.{ToolsOf}
use Rattle.line_session.specs.Desks.{AddsNone, DeskOf, HasAppended, HasAsked, HasBuilt, HasFlushed, HasReadFront, HasNotAsked, HasShown, costs_between, with_more}

-- a line that was handled: the line, the position of its entry, where it has one, its reply, and how many rows and groups
-- were read for it
pub record Handled : Type 0 where
  pub line : List ℕ
  pub position : Option ℕ
  pub reply : List ℕ
  pub read : ℕ

-- what is seen of a cache, and what a depot was asked for, around the handling of a line
pub record Dealing : Type 0 where
  pub before : DeskOf
  pub after : DeskOf
  pub asked : List Fetched

-- the catalog of what is seen
abbrev pub catalog_of : DeskOf → Catalog
catalog_of desk = desk.cache.setting.catalog

-- nothing new is seen of the cache, nothing was asked of the depot, and no entry was made
pub record StandsStill (dealing : Dealing) (position : Option ℕ) : Type 0 where
  pub same : dealing.after ≡ dealing.before
  pub unasked : dealing.asked ≡ []
  pub none : position ≡ None

-- a text is the grid of an answer over the axes of a query: it shows each value by a text that may be given for it; and
-- whatever shows the values, it has the form of this grid
pub record IsGridOf (tools : ToolsOf) (catalog : Catalog) (axes : Axes) (answer : Answer)
    (text : List ℕ) : Type 0 where
  pub written : IsGridText tools.texts
      (grid_of catalog axes answer.position (values_of answer.cells)) text
  pub form : IsOfGrid text (grid_of catalog axes answer.position (values_of answer.cells))

-- the cells of axes were answered in one answer, in their order, and the reply is the grid of the answer; or, since there
-- was no memory for the grid, that
pub record GivesGrid (tools : ToolsOf) (dealing : Dealing) (axes : Axes) (position : Option ℕ)
    (reply : List ℕ) : Type 0 where
  pub answer : Answer
  pub asks : HasAsked tools.allowed dealing.before dealing.after
      (cells_of (catalog_of dealing.before) axes) answer
  pub position_is : position ≡ Some answer.position
  pub grid : IsGridOf tools (catalog_of dealing.before) axes answer reply
      ⊎ (reply ≡ no_memory_reply)

-- there was no memory for the query or its cells, or for their loads or their answer
pub record GivesNoGrid (tools : ToolsOf) (dealing : Dealing) (axes : Axes) (position : Option ℕ)
    (reply : List ℕ) : Type 0 where
  pub asks : (dealing.after ≡ dealing.before)
      ⊎ HasNotAsked tools.allowed dealing.before dealing.after
      (cells_of (catalog_of dealing.before) axes)
  pub none : position ≡ None
  pub no_memory : reply ≡ no_memory_reply

-- the reply to a query by what it means: the grid of the answer to its cells; or its first refusal; and there may be no
-- memory
abbrev pub AnswersMeaning : ToolsOf → Dealing → Result Axes Refusal → Option ℕ → List ℕ → Type 0
AnswersMeaning tools dealing (Ok axes) position reply =
    GivesGrid tools dealing axes position reply ⊎ GivesNoGrid tools dealing axes position reply
AnswersMeaning tools dealing (Err refused) position reply =
    StandsStill dealing position
    × ((reply ≡ refusal_reply refused) ⊎ (reply ≡ no_memory_reply))

-- the fact rows of a file were appended to a cube, and the reply is the version that they make
pub record GivesVersion (dealing : Dealing) (cube : ℕ) (rows : FactRows) (position : Option ℕ)
    (reply : List ℕ) : Type 0 where
  pub told : Appended
  pub appends : HasAppended dealing.before dealing.after cube rows.rows told
  pub position_is : position ≡ Some told.position
  pub text : reply ≡ version_reply told.position told.version

-- they were refused, for a fault that is true of what is seen then, and the reply tells it
pub record RefusesRows (dealing : Dealing) (cube : ℕ) (rows : FactRows) (position : Option ℕ)
    (reply : List ℕ) : Type 0 where
  pub reason : AppendFault
  pub adds : AddsNone dealing.before dealing.after
  pub cause : append_fault (arrival_in dealing.after.cache cube rows.rows) ≡ Some reason
  pub none : position ≡ None
  pub text : reply ≡ refused_batch_reply (refused_append_text reason)

-- a line has no entry, since there was no memory for it; the depot may have been asked
pub record LacksMemory (dealing : Dealing) (position : Option ℕ) (reply : List ℕ) : Type 0 where
  pub adds : AddsNone dealing.before dealing.after
  pub none : position ≡ None
  pub no_memory : reply ≡ no_memory_reply

-- what the reader of batches makes of the bytes of a file: its rows, which are appended or refused; or its first fault
abbrev pub AppendsRows : Dealing → ℕ → Result FactRows BatchFault → Option ℕ → List ℕ → Type 0
AppendsRows dealing cube (Ok rows) position reply =
    GivesVersion dealing cube rows position reply ⊎ RefusesRows dealing cube rows position reply
AppendsRows dealing cube (Err reason) position reply =
    (dealing.after ≡ dealing.before) × (position ≡ None)
    × (reply ≡ refused_batch_reply (refused_batch_text reason))

-- what came when the file of this name was asked for: its bytes; or it is not there, or could not be read
abbrev pub AppendsFile : Dealing → ℕ → List ℕ → Result (List ℕ) DepotRefusal → Option ℕ → List ℕ
    → Type 0
AppendsFile dealing cube file (Ok bytes) position reply =
    AppendsRows dealing cube (batch_of (catalog_of dealing.before) cube bytes) position reply
AppendsFile dealing cube file (Err depot.Missing) position reply =
    (dealing.after ≡ dealing.before) × (position ≡ None) × (reply ≡ no_file_reply file)
AppendsFile dealing cube file (Err depot.Failed) position reply =
    (dealing.after ≡ dealing.before) × (position ≡ None) × (reply ≡ source_reply file)
AppendsFile dealing cube file (Err depot.OutOfMemory) position reply = ⊥

-- just the file of this name was asked for, once, and this came
abbrev pub AsksForFile : Dealing → List ℕ → Result (List ℕ) DepotRefusal → Type 0
AsksForFile dealing file came = dealing.asked ≡ (file, came) ∷ []

-- the reply to an append to a cube: its file is asked for, and what came is appended; or there was no memory for that,
-- and no entry was made
abbrev pub AppendsTo : Dealing → ℕ → List ℕ → Option ℕ → List ℕ → Type 0
AppendsTo dealing cube file position reply =
    (came : Result (List ℕ) DepotRefusal) × AsksForFile dealing file came
    × (AppendsFile dealing cube file came position reply ⊎ LacksMemory dealing position reply)

-- the reply to an append, by the cube of its name: where no cube has the name, nothing is asked for
abbrev pub AnswersAppend : Dealing → AppendArgument → Option ℕ → Option ℕ → List ℕ → Type 0
AnswersAppend dealing argument (Some cube) position reply =
    AppendsTo dealing cube argument.file position reply
AnswersAppend dealing argument None position reply =
    StandsStill dealing position
    × ((reply ≡ no_cube_reply argument.cube) ⊎ (reply ≡ no_memory_reply))

-- the reply where this many entries were asked for and a cache has those of this front
abbrev pub front_reply : ℕ → ℕ → List ℕ
front_reply asked front =
    if nat_le asked front then seen_reply front else not_yet_reply asked front

-- the front was read, and the reply tells it
pub record TellsWhatIsSeen (dealing : Dealing) (asked : ℕ) (position : Option ℕ)
    (reply : List ℕ) : Type 0 where
  pub front : ℕ
  pub fronts : HasReadFront dealing.before dealing.after front
  pub unasked : dealing.asked ≡ []
  pub none : position ≡ None
  pub text : reply ≡ front_reply asked front

-- a region was flushed, and the reply is the position of the entry
pub record GivesFlushed (dealing : Dealing) (region : Region) (position : Option ℕ)
    (reply : List ℕ) : Type 0 where
  pub entry : ℕ
  pub flushes : HasFlushed dealing.before dealing.after region entry
  pub unasked : dealing.asked ≡ []
  pub position_is : position ≡ Some entry
  pub text : reply ≡ flushed_reply entry

-- the reply to a flush of a cube, by what it means: the region is flushed; or there was no memory for that, and no entry
-- was made; or it is the first refusal
abbrev pub AnswersFlush : Dealing → ℕ → Result Region RegionRefusal → Option ℕ → List ℕ → Type 0
AnswersFlush dealing cube (Ok region) position reply =
    GivesFlushed dealing region position reply
    ⊎ (LacksMemory dealing position reply × (dealing.asked ≡ []))
AnswersFlush dealing cube (Err refused) position reply =
    StandsStill dealing position
    × ((reply ≡ flush_refusal_reply (catalog_of dealing.before) cube refused)
    ⊎ (reply ≡ no_memory_reply))

-- an aggregate table was built, and the reply tells the position of the entry, the version and the groups
pub record GivesTable (dealing : Dealing) (table : ℕ) (position : Option ℕ)
    (reply : List ℕ) : Type 0 where
  pub built : AggBuilt
  pub builds : HasBuilt dealing.before dealing.after table built
  pub position_is : position ≡ Some built.position
  pub text : reply ≡ built_reply built.position built.version built.groups

-- the reply to an AGG, by the table of its name: it is built; or there was no memory for that, and no entry was made; and
-- where no table has the name, nothing is built
abbrev pub AnswersAgg : Dealing → List ℕ → Option ℕ → Option ℕ → List ℕ → Type 0
AnswersAgg dealing name (Some table) position reply =
    (dealing.asked ≡ [])
    × (GivesTable dealing table position reply ⊎ LacksMemory dealing position reply)
AnswersAgg dealing name None position reply =
    StandsStill dealing position
    × ((reply ≡ no_table_reply name) ⊎ (reply ≡ no_memory_reply))

-- the text of what is kept at the end of a history, as the look that is its next entry finds it
abbrev pub kept_text : Catalog → List Entry → List ℕ
kept_text catalog history =
    cache_text catalog (length history + 1) (cache_lines history)

-- what is kept was shown, and the reply is its text; or, since there was no memory for the text, that
pub record GivesKept (dealing : Dealing) (position : Option ℕ) (reply : List ℕ) : Type 0 where
  pub view : CacheView
  pub shows : HasShown dealing.before dealing.after view
  pub position_is : position ≡ Some view.position
  pub text : (reply ≡ kept_text (catalog_of dealing.before)
      (with_more dealing.before.cache shows.more).entries)
      ⊎ (reply ≡ no_memory_reply)

-- the reply to a look at what is kept; and there may be no memory for it
abbrev pub AnswersShow : Dealing → Option ℕ → List ℕ → Type 0
AnswersShow dealing position reply =
    (dealing.asked ≡ [])
    × (GivesKept dealing position reply ⊎ LacksMemory dealing position reply)

-- the reply to a line that asks for this, the position of its entry, and what it adds
abbrev pub AnswersRequest : ToolsOf → Dealing → Request → Option ℕ → List ℕ → Type 0
AnswersRequest tools dealing NotText position reply =
    StandsStill dealing position × (reply ≡ not_text_reply)
AnswersRequest tools dealing Blank position reply = StandsStill dealing position × (reply ≡ [])
AnswersRequest tools dealing NoCommand position reply =
    StandsStill dealing position × (reply ≡ no_command_reply)
AnswersRequest tools dealing (Stops byte) position reply =
    StandsStill dealing position × (reply ≡ syntax_reply byte)
AnswersRequest tools dealing Quit position reply = StandsStill dealing position × (reply ≡ quit_reply)
AnswersRequest tools dealing (After asked) position reply = TellsWhatIsSeen dealing asked position reply
AnswersRequest tools dealing (Append argument) position reply =
    AnswersAppend dealing argument
    (find_cube (catalog_of dealing.before) argument.cube) position reply
AnswersRequest tools dealing (Ask query) position reply =
    (dealing.asked ≡ [])
    × AnswersMeaning tools dealing
    (axes_meant (catalog_of dealing.before) query) position reply
AnswersRequest tools dealing (Flush text) position reply =
    AnswersFlush dealing (cube_named (catalog_of dealing.before) text)
    (flush_meant (catalog_of dealing.before) text) position reply
AnswersRequest tools dealing (Agg name) position reply =
    AnswersAgg dealing name (find_agg (catalog_of dealing.before) name) position reply
AnswersRequest tools dealing Show position reply = AnswersShow dealing position reply

-- what the entries cost its seat that are added around the handling of a line
abbrev pub costs_of : Dealing → ℕ
costs_of dealing = costs_between dealing.before dealing.after

-- this many rows and groups were read: where a line has an entry, just what its entries cost; else at most that
abbrev pub AreCosts : Dealing → Option ℕ → ℕ → Type 0
AreCosts dealing position read =
    (IsSome position → read ≡ costs_of dealing) × (read ≤ costs_of dealing)

-- how many rows the version has that the cube of the table of a name has when a line has been handled; 0 where no table has
-- the name
abbrev pub rows_to_build : Dealing → List ℕ → ℕ
rows_to_build dealing name =
    option_map_or
    (present_rows (catalog_of dealing.before) dealing.after.cache.entries)
    (find_agg (catalog_of dealing.before) name) 0

-- this many rows and groups were read for a line that asks for this: where it has an entry, what its entries cost; else at most
-- that, and for a table that was not built at most the rows of its version. Nothing is read except for a query and an AGG
abbrev pub IsRead : Dealing → Request → Option ℕ → ℕ → Type 0
IsRead dealing (Ask query) position read = AreCosts dealing position read
IsRead dealing (Agg name) position read =
    (IsSome position → read ≡ costs_of dealing)
    × (read ≤ costs_of dealing + rows_to_build dealing name)
IsRead dealing request position read = read ≡ 0

-- a line was read, which asks for this and for nothing else, and answered
pub record AnswersLine (tools : ToolsOf) (dealing : Dealing) (handled : Handled) : Type 0 where
  pub request : Request
  pub asks : IsRequest handled.line request
  pub only : (other : Request) → IsRequest handled.line other → other ≡ request
  pub answers : AnswersRequest tools dealing request handled.position handled.reply
  pub reads : IsRead dealing request handled.position handled.read

-- there was no memory to read a line, whose command has an argument that may take memory; it added nothing, and read nothing
pub record LeavesUnread (dealing : Dealing) (handled : Handled) : Type 0 where
  pub takes : MayTakeMemory handled.line
  pub nothing : StandsStill dealing handled.position
  pub no_memory : handled.reply ≡ no_memory_reply
  pub unread : handled.read ≡ 0

-- a line was handled. That there was no memory is replied to five commands alone, and to one of them only where its
-- argument is of its form
pub record Handles (tools : ToolsOf) (dealing : Dealing) (handled : Handled) : Type 0 where
  pub answers : AnswersLine tools dealing handled ⊎ LeavesUnread dealing handled
  pub lack : handled.reply ≡ no_memory_reply → MayFindNoMemory handled.line
