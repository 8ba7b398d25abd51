-- Whole runs: lists of calls on one manager, and what they are answered.
use Rattle.std.specs.Prelude.{ℕ, ◌≡◌, ◌<◌, ◌≤◌, ◌+◌, ◌⊎◌, ⊤, List, [], ◌∷◌, ◌++◌, Bool, true, Option, Some, None, All, IsTrue, flat_map, length, map, nat_lt, option_map, option_to_list, remove, slice_get}
use Rattle.std.specs.List.{list_all}
use Rattle.std.specs.Option.{option_and_then, option_map_or}
use Rattle.olap_meaning.specs.declared.cells.Who.{Who}
use Rattle.olap_meaning.specs.declared.tables.Catalog.{Catalog}
use Rattle.olap_meaning.specs.declared.tables.Setting.{Setting}
use Rattle.olap_meaning.specs.History as history
use Rattle.olap_meaning.specs.History.{Entry, load_at, version}
use Rattle.olap_meaning.specs.Budget.{kept_groups}
use Rattle.olap_meaning.specs.Legal.{caller, is_cell, is_flushable}
use Rattle.installed_tables.specs.Installed.{groups_built, present_rows, present_version}
use Rattle.load_costs.specs.Costs.{cost, version_rows}
use Rattle.fact_versions.specs.Facts.{append_fault}
use Rattle.fact_versions.specs.declared.faults.AppendFault.TheVariants as fault
use Rattle.fact_reader.specs.BodyRows.{is_batch}
use Rattle.segment_load.specs.Loads.{JobOf}
use Rattle.manager_calls.specs.declared.calls.Call.{Call}
use Rattle.manager_calls.specs.declared.calls.Call.TheVariants.{Append, Look, Deliver, Abandon, Flush, Show, BuildAgg, Install}
use Rattle.manager_calls.specs.declared.calls.Reply.{Reply}
use Rattle.manager_calls.specs.declared.calls.Reply.TheVariants.{Appended, Refused, Ready, Loading, Waiting, Busy, Ended, NoJob, Flushed, Shown, Built, Installed, NotReached, OutOfMemory}
use Rattle.history_core.specs.Answers.{HasSource, IsAnswer, SomeWants, Waits}
use Rattle.history_core.specs.Cache.{CacheOf}
use Rattle.history_core.specs.Arrivals.{arrival_in}
use Rattle.history_core.specs.Groups.{AreHeadersFor, load_count, loads_with, wanted_of}
use Rattle.segment_header.specs.Widening.{Allowing}
use Rattle.cache_manager.specs.Jobs.{IsJobOf, apart}
use Rattle.history_core.specs.Seats.{SeatIsIdle}
use Rattle.history_core.specs.Groups.{numbers_from}
use Rattle.history_core.specs.Shown.{cache_lines}

-- a call may be made on a cache over a catalog: a batch is one of a cube, cells are known, a region may be flushed, and an
-- aggregate table is declared
abbrev pub MayCall : Catalog → Call → Type 0
MayCall catalog (Append seat cube batch) =
    (cube < length catalog.cubes) × IsTrue (is_batch catalog cube batch)
MayCall catalog (Look seat cells) = IsTrue (list_all (is_cell catalog) cells)
MayCall catalog (Deliver job) = ⊤
MayCall catalog (Abandon job) = ⊤
MayCall catalog (Flush seat region) = IsTrue (is_flushable catalog region)
MayCall catalog (Show seat) = ⊤
MayCall catalog (BuildAgg seat table) = table < length catalog.schema.aggregates
MayCall catalog (Install seat table v) = table < length catalog.schema.aggregates

-- where a run stands: its cache, the loads whose jobs are out, in order, and the number of the next call
pub record Stage : Type 0 where
  pub cache : CacheOf
  pub out : List ℕ
  pub number : ℕ

-- a run begins with a cache in which nothing has happened
abbrev pub first_stage : Setting → Stage
first_stage setting =
    record { cache = record { setting = setting; entries = [] }; out = []; number = 1 }

-- who makes the next call
abbrev pub who_calls : Stage → ℕ → Who
who_calls stage seat = record { seat = seat; call = stage.number }

-- the entry that ends the load of a job that is out, by its place: by who started it
abbrev pub ending : (Who → ℕ → Entry) → Stage → ℕ → List Entry
ending end stage job =
    option_to_list
    (option_and_then
    (λ j. option_map (λ load. end load.who j) (load_at stage.cache.entries j))
    (slice_get stage.out job))

-- the entries that a call adds which has this reply
abbrev pub added : Stage → Call → Reply → List Entry
added stage (Append seat cube batch) (Appended appended) =
    history.Append (who_calls stage seat) cube
    (version stage.cache.entries cube + 1) batch.rows ∷ []
added stage (Look seat cells) (Ready answer evicted) =
    history.Answer (who_calls stage seat) answer.sources.value ∷ map history.Evict evicted.items
added stage (Look seat cells) (Loading headers) =
    map history.Start (loads_with stage.cache (who_calls stage seat) cells headers.items)
added stage (Deliver job) Ended = ending history.Done stage job
added stage (Abandon job) Ended = ending history.Drop stage job
added stage (Flush seat region) (Flushed position) =
    history.Flush (who_calls stage seat) region ∷ []
added stage (Show seat) (Shown view) = history.Saw (who_calls stage seat) ∷ []
added stage (BuildAgg seat table) (Built built) =
    history.Agg (who_calls stage seat) table built.version ∷ []
added stage (Install seat table v) (Installed position) =
    history.Agg (who_calls stage seat) table v ∷ []
added stage call reply = []

-- the loads whose jobs are out after a call that has this reply
abbrev pub out_after : Stage → Call → Reply → List ℕ
out_after stage (Look seat cells) (Loading headers) =
    stage.out ++ numbers_from (length stage.cache.entries + 1) (load_count stage.cache cells)
out_after stage (Deliver job) Ended = remove stage.out job
out_after stage (Abandon job) Ended = remove stage.out job
out_after stage call reply = stage.out

-- a run after a call that has this reply
abbrev pub next_stage : Stage → Call → Reply → Stage
next_stage stage call reply =
    record {
      cache = record {
        setting = stage.cache.setting;
        entries = stage.cache.entries ++ added stage call reply;
      };
      out = out_after stage call reply;
      number = stage.number + 1;
    }

-- the load that an entry evicts
abbrev pub evicted_load : Entry → Option ℕ
evicted_load (history.Evict load) = Some load
evicted_load _ = None

-- the entry that abandons a job
abbrev pub drop_of : JobOf → Entry
drop_of job = history.Drop job.who job.load

-- a cache where a run ends: the loads whose jobs are out are dropped, in order
abbrev pub ended : Stage → CacheOf
ended stage =
    record {
      setting = stage.cache.setting;
      entries = stage.cache.entries
          ++ flat_map
          (λ j. option_to_list
          (option_map (λ load. history.Drop load.who j) (load_at stage.cache.entries j)))
          stage.out;
    }

-- a call may have this reply: its cause holds where the run stands
abbrev pub MayReply : Stage → Call → Reply → Type 0
MayReply stage (Append seat cube batch) (Appended appended) =
    (append_fault (arrival_in stage.cache cube batch.rows) ≡ None)
    × (appended.position ≡ length stage.cache.entries + 1)
    × (appended.version ≡ version stage.cache.entries cube + 1)
MayReply stage (Append seat cube batch) (Refused refusal) =
    (refusal ≡ fault.OutOfMemory)
    ⊎ (append_fault (arrival_in stage.cache cube batch.rows) ≡ Some refusal)
MayReply stage (Look seat cells) (Ready answer evicted) =
    SeatIsIdle stage.cache.entries seat × All (HasSource stage.cache) cells
    × IsAnswer stage.cache cells answer
    × (kept_groups stage.cache.setting.catalog
    (stage.cache.entries ++ added stage (Look seat cells) (Ready answer evicted))
    ≤ stage.cache.setting.budget)
MayReply stage (Look seat cells) (Loading headers) =
    SeatIsIdle stage.cache.entries seat × SomeWants stage.cache cells
MayReply stage (Look seat cells) (Waiting loads) =
    SeatIsIdle stage.cache.entries seat × Waits stage.cache cells loads
MayReply stage (Look seat cells) Busy = SeatIsIdle stage.cache.entries seat → ⊥
MayReply stage (Look seat cells) OutOfMemory = SeatIsIdle stage.cache.entries seat
MayReply stage (Deliver job) Ended = job < length stage.out
MayReply stage (Deliver job) NoJob = length stage.out ≤ job
MayReply stage (Deliver job) OutOfMemory = job < length stage.out
MayReply stage (Abandon job) Ended = job < length stage.out
MayReply stage (Abandon job) NoJob = length stage.out ≤ job
MayReply stage (Flush seat region) (Flushed position) = position ≡ length stage.cache.entries + 1
MayReply stage (Flush seat region) OutOfMemory = ⊤
MayReply stage (Show seat) (Shown view) =
    (view.position ≡ length stage.cache.entries + 1)
    × (view.lines ≡ cache_lines stage.cache.entries)
MayReply stage (Show seat) OutOfMemory = ⊤
MayReply stage (BuildAgg seat table) (Built built) =
    (built.position ≡ length stage.cache.entries + 1)
    × (built.version ≡ present_version stage.cache.setting.catalog stage.cache.entries table)
    × (built.groups ≡ groups_built stage.cache.setting.catalog
    (stage.cache.entries ++ history.Agg (who_calls stage seat) table built.version ∷ []) table)
MayReply stage (BuildAgg seat table) OutOfMemory = ⊤
MayReply stage (Install seat table v) (Installed position) =
    (v ≤ present_version stage.cache.setting.catalog stage.cache.entries table)
    × (position ≡ length stage.cache.entries + 1)
MayReply stage (Install seat table v) NotReached =
    present_version stage.cache.setting.catalog stage.cache.entries table < v
MayReply stage (Install seat table v) OutOfMemory =
    v ≤ present_version stage.cache.setting.catalog stage.cache.entries table
MayReply stage call reply = ⊥

-- the loads that a call starts which has this reply have headers as may be allowed
abbrev pub MayStart : Allowing → Stage → Call → Reply → Type 0
MayStart allowing stage (Look seat cells) (Loading headers) =
    AreHeadersFor allowing stage.cache.setting.catalog (wanted_of stage.cache cells) headers.items
MayStart allowing stage call reply = ⊤

-- calls may have these replies, one after another
abbrev pub MayReplyAll : Allowing → Stage → List Call → List Reply → Type 0
MayReplyAll allowing stage [] [] = ⊤
MayReplyAll allowing stage (call ∷ calls) (reply ∷ replies) =
    (MayReply stage call reply × MayStart allowing stage call reply)
    × MayReplyAll allowing (next_stage stage call reply) calls replies
MayReplyAll allowing stage calls replies = ⊥

-- a run after calls that had these replies
abbrev pub stage_after : Stage → List Call → List Reply → Stage
stage_after stage (call ∷ calls) (reply ∷ replies) =
    stage_after (next_stage stage call reply) calls replies
stage_after stage calls replies = stage

-- what the load of a job that is out costs, by the job's place: the rows and the groups that it reads
abbrev pub rows_of_job : Stage → ℕ → ℕ
rows_of_job stage job =
    option_map_or
    (cost stage.cache.setting.catalog stage.cache.entries) (slice_get stage.out job) 0

-- the least that a call which has this reply has read: what a load costs that it delivers, or the rows of which it builds a
-- table
abbrev pub rows_delivered : Stage → Call → Reply → ℕ
rows_delivered stage (Deliver job) Ended = rows_of_job stage job
rows_delivered stage (BuildAgg seat table) (Built built) =
    present_rows stage.cache.setting.catalog stage.cache.entries table
rows_delivered stage (Install seat table v) (Installed position) =
    version_rows stage.cache.setting.catalog stage.cache.entries table v
rows_delivered stage call reply = 0

-- the most that it has read: where there was no memory for a load or a table, some of that
abbrev pub rows_tried : Stage → Call → Reply → ℕ
rows_tried stage (Deliver job) Ended = rows_of_job stage job
rows_tried stage (Deliver job) OutOfMemory = rows_of_job stage job
rows_tried stage (BuildAgg seat table) (Built built) =
    present_rows stage.cache.setting.catalog stage.cache.entries table
rows_tried stage (BuildAgg seat table) OutOfMemory =
    present_rows stage.cache.setting.catalog stage.cache.entries table
rows_tried stage (Install seat table v) (Installed position) =
    version_rows stage.cache.setting.catalog stage.cache.entries table v
rows_tried stage (Install seat table v) OutOfMemory =
    version_rows stage.cache.setting.catalog stage.cache.entries table v
rows_tried stage call reply = 0

-- the rows of calls that had these replies, by those of one call
abbrev pub rows_over : (Stage → Call → Reply → ℕ) → Stage → List Call → List Reply → ℕ
rows_over rows stage (call ∷ calls) (reply ∷ replies) =
    rows stage call reply + rows_over rows (next_stage stage call reply) calls replies
rows_over rows stage calls replies = 0

-- some first ones of some calls were made, each with a reply that it may have, and no more rows than these allow were
-- looked at
pub record IsStopped (allowing : Allowing) (stage : Stage) (calls : List Call)
    (before after : ℕ) : Type 0 where
  pub made : List Call
  pub left : List Call
  pub replies : List Reply
  pub front : calls ≡ made ++ left
  pub may : MayReplyAll allowing stage made replies
  pub at_most : after ≤ before + rows_over rows_tried stage made replies

-- an entry is no call, or one with a number below another
abbrev pub is_below : ℕ → Option Who → Bool
is_below n None = true
is_below n (Some who) = nat_lt who.call n

-- where a run stands: the jobs that are out are the cache's, of different loads, and all calls so far have numbers
-- below that of the next
pub record IsRun (cache : CacheOf) (jobs : List JobOf) (next : ℕ) : Type 0 where
  pub jobs_are : All (IsJobOf cache) jobs
  pub jobs_apart : IsTrue (apart (map (λ job. job.load) jobs))
  pub below : IsTrue (list_all (λ entry. is_below next (caller entry)) cache.entries)

-- where a manager and the jobs that are out stand in a run
abbrev pub stage_of : CacheOf → List JobOf → ℕ → Stage
stage_of cache jobs number =
    record { cache = cache; out = map (λ job. job.load) jobs; number = number }
