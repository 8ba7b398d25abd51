-- A query that means axes is answered by the grid of an answer to their cells, a flush by what it means, an AGG by the
-- table of its name, and a look by what is kept.
use Rattle.std.proofs.Common.{◌≡◌, ◌≢◌, refl, sym, subst, ◌⊎◌, ℕ, List, true, codes, Option, Some, None, Result, Ok, Err, inl, inr, arith}
use Rattle.olap_meaning.specs.declared.regions.Region.{Region}
use Rattle.olap_meaning.specs.Catalog.{find_agg}
use Rattle.query_meaning.specs.declared.axes.Axes.{Axes}
use Rattle.query_meaning.specs.declared.query.Query.{Query}
use Rattle.query_meaning.specs.AxisCells.{cells_of}
use Rattle.query_meaning.specs.RegionMeaning.{RegionRefusal, flush_meant}
use Rattle.query_meaning.specs.RegionReplies.{cube_named}
use Rattle.query_meaning.specs.Replies.{built_reply, flushed_reply, no_memory_reply}
use Rattle.query_meaning.specs.Requests.{MayTakeMemory, is_show}
use Rattle.query_meaning.specs.Resolution.{Refusal, axes_meant}
use Rattle.history_core.specs.declared.answers.Answer.{Answer}
use Rattle.input_lines.specs.Requests.{Request, Ask, Flush, Agg, Show}
use Rattle.input_lines.proofs.Arguments.{white_argument}
use Rattle.input_lines.proofs.Commands.{cache, takes_none}
use Rattle.line_session.specs.Answered.{AggsAreAnswered, FlushesAreAnswered, LooksAreAnswered, QueriesAreAnswered}
use Rattle.line_session.specs.Desks.{AddsNone, HasAsked}
use Rattle.line_session.specs.Replies.{AnswersAgg, AnswersFlush, AnswersLine, AnswersMeaning, AnswersRequest, AnswersShow, Dealing, IsGridOf, LeavesUnread, StandsStill, catalog_of}
use Rattle.line_session.specs.Tools.{ToolsOf}
use Rattle.line_session.proofs.GoingOn.{adds_none}
use Rattle.line_session.proofs.Wanting.{differ}

-- an answer to the cells of axes, whose grid is the reply
abbrev IsAnswered : ToolsOf → Dealing → Axes → List ℕ → Type 0
IsAnswered tools dealing axes reply = (answer : Answer) × HasAsked tools.allowed dealing.before dealing.after (cells_of (catalog_of dealing.before) axes) answer × IsGridOf tools (catalog_of dealing.before) axes answer reply

-- a grid was given, or there was no memory
given : (tools : ToolsOf) (dealing : Dealing) (axes : Axes) (position : Option ℕ) (reply : List ℕ) → reply ≢ no_memory_reply → AnswersMeaning tools dealing (Ok axes) position reply → IsAnswered tools dealing axes reply
given tools dealing axes position reply told (inl gives) = by gives.grid
  where
    by : IsGridOf tools (catalog_of dealing.before) axes gives.answer reply ⊎ (reply ≡ no_memory_reply) → IsAnswered tools dealing axes reply
    by (inl grid) = (gives.answer, gives.asks, grid)
    by (inr lacks) = absurd (told lacks)
given tools dealing axes position reply told (inr gives) = absurd (told gives.no_memory)

-- a line that asks for a query alone was answered by what the query means
asked_query : (tools : ToolsOf) (dealing : Dealing) (query : Query) (axes : Axes) (request : Request) (position : Option ℕ) (reply : List ℕ) → Ask query ≡ request → axes_meant (catalog_of dealing.before) query ≡ Ok axes → AnswersRequest tools dealing request position reply → AnswersMeaning tools dealing (Ok axes) position reply
asked_query tools dealing query axes request position reply is means answers =
    subst (λ (meant : Result Axes Refusal). AnswersMeaning tools dealing meant position reply) means (subst (λ (r : Request). AnswersRequest tools dealing r position reply) (sym is) answers).1

pub queries_answered : (tools : ToolsOf) → QueriesAreAnswered tools
queries_answered tools dealing handled argument query axes handles utf8 command writes means told = by handles.answers
  where
    by : AnswersLine tools dealing handled ⊎ LeavesUnread dealing handled → IsAnswered tools dealing axes handled.reply
    by (inl line) = given tools dealing axes handled.position handled.reply told (asked_query tools dealing query axes line.request handled.position handled.reply (line.only (Ask query) (utf8, record { argument = argument; command = command; writes = writes })) means line.answers)
    by (inr unread) = absurd (told unread.no_memory)

-- a flush that was not read: nothing was added
unread_flush : (dealing : Dealing) (cube : ℕ) (meant : Result Region RegionRefusal) (position : Option ℕ) (reply : List ℕ) → StandsStill dealing position → reply ≡ no_memory_reply → AnswersFlush dealing cube meant position reply
unread_flush dealing cube (Ok region) position reply still told =
    inr (record { adds = subst (AddsNone dealing.before) (sym still.same) (adds_none dealing.before); none = still.none; no_memory = told }, still.unasked)
unread_flush dealing cube (Err refused) position reply still told = (still, inr told)

-- where want of memory is replied to a flush, no entry was made
lacks_entry : (dealing : Dealing) (cube : ℕ) (meant : Result Region RegionRefusal) (position : Option ℕ) (reply : List ℕ) → AnswersFlush dealing cube meant position reply → reply ≡ no_memory_reply → AddsNone dealing.before dealing.after × (position ≡ None)
lacks_entry dealing cube (Ok region) position reply (inl gives) told = absurd (differ 0 (flushed_reply gives.entry) no_memory_reply (λ same. omega arith) reply gives.text told)
lacks_entry dealing cube (Ok region) position reply (inr lacks) told = (lacks.0.adds, lacks.0.none)
lacks_entry dealing cube (Err refused) position reply (still, refuses) told = (subst (AddsNone dealing.before) (sym still.same) (adds_none dealing.before), still.none)

pub flushes_answered : (tools : ToolsOf) → FlushesAreAnswered tools
flushes_answered tools dealing handled argument text handles utf8 command writes =
    record { answers = answers; lack = lacks_entry dealing cube meant handled.position handled.reply answers }
  where
    cube : ℕ
    cube = cube_named (catalog_of dealing.before) text

    meant : Result Region RegionRefusal
    meant = flush_meant (catalog_of dealing.before) text

    by : AnswersLine tools dealing handled ⊎ LeavesUnread dealing handled → AnswersFlush dealing cube meant handled.position handled.reply
    by (inl line) = subst (λ (r : Request). AnswersRequest tools dealing r handled.position handled.reply) (sym (line.only (Flush text) (utf8, record { argument = argument; command = command; writes = writes }))) line.answers
    by (inr unread) = unread_flush dealing cube meant handled.position handled.reply unread.nothing unread.no_memory

    answers : AnswersFlush dealing cube meant handled.position handled.reply
    answers = by handles.answers

-- an AGG that was not read: nothing was added
unread_agg : (dealing : Dealing) (name : List ℕ) (table : Option ℕ) (position : Option ℕ) (reply : List ℕ) → StandsStill dealing position → reply ≡ no_memory_reply → AnswersAgg dealing name table position reply
unread_agg dealing name (Some table) position reply still told =
    (still.unasked, inr (record { adds = subst (AddsNone dealing.before) (sym still.same) (adds_none dealing.before); none = still.none; no_memory = told }))
unread_agg dealing name None position reply still told = (still, inr told)

-- where want of memory is replied to an AGG, no entry was made
lacks_table : (dealing : Dealing) (name : List ℕ) (table : Option ℕ) (position : Option ℕ) (reply : List ℕ) → AnswersAgg dealing name table position reply → reply ≡ no_memory_reply → AddsNone dealing.before dealing.after × (position ≡ None)
lacks_table dealing name (Some table) position reply (unasked, inl gives) told = absurd (differ 0 (built_reply gives.built.position gives.built.version gives.built.groups) no_memory_reply (λ same. omega arith) reply gives.text told)
lacks_table dealing name (Some table) position reply (unasked, inr lacks) told = (lacks.adds, lacks.none)
lacks_table dealing name None position reply (still, refuses) told = (subst (AddsNone dealing.before) (sym still.same) (adds_none dealing.before), still.none)

pub aggs_answered : (tools : ToolsOf) → AggsAreAnswered tools
aggs_answered tools dealing handled argument name handles utf8 command writes =
    record { answers = answers; lack = lacks_table dealing name table handled.position handled.reply answers }
  where
    table : Option ℕ
    table = find_agg (catalog_of dealing.before) name

    by : AnswersLine tools dealing handled ⊎ LeavesUnread dealing handled → AnswersAgg dealing name table handled.position handled.reply
    by (inl line) = subst (λ (r : Request). AnswersRequest tools dealing r handled.position handled.reply) (sym (line.only (Agg name) (utf8, record { argument = argument; command = command; writes = writes }))) line.answers
    by (inr unread) = unread_agg dealing name table handled.position handled.reply unread.nothing unread.no_memory

    answers : AnswersAgg dealing name table handled.position handled.reply
    answers = by handles.answers

-- a line that asks for what is kept has none of the commands whose argument may take memory
shows_none : (line : List ℕ) → MayTakeMemory line → is_show line ≡ true → ⊥
shows_none line takes show =
    let has = white_argument (codes "CACHE") line show in takes_none cache line refl takes (has.argument, has.command)

pub looks_answered : (tools : ToolsOf) → LooksAreAnswered tools
looks_answered tools dealing handled handles utf8 show = by handles.answers
  where
    by : AnswersLine tools dealing handled ⊎ LeavesUnread dealing handled → AnswersShow dealing handled.position handled.reply
    by (inl line) = subst (λ (r : Request). AnswersRequest tools dealing r handled.position handled.reply) (sym (line.only Show (utf8, show))) line.answers
    by (inr unread) = absurd (shows_none handled.line unread.takes show)
