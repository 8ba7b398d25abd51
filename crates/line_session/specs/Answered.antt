-- What follows for a query, a flush, a look and an aggregate table from what a session replies to a line.
use Rattle.std.specs.Prelude.{ℕ, ◌≡◌, ◌≢◌, List, true, Some, None, Ok, codes}
use Rattle.std.specs.Str.{is_utf8}
use Rattle.olap_meaning.specs.Catalog.{find_agg}
use Rattle.query_meaning.specs.declared.axes.Axes.{Axes}
use Rattle.query_meaning.specs.declared.query.Query.{Query}
use Rattle.query_meaning.specs.declared.region_text.RegionText.{RegionText}
use Rattle.query_meaning.specs.AxisCells.{cells_of}
use Rattle.query_meaning.specs.RegionMeaning.{flush_meant}
use Rattle.query_meaning.specs.RegionReplies.{cube_named}
use Rattle.query_meaning.specs.Replies.{no_memory_reply}
use Rattle.query_meaning.specs.Requests.{argument_of, is_show}
use Rattle.query_meaning.specs.Resolution.{axes_meant}
use Rattle.query_meaning.specs.WholeFlushes.{WritesFlush}
use Rattle.query_meaning.specs.WholeQueries.{WritesQuery}
use Rattle.text_forms.specs.Forms.{Writes}
use Rattle.command_arguments.specs.Name.{IsName}
use Rattle.history_core.specs.declared.answers.Answer.{Answer}
use Rattle.line_session.specs.Desks.{AddsNone, HasAsked}
use Rattle.line_session.specs.Replies.{AnswersAgg, AnswersFlush, AnswersShow, Dealing, Handled, Handles, IsGridOf, catalog_of}
use Rattle.line_session.specs.Tools.{ToolsOf}

-- where a line of text is a query that means axes, and no want of memory is replied, the reply is the grid of an answer to
-- their cells
abbrev pub QueriesAreAnswered : ToolsOf → Type 0
QueriesAreAnswered tools =
    (dealing : Dealing) (handled : Handled) (argument : List ℕ) (query : Query) (axes : Axes)
    → Handles tools dealing handled
    → is_utf8 handled.line ≡ true → argument_of (codes "MDX") handled.line ≡ Some argument
    → WritesQuery argument query → axes_meant (catalog_of dealing.before) query ≡ Ok axes
    → handled.reply ≢ no_memory_reply
    → (answer : Answer)
    × HasAsked tools.allowed dealing.before dealing.after
    (cells_of (catalog_of dealing.before) axes) answer
    × IsGridOf tools (catalog_of dealing.before) axes answer handled.reply

-- a line that is a flush of this text was answered by what it means: where it means a region, this is flushed, and the
-- reply is the position of the entry; where it means none, nothing is added, and the reply is the first refusal; and where
-- want of memory is replied, no entry was made
pub record FlushIsAnswered (dealing : Dealing) (text : RegionText)
    (handled : Handled) : Type 0 where
  pub answers : AnswersFlush dealing (cube_named (catalog_of dealing.before) text)
      (flush_meant (catalog_of dealing.before) text) handled.position handled.reply
  pub lack : handled.reply ≡ no_memory_reply
      → AddsNone dealing.before dealing.after × (handled.position ≡ None)

-- a line of text that is a flush is answered by what the flush means
abbrev pub FlushesAreAnswered : ToolsOf → Type 0
FlushesAreAnswered tools =
    (dealing : Dealing) (handled : Handled) (argument : List ℕ) (text : RegionText)
    → Handles tools dealing handled
    → is_utf8 handled.line ≡ true → argument_of (codes "FLUSH") handled.line ≡ Some argument
    → WritesFlush argument text → FlushIsAnswered dealing text handled

-- a line of text that asks for what is kept is answered: the look is an entry, and the reply is the text of what was kept
-- before it; or there was no memory
abbrev pub LooksAreAnswered : ToolsOf → Type 0
LooksAreAnswered tools =
    (dealing : Dealing) (handled : Handled) → Handles tools dealing handled
    → is_utf8 handled.line ≡ true → is_show handled.line ≡ true
    → AnswersShow dealing handled.position handled.reply

-- a line that is an AGG of this name was answered by the table that the name means: where it means one, this is built, and the
-- reply tells the position of the entry, the version and the groups; where it means none, nothing is added, and the reply
-- tells the name; and where want of memory is replied, no entry was made
pub record AggIsAnswered (dealing : Dealing) (name : List ℕ) (handled : Handled) : Type 0 where
  pub answers : AnswersAgg dealing name (find_agg (catalog_of dealing.before) name)
      handled.position handled.reply
  pub lack : handled.reply ≡ no_memory_reply
      → AddsNone dealing.before dealing.after × (handled.position ≡ None)

-- a line of text that is an AGG is answered by the table that its name means
abbrev pub AggsAreAnswered : ToolsOf → Type 0
AggsAreAnswered tools =
    (dealing : Dealing) (handled : Handled) (argument name : List ℕ)
    → Handles tools dealing handled
    → is_utf8 handled.line ≡ true → argument_of (codes "AGG") handled.line ≡ Some argument
    → Writes IsName argument name → AggIsAnswered dealing name handled
