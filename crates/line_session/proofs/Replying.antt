-- The reply to a query is the grid of its answer, its refusal, or that there was no memory.
use Rattle.std.proofs.Common.{◌≡◌, refl, sym, subst, ℕ, ◌⊎◌, List, [], Option, Some, None, Result, Ok, Err, inl, inr, arith}
use Rattle.std.specs.Prelude.{IfOk, MatchResult}
use Rattle.std.specs.Option.{IsSomeAnd}
use Rattle.std.proofs.lemmas.List.Elements.{All-nil}
use Rattle.olap_meaning.specs.declared.OutOfMemory.{OutOfMemory}
use Rattle.olap_meaning.specs.declared.cells.Cell.{Cell}
use Rattle.olap_meaning.specs.declared.tables.Catalog.{Catalog}
use Rattle.query_meaning.specs.declared.axes.Axes.{Axes}
use Rattle.query_meaning.specs.AxisCells.{cells_of}
use Rattle.query_meaning.specs.GridForm.{IsGridText, IsOfGrid}
use Rattle.query_meaning.specs.Grids.{grid_of}
use Rattle.query_meaning.specs.Replies.{no_memory_reply, refusal_reply}
use Rattle.query_meaning.specs.Resolution.{Refusal}
use Rattle.cell_request.specs.Faults.{refusal_of}
use Rattle.cell_request.specs.declared.fault.ResolveFault.{ResolveFault}
use Rattle.cell_request.specs.declared.fault.ResolveFault.TheVariants as fault
use Rattle.history_core.specs.declared.answers.Answer.{Answer}
use Rattle.result_layout.specs.Axes.{values_of}
use Rattle.outside.specs.Fetched.{Fetched}
use Rattle.outside.specs.Told.{AreTheirs, Files, IsOf}
use Rattle.line_session.specs.Desks.{DeskOf, HasAsked, HasNotAsked}
use Rattle.line_session.specs.Replies.{AnswersMeaning, AreCosts, Dealing, GivesGrid, IsGridOf, StandsStill}
use Rattle.line_session.specs.Tools.{ToolsOf}

abbrev pub between : DeskOf → DeskOf → List Fetched → Dealing
between before after asked = record { before = before; after = after; asked = asked }

pub stands_still : (desk : DeskOf) → StandsStill (between desk desk []) None
stands_still desk = record { same = refl; unasked = refl; none = refl }

-- where nothing was read, at most what the entries cost was
pub costs_nothing : (desk : DeskOf) → AreCosts (between desk desk []) None 0
costs_nothing desk = ((λ some. absurd (cc some)), omega arith)

-- a text that was made is written so, and has the form
grid_whole : (tools : ToolsOf) (catalog : Catalog) (axes : Axes) (answer : Answer) (made : Result (List ℕ) OutOfMemory) → IfOk made (IsGridText tools.texts (grid_of catalog axes answer.position (values_of answer.cells)))
    → IfOk made (λ text. IsOfGrid text (grid_of catalog axes answer.position (values_of answer.cells))) → IfOk made (λ text. IsGridOf tools catalog axes answer text)
grid_whole tools catalog axes answer (Ok text) written form = record { written = written; form = form }
grid_whole tools catalog axes answer (Err error) written form = tt

-- a text that was made of an answer is its grid; or there was no memory
grid_or_none : (tools : ToolsOf) (catalog : Catalog) (axes : Axes) (answer : Answer) (made : Result (List ℕ) OutOfMemory) (reply : List ℕ) → IfOk made (λ text. IsGridOf tools catalog axes answer text) → MatchResult made (λ text. reply ≡ text) (λ _. reply ≡ no_memory_reply)
    → IsGridOf tools catalog axes answer reply ⊎ (reply ≡ no_memory_reply)
grid_or_none tools catalog axes answer (Ok text) reply grid is = inl (subst (IsGridOf tools catalog axes answer) (sym is) grid)
grid_or_none tools catalog axes answer (Err error) reply grid is = inr is

-- cells were answered
pub gives_grid :
    (tools : ToolsOf) (before after : DeskOf) (known : Catalog) (axes : Axes) (cells : List Cell) (answer : Answer) (made : Result (List ℕ) OutOfMemory) (reply : List ℕ) → known ≡ before.cache.setting.catalog → cells ≡ cells_of known axes
    → HasAsked tools.allowed before after cells answer → IfOk made (IsGridText tools.texts (grid_of known axes answer.position (values_of answer.cells))) → IfOk made (λ text. IsOfGrid text (grid_of known axes answer.position (values_of answer.cells))) → MatchResult made (λ text. reply ≡ text) (λ _. reply ≡ no_memory_reply)
    → GivesGrid tools (between before after []) axes (Some answer.position) reply
gives_grid tools before after known axes cells answer made reply same are asked written form is =
    let Q : Catalog → Type 0 = λ c. HasAsked tools.allowed before after (cells_of c axes) answer in
    let R : Catalog → Type 0 = λ c. IfOk made (λ text. IsGridOf tools c axes answer text) in record {
      answer = answer;
      asks = subst Q same (subst (λ (cs : List Cell). HasAsked tools.allowed before after cs answer) are asked);
      position_is = refl;
      grid = grid_or_none tools before.cache.setting.catalog axes answer made reply (subst R same (grid_whole tools known axes answer made written form)) is;
    }

-- cells were not answered
pub gives_none :
    (tools : ToolsOf) (before after : DeskOf) (known : Catalog) (axes : Axes) (cells : List Cell) (reply : List ℕ) → known ≡ before.cache.setting.catalog → cells ≡ cells_of known axes
    → HasNotAsked tools.allowed before after cells → reply ≡ no_memory_reply → AnswersMeaning tools (between before after []) (Ok axes) None reply
gives_none tools before after known axes cells reply same are asked told =
    let Q : Catalog → Type 0 = λ c. HasNotAsked tools.allowed before after (cells_of c axes) in
    inr (record { asks = inr (subst Q same (subst (HasNotAsked tools.allowed before after) are asked)); none = refl; no_memory = told })

-- there was no memory for a query
pub lacks : (tools : ToolsOf) (desk : DeskOf) (meaning : Result Axes Refusal) (reply : List ℕ) → reply ≡ no_memory_reply → AnswersMeaning tools (between desk desk []) meaning None reply
lacks tools desk (Ok axes) reply told = inr (record { asks = inl refl; none = refl; no_memory = told })
lacks tools desk (Err refused) reply told = (stands_still desk, inr told)

-- a query means no axes, or there was no memory for it
pub no_axes :
    (tools : ToolsOf) (desk : DeskOf) (meaning : Result Axes Refusal) (why : ResolveFault) (reply : List ℕ) → (why ≡ fault.OutOfMemory) ⊎ IsSomeAnd (refusal_of why) (λ refused. meaning ≡ Err refused)
    → (reply ≡ no_memory_reply) ⊎ IsSomeAnd (refusal_of why) (λ refused. reply ≡ refusal_reply refused) → AnswersMeaning tools (between desk desk []) meaning None reply
no_axes tools desk meaning why reply is (inl told) = lacks tools desk meaning reply told
no_axes tools desk meaning why reply (inl memory) (inr told) = absurd (subst (λ (w : ResolveFault). IsSomeAnd (refusal_of w) (λ refused. reply ≡ refusal_reply refused)) memory told)
no_axes tools desk meaning why reply (inr is) (inr told) = by (refusal_of why) is told
  where
    by : (o : Option Refusal) → IsSomeAnd o (λ refused. meaning ≡ Err refused) → IsSomeAnd o (λ refused. reply ≡ refusal_reply refused) → AnswersMeaning tools (between desk desk []) meaning None reply
    by None i t = absurd i
    by (Some refused) i t = subst (λ (m : Result Axes Refusal). AnswersMeaning tools (between desk desk []) m None reply) (sym i) (stands_still desk, inl t)

-- nothing that was asked for is theirs
pub none_theirs : (files : Option Files) → AreTheirs files []
none_theirs None = tt
none_theirs (Some all) = All-nil (IsOf all)
