-- What is seen goes on, whatever is replied.
use Rattle.std.proofs.Common.{◌≡◌, refl, sym, ap, subst, ℕ, List, [], append-nil, Option, Some, None, Result, Ok, Err, inl, inr}
use Rattle.olap_meaning.specs.declared.regions.Region.{Region}
use Rattle.olap_meaning.specs.Catalog.{find_agg, find_cube}
use Rattle.olap_meaning.specs.History.{Entry}
use Rattle.query_meaning.specs.declared.axes.Axes.{Axes}
use Rattle.query_meaning.specs.RegionMeaning.{RegionRefusal, flush_meant}
use Rattle.query_meaning.specs.RegionReplies.{cube_named}
use Rattle.query_meaning.specs.Resolution.{Refusal, axes_meant}
use Rattle.outside.specs.declared.depot.DepotRefusal.{DepotRefusal}
use Rattle.outside.specs.declared.depot.DepotRefusal.TheVariants as depot
use Rattle.command_arguments.specs.declared.append.AppendArgument.{AppendArgument}
use Rattle.input_lines.specs.Requests.{Request, NotText, Blank, NoCommand, Stops, Quit, After, Append, Ask, Flush, Agg, Show}
use Rattle.fact_rows.specs.BatchFiles.{batch_of}
use Rattle.fact_rows.specs.declared.fault.BatchFault.{BatchFault}
use Rattle.fact_versions.specs.FactRows.{FactRows}
use Rattle.history_core.specs.Cache.{CacheOf}
use Rattle.line_session.specs.Desks.{AddsNone, DeskOf, GoesOn, GoesOnBy}
use Rattle.line_session.specs.Replies.{AnswersAgg, AnswersAppend, AnswersFlush, AnswersMeaning, AnswersRequest, AnswersShow, AppendsFile, AppendsRows, Dealing, catalog_of}
use Rattle.line_session.specs.Tools.{ToolsOf}

-- a desk that was not asked goes on by nothing
pub stands : (desk : DeskOf) → GoesOnBy desk desk []
stands desk = record {
  cache = ap (λ (es : List Entry). let cache : CacheOf = record { setting = desk.cache.setting; entries = es } in cache) (sym (append-nil desk.cache.entries));
  seat = refl;
  alone = refl;
  own = λ _. refl;
}

pub adds_none : (desk : DeskOf) → AddsNone desk desk
adds_none desk = record { more = []; goes_on = stands desk; none = refl; fronts = refl }

pub same_goes_on : (before after : DeskOf) → after ≡ before → GoesOn before after
same_goes_on before after same = subst (GoesOn before) (sym same) ([], stands before)

none_goes_on : (before after : DeskOf) → AddsNone before after → GoesOn before after
none_goes_on before after adds = (adds.more, adds.goes_on)

meaning_goes_on : (tools : ToolsOf) (around : Dealing) (meaning : Result Axes Refusal) (position : Option ℕ) (reply : List ℕ) → AnswersMeaning tools around meaning position reply → GoesOn around.before around.after
meaning_goes_on tools around (Ok axes) position reply (inl grid) = (_, grid.asks.adds.goes_on)
meaning_goes_on tools around (Ok axes) position reply (inr none) = elim none.asks [
  | inl same ↦ same_goes_on around.before around.after same
  | inr asks ↦ (asks.more, asks.goes_on)
]
meaning_goes_on tools around (Err refused) position reply is = same_goes_on around.before around.after is.0.same

rows_go_on : (around : Dealing) (cube : ℕ) (read : Result FactRows BatchFault) (position : Option ℕ) (reply : List ℕ) → AppendsRows around cube read position reply → GoesOn around.before around.after
rows_go_on around cube (Ok rows) position reply (inl version) = (_, version.appends.adds.goes_on)
rows_go_on around cube (Ok rows) position reply (inr refuses) = none_goes_on around.before around.after refuses.adds
rows_go_on around cube (Err reason) position reply is = same_goes_on around.before around.after is.0

file_goes_on : (around : Dealing) (cube : ℕ) (file : List ℕ) (came : Result (List ℕ) DepotRefusal) (position : Option ℕ) (reply : List ℕ) → AppendsFile around cube file came position reply → GoesOn around.before around.after
file_goes_on around cube file (Ok bytes) position reply is = rows_go_on around cube (batch_of (catalog_of around.before) cube bytes) position reply is
file_goes_on around cube file (Err depot.Missing) position reply is = same_goes_on around.before around.after is.0
file_goes_on around cube file (Err depot.Failed) position reply is = same_goes_on around.before around.after is.0
file_goes_on around cube file (Err depot.OutOfMemory) position reply is = absurd is

append_goes_on : (around : Dealing) (argument : AppendArgument) (cube : Option ℕ) (position : Option ℕ) (reply : List ℕ) → AnswersAppend around argument cube position reply → GoesOn around.before around.after
append_goes_on around argument (Some cube) position reply (came, asks, inl appends) = file_goes_on around cube argument.file came position reply appends
append_goes_on around argument (Some cube) position reply (came, asks, inr lacks) = none_goes_on around.before around.after lacks.adds
append_goes_on around argument None position reply is = same_goes_on around.before around.after is.0.same

flush_goes_on : (around : Dealing) (cube : ℕ) (meant : Result Region RegionRefusal) (position : Option ℕ) (reply : List ℕ) → AnswersFlush around cube meant position reply → GoesOn around.before around.after
flush_goes_on around cube (Ok region) position reply (inl gives) = (_, gives.flushes.adds.goes_on)
flush_goes_on around cube (Ok region) position reply (inr lacks) = none_goes_on around.before around.after lacks.0.adds
flush_goes_on around cube (Err refused) position reply is = same_goes_on around.before around.after is.0.same

agg_goes_on : (around : Dealing) (name : List ℕ) (table : Option ℕ) (position : Option ℕ) (reply : List ℕ) → AnswersAgg around name table position reply → GoesOn around.before around.after
agg_goes_on around name (Some table) position reply (unasked, inl gives) = (_, gives.builds.adds.goes_on)
agg_goes_on around name (Some table) position reply (unasked, inr lacks) = none_goes_on around.before around.after lacks.adds
agg_goes_on around name None position reply is = same_goes_on around.before around.after is.0.same

show_goes_on : (around : Dealing) (position : Option ℕ) (reply : List ℕ) → AnswersShow around position reply → GoesOn around.before around.after
show_goes_on around position reply (unasked, inl gives) = (_, gives.shows.adds.goes_on)
show_goes_on around position reply (unasked, inr lacks) = none_goes_on around.before around.after lacks.adds

-- whatever a line asks for
pub request_goes_on : (tools : ToolsOf) (around : Dealing) (request : Request) (position : Option ℕ) (reply : List ℕ) → AnswersRequest tools around request position reply → GoesOn around.before around.after
request_goes_on tools around NotText position reply is = same_goes_on around.before around.after is.0.same
request_goes_on tools around Blank position reply is = same_goes_on around.before around.after is.0.same
request_goes_on tools around NoCommand position reply is = same_goes_on around.before around.after is.0.same
request_goes_on tools around (Stops byte) position reply is = same_goes_on around.before around.after is.0.same
request_goes_on tools around Quit position reply is = same_goes_on around.before around.after is.0.same
request_goes_on tools around (After n) position reply is = (is.fronts.more, is.fronts.goes_on)
request_goes_on tools around (Append argument) position reply is = append_goes_on around argument (find_cube (catalog_of around.before) argument.cube) position reply is
request_goes_on tools around (Ask query) position reply is = meaning_goes_on tools around (axes_meant (catalog_of around.before) query) position reply is.1
request_goes_on tools around (Flush text) position reply is =
    flush_goes_on around (cube_named (catalog_of around.before) text) (flush_meant (catalog_of around.before) text) position reply is
request_goes_on tools around (Agg name) position reply is = agg_goes_on around name (find_agg (catalog_of around.before) name) position reply is
request_goes_on tools around Show position reply is = show_goes_on around position reply is
