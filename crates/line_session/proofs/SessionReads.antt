-- The lines of a session read few rows and groups.
use Rattle.std.proofs.Common.{◌≡◌, refl, sym, ◌∙◌, ap, ◌⊎◌, ℕ, ◌+◌, ◌≤◌, List, [], ◌∷◌, ◌++◌, All, Bool, true, false, bytes_eq, codes, filter, is_some, length, take, Option, Some, None, inl, inr, arith, if◌then◌else◌, length-append}
use Rattle.std.specs.Prelude.{sum}
use Rattle.std.specs.Option.{IsSome, option_map_or}
use Rattle.std.proofs.Math.Seq.{take-append_seam}
use Rattle.std.proofs.lemmas.List.Elements.{All-append, All-cons, All-nil, All-weaker}
use Rattle.std.proofs.lemmas.List.Sums.{sum_by-append, sum_by-cons}
use Rattle.olap_meaning.specs.Catalog.{find_agg}
use Rattle.olap_meaning.specs.declared.tables.Setting.{Setting}
use Rattle.olap_meaning.specs.History.{Entry}
use Rattle.query_meaning.specs.Replies.{no_memory_reply}
use Rattle.query_meaning.specs.Requests.{argument_of}
use Rattle.outside.specs.Fetched.{Fetched}
use Rattle.input_lines.specs.Requests.{Request, NotText, Blank, NoCommand, Stops, Quit, After, Append, Ask, Flush, Agg, Show, IsRequest}
use Rattle.installed_tables.specs.Installed.{present_rows}
use Rattle.history_core.specs.Cache.{CacheOf}
use Rattle.line_session.specs.Desks.{DeskOf, GoesOn}
use Rattle.line_session.specs.Replies.{AnswersAgg, AnswersLine, AnswersRequest, Dealing, Handled, Handles, IsRead, LeavesUnread, catalog_of, costs_of}
use Rattle.line_session.specs.Sessions.{AreOfVersion, IsSession, ReadsFew, is_agg_without_memory}
use Rattle.line_session.specs.Tools.{ToolsOf}
use Rattle.line_session.proofs.GoingOn.{request_goes_on, same_goes_on}
use Rattle.line_session.proofs.Replying.{between}
use Rattle.line_session.proofs.Rows.{costs_joined, on_and_on, same_setting}

-- what is seen goes on by a line
line_goes_on : (tools : ToolsOf) (around : Dealing) (handled : Handled) → Handles tools around handled → GoesOn around.before around.after
line_goes_on tools around handled handles = by handles.answers
  where
    by : AnswersLine tools around handled ⊎ LeavesUnread around handled → GoesOn around.before around.after
    by (inl line) = request_goes_on tools around line.request handled.position handled.reply line.answers
    by (inr unread) = same_goes_on around.before around.after unread.nothing.same

-- and by a session
session_goes_on : (tools : ToolsOf) (before after : DeskOf) (asked : List Fetched) (handled : List Handled) → IsSession tools before asked handled after → GoesOn before after
session_goes_on tools before after asked [] (same, none) = same_goes_on before after same
session_goes_on tools before after asked (one ∷ more) (middle, first, rest, is, handles, later) =
    on_and_on before middle after (line_goes_on tools (between before middle first) one handles) (session_goes_on tools middle after rest more later)

-- 1 for an AGG that found no memory, else 0
abbrev one_if : Bool → ℕ
one_if b = if b then 1 else 0

unbuilt_count : (one : Handled) (more : List Handled) → length (filter is_agg_without_memory (one ∷ more)) ≡ one_if (is_agg_without_memory one) + length (filter is_agg_without_memory more)
unbuilt_count one more = by (is_agg_without_memory one) refl
  where
    by : (b : Bool) → is_agg_without_memory one ≡ b → length (filter is_agg_without_memory (one ∷ more)) ≡ one_if (is_agg_without_memory one) + length (filter is_agg_without_memory more)
    by true is = rw is (omega arith)
    by false is = rw is (omega arith)

-- what a line reads: what its entries cost, and for an AGG that found no memory the rows of one version
record ReadsOne (around : Dealing) (one : Handled) : Type 0 where
  pub unbuilt : List ℕ
  pub each : length unbuilt ≤ one_if (is_agg_without_memory one)
  pub versions : All (λ rows. (table : ℕ) × (rows ≡ present_rows (catalog_of around.before) around.after.cache.entries table)) unbuilt
  pub at_most : one.read ≤ costs_of around + sum unbuilt

-- what its entries cost
reads_costs : (around : Dealing) (one : Handled) → one.read ≤ costs_of around → ReadsOne around one
reads_costs around one few = record { unbuilt = []; each = omega arith; versions = All-nil (λ rows. (table : ℕ) × (rows ≡ present_rows (catalog_of around.before) around.after.cache.entries table)); at_most = omega (arith, few) }

reads_none : (around : Dealing) (one : Handled) → one.read ≡ 0 → ReadsOne around one
reads_none around one none = reads_costs around one (omega (arith, none))

-- for an AGG, by the table of its name
agg_reads :
    (around : Dealing) (one : Handled) (name argument : List ℕ) (table : Option ℕ) → argument_of (codes "AGG") one.line ≡ Some argument → AnswersAgg around name table one.position one.reply → (IsSome one.position → one.read ≡ costs_of around)
    → one.read ≤ costs_of around + option_map_or (present_rows (catalog_of around.before) around.after.cache.entries) table 0 → ReadsOne around one
agg_reads around one name argument None command answers exact few = reads_costs around one (omega (arith, few))
agg_reads around one name argument (Some table) command (unasked, inl gives) exact few = reads_costs around one (let all = exact (ap is_some gives.position_is) in omega (arith, all))
agg_reads around one name argument (Some table) command (unasked, inr lacks) exact few =
    let rows : ℕ = present_rows (catalog_of around.before) around.after.cache.entries table in
    let P : ℕ → Type 0 = λ n. (t : ℕ) × (n ≡ present_rows (catalog_of around.before) around.after.cache.entries t) in
    let all = sum_by-cons (λ (n : ℕ). n) rows [] in
    record {
      unbuilt = rows ∷ [];
      each = is_one;
      versions = All-cons P rows [] (table, refl) (All-nil P);
      at_most = omega (arith, few, all);
    }
  where
    is_one : 1 ≤ one_if (is_agg_without_memory one)
    is_one =
        let has : is_some (argument_of (codes "AGG") one.line) ≡ true = ap is_some command in
        let told : bytes_eq one.reply no_memory_reply ≡ true = ap (λ (bytes : List ℕ). bytes_eq bytes no_memory_reply) lacks.no_memory in rw (has, told) (omega arith)

-- whatever a line asks for
request_reads : (tools : ToolsOf) (around : Dealing) (one : Handled) (request : Request) → IsRequest one.line request → AnswersRequest tools around request one.position one.reply → IsRead around request one.position one.read → ReadsOne around one
request_reads tools around one NotText asks answers reads = reads_none around one reads
request_reads tools around one Blank asks answers reads = reads_none around one reads
request_reads tools around one NoCommand asks answers reads = reads_none around one reads
request_reads tools around one (Stops byte) asks answers reads = reads_none around one reads
request_reads tools around one Quit asks answers reads = reads_none around one reads
request_reads tools around one (After n) asks answers reads = reads_none around one reads
request_reads tools around one (Append argument) asks answers reads = reads_none around one reads
request_reads tools around one (Ask query) asks answers reads = reads_costs around one reads.1
request_reads tools around one (Flush text) asks answers reads = reads_none around one reads
request_reads tools around one (Agg name) asks answers reads = agg_reads around one name asks.1.argument (find_agg (catalog_of around.before) name) asks.1.command answers reads.0 reads.1
request_reads tools around one Show asks answers reads = reads_none around one reads

line_reads : (tools : ToolsOf) (around : Dealing) (one : Handled) → Handles tools around one → ReadsOne around one
line_reads tools around one handles = by handles.answers
  where
    by : AnswersLine tools around one ⊎ LeavesUnread around one → ReadsOne around one
    by (inl line) = request_reads tools around one line.request line.asks line.answers line.reads
    by (inr unread) = reads_none around one unread.unread

-- a line, and then the others
reads_then : (before middle after : DeskOf) (asked first rest : List Fetched) (one : Handled) (more : List Handled) → GoesOn before middle → GoesOn middle after → ReadsOne (between before middle first) one → ReadsFew (between middle after rest) more → ReadsFew (between before after asked) (one ∷ more)
reads_then before middle after asked first rest one more begins goes here later = record {
  unbuilt = here.unbuilt ++ later.unbuilt;
  each = (
      let both = length-append here.unbuilt later.unbuilt in
      let count = unbuilt_count one more in
      let each_here = here.each in
      let each_later = later.each in omega (arith, both, count, each_here, each_later));
  versions = All-append (AreOfVersion around) here.unbuilt later.unbuilt (All-weaker Here (AreOfVersion around) first_of here.unbuilt here.versions) (All-weaker (AreOfVersion (between middle after rest)) (AreOfVersion around) later_of later.unbuilt later.versions);
  at_most = (
      let costs = costs_joined before middle after begins goes in
      let sums = sum_by-append (λ (n : ℕ). n) here.unbuilt later.unbuilt in
      let most_here = here.at_most in
      let most_later = later.at_most in
      let all = sum_by-cons (λ (h : Handled). h.read) one more in omega (arith, costs, sums, most_here, most_later, all));
}
  where
    around : Dealing
    around = between before after asked

    Here : ℕ → Type 0
    Here rows = (table : ℕ) × (rows ≡ present_rows (catalog_of before) middle.cache.entries table)

    grown : middle.cache.entries ≡ before.cache.entries ++ begins.0
    grown = ap (λ (cache : CacheOf). cache.entries) begins.1.cache

    grown_then : after.cache.entries ≡ middle.cache.entries ++ goes.0
    grown_then = ap (λ (cache : CacheOf). cache.entries) goes.1.cache

    no_fewer : length before.cache.entries ≤ length middle.cache.entries
    no_fewer =
        let size = ap length grown in
        let parts = length-append before.cache.entries begins.0 in omega (arith, size, parts)

    front_is : take (length middle.cache.entries) after.cache.entries ≡ middle.cache.entries
    front_is = ap (take (length middle.cache.entries)) grown_then ∙ take-append_seam middle.cache.entries goes.0

    first_of : (rows : ℕ) → Here rows → AreOfVersion around rows
    first_of rows (table, is) = (table, length middle.cache.entries, no_fewer, is ∙ ap (λ (es : List Entry). present_rows (catalog_of before) es table) (sym front_is))

    later_of : (rows : ℕ) → AreOfVersion (between middle after rest) rows → AreOfVersion around rows
    later_of rows (table, front, from, is) =
        (table, front, omega (arith, from, no_fewer), is ∙ ap (λ (s : Setting). present_rows s.catalog (take front after.cache.entries) table) (same_setting before middle begins))

-- a session
pub reads_few : (tools : ToolsOf) (before after : DeskOf) (asked : List Fetched) (handled : List Handled) → IsSession tools before asked handled after → ReadsFew (between before after asked) handled
reads_few tools before after asked [] (same, none) = record { unbuilt = []; each = omega arith; versions = All-nil (AreOfVersion (between before after asked)); at_most = omega arith }
reads_few tools before after asked (one ∷ more) (middle, first, rest, is, handles, later) =
    reads_then before middle after asked first rest one more (line_goes_on tools (between before middle first) one handles) (session_goes_on tools middle after rest more later) (line_reads tools (between before middle first) one handles) (reads_few tools middle after rest more later)
