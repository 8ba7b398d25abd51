-- A run in which nothing has failed is complete.
use Rattle.std.proofs.Common.{◌≡◌, ◌≢◌, refl, sym, ap, subst, ◌∙◌, ℕ, ◌+◌, ◌≤◌, List, [], ◌∷◌, ◌++◌, Option, Some, None, Result, Ok, inl, inr, arith, append-nil}
use Rattle.std.specs.Prelude.{All, Err, IsSomeAnd, bytes_eq}
use Rattle.std.proofs.lemmas.Bool.{cases_Bool}
use Rattle.std.proofs.lemmas.List.{append_assoc, append_cancel_left}
use Rattle.std.proofs.lemmas.List.Elements.{All-cons, All-head, All-nil, All-tail}
use Rattle.olap_meaning.specs.Limits.{row_limit}
use Rattle.outside.specs.Event.{Event, gave, took, ended, gave_not, took_not}
use Rattle.outside.specs.Fetched.{Fetched}
use Rattle.outside.specs.Talks.{failures}
use Rattle.outside.specs.Told.{Files, IsOf, file_named}
use Rattle.outside.specs.declared.depot.DepotRefusal.TheVariants as depot
use Rattle.outside.specs.declared.source.Failed.{Failed}
use Rattle.outside.proofs.TalkFacts.{failures-append, failures_cut, failures_took}
use Rattle.query_meaning.specs.Replies.{no_memory_reply, too_long_reply}
use Rattle.input_lines.specs.Reader.{Heard, enough, at_end, spent, cut_off, Hears, known, beyond, over, ends, fails, piece, piece_beyond, Reading, Tells}
use Rattle.command_words.specs.Commands.{RunCommand, Run}
use Rattle.history_core.specs.History.{HistoryOf, setting_of}
use Rattle.cache_opening.specs.Asking.{Asking, Comes, Leads, value, refuses, found, missing, failed, wanting, unnamed, stopped}
use Rattle.cache_opening.specs.Opening.{Opening, in_files, opened_entries, opening_from, opening_of, rows_checked}
use Rattle.cache_opening.specs.Laws.{IsIn}
use Rattle.cache_opening.specs.declared.fault.OpenFault.{OpenFault}
use Rattle.cache_opening.specs.declared.fault.OpenFault.TheVariants as fault
use Rattle.cache_opening.proofs.LawFacts.{comes_in}
use Rattle.line_session.specs.Conversations as talk
use Rattle.line_session.specs.Conversations.{Converses, HasConversed, fresh, sent}
use Rattle.line_session.specs.Desks.{DeskOf}
use Rattle.line_session.specs.declared.end.SessionEnd.{SessionEnd}
use Rattle.line_session.specs.declared.end.SessionEnd.TheVariants as end
use Rattle.line_session.specs.Replies.{Handled}
use Rattle.line_session.specs.Tools.{ToolsOf}
use Rattle.line_session.specs.Sessions.{byte_limit}
use Rattle.line_session.proofs.Answered.{queries_answered}
use Rattle.olap_server.specs.Asked.{IsAsked}
use Rattle.olap_server.specs.Complete.{AnswersAs, HaveGrids, IsComplete, Runs, memory_replies, status_by_itself, unread_files}
use Rattle.olap_server.specs.Run.{Around, AskedTells, HasServed, IsLast, IsLastLine, OpeningTells, RunsSession, Tells as Told, cache_of, desk_over, with_answers}
use Rattle.olap_server.specs.Said.{Said, told_opening}
use Rattle.olap_server.specs.declared.status.Status.{Status}
use Rattle.olap_server.specs.declared.status.Status.TheVariants.{Done, Usage, Schema, Source, Sink, Memory, NoFile, Budget}
use Rattle.olap_server.specs.declared.words.Words.{Words}
use Rattle.olap_server.specs.declared.words.Words.TheVariants as words

-- where a reader hears a failure, one has passed
heard_failure : {before all : Reading} {events : List Event} {heard : Heard} → Hears before events all heard → heard ≡ cut_off → 1 ≤ failures events
heard_failure (known needs) is = absurd (cc is)
heard_failure (beyond needs some) is = absurd (cc is)
heard_failure (over needs none done) is = absurd (cc is)
heard_failure (ends needs may) is = absurd (cc is)
heard_failure (fails needs may) is = omega arith
heard_failure (piece bytes needs may some fit rest) is = heard_failure rest is
heard_failure (piece_beyond bytes last needs may fit rest) is = heard_failure rest is

told_failure : (before after : Reading) (events : List Event) (e : Failed) → Tells before events after (Err e) → 1 ≤ failures events
told_failure before after events e tells = by tells.heard refl
  where
    by : (h : Heard) → tells.heard ≡ h → 1 ≤ failures events
    by enough is = absurd (rw is at tells.answer)
    by at_end is = absurd (rw is at tells.answer)
    by spent is = absurd (rw is at tells.answer)
    by cut_off is = heard_failure tells.hears is

-- where the later of two has failed, both together have
last_failure : (es fs : List Event) → 1 ≤ failures fs → 1 ≤ failures (es ++ fs)
last_failure es fs some = omega (arith, failures-append es fs, some)

-- a session that a failure has ended has one in its talk
abbrev HasFailed : SessionEnd → List Event → Type 0
HasFailed end.ReceiveFault events = 1 ≤ failures events
HasFailed end.SendFault events = 1 ≤ failures events
HasFailed _ events = Unit {0}

later_failure : (e : SessionEnd) (es fs : List Event) → HasFailed e fs → HasFailed e (es ++ fs)
later_failure end.Quit es fs h = tt
later_failure end.EndOfInput es fs h = tt
later_failure end.LongLine es fs h = tt
later_failure end.Budget es fs h = tt
later_failure end.ReceiveFault es fs h = last_failure es fs h
later_failure end.SendFault es fs h = last_failure es fs h
later_failure end.Memory es fs h = tt

cut_failure : (reply : List ℕ) (events : List Event) → talk.IsCutOff reply events → 1 ≤ failures events
cut_failure reply events is = rw is.events_are (omega arith)

ended_failure : {tools : ToolsOf} {reading : Reading} {before after : DeskOf} {events : List Event} {asked : List Fetched} {handled : List Handled} {e : SessionEnd} → Converses tools reading before events asked handled after e → HasFailed e events
ended_failure (talk.turn {end = e} heard more asked later position reply read lines tells handles goes rest) = later_failure e (heard ++ sent reply) more (ended_failure rest)
ended_failure (talk.quits heard asked position reply read tells handles quitting) = tt
ended_failure (talk.cut_off heard last asked position reply read tells handles cut) = last_failure heard last (cut_failure reply last cut)
ended_failure (talk.too_long heard tells) = tt
ended_failure (talk.too_long_cut_off heard last tells cut) = last_failure heard last (cut_failure too_long_reply last cut)
ended_failure (talk.ends heard tells) = tt
ended_failure (talk.spends heard tells) = tt
ended_failure (talk.fails {reading = reading} {then = then} heard e tells) = told_failure reading then heard e tells

-- the last that is said never takes failures away, and a front of it is one more
line_failures : (last : Status) (text : List ℕ) (before after : List Event) (status : Status) → IsLastLine last text before after status → failures before ≤ failures after
line_failures last text before after status (inl (is, passed)) = omega (arith, ap failures passed, failures_took before text)
line_failures last text before after status (inr (is, front)) = omega (arith, ap failures front.passed, failures_cut before front.size text)

line_whole : (last : Status) (text : List ℕ) (before after : List Event) (status : Status) → IsLastLine last text before after status → failures after ≡ failures before → status ≡ last
line_whole last text before after status (inl (is, passed)) none = is
line_whole last text before after status (inr (is, front)) none = absurd (omega (arith, none, ap failures front.passed, failures_cut before front.size text))

-- more failures than before, and as many
more_than : (before middle after : List Event) (events : List Event) → middle ≡ before ++ events → 1 ≤ failures events → failures middle ≤ failures after → failures after ≡ failures before → ⊥
more_than before middle after events passed some grown none = omega (arith, ap failures passed, failures-append before events, some, grown, none)

-- what holds of each of a list holds of each of its front
front_all : {X : Type 0} (P : X → Type 0) (xs ys : List X) → All P (xs ++ ys) → All P xs
front_all P [] ys all = All-nil P
front_all P (x ∷ xs) ys all = All-cons P x xs (All-head P x (xs ++ ys) all) (front_all P xs ys (All-tail P x (xs ++ ys) all))

-- ---- replies that there was no memory

memory-append : (es fs : List Event) → memory_replies (es ++ fs) ≡ memory_replies es + memory_replies fs
memory-append [] fs = omega arith
memory-append (gave b ∷ es) fs = memory-append es fs
memory-append (took b ∷ es) fs = elim (cases_Bool (bytes_eq b no_memory_reply)) [
  | inl is ↦ rw is (omega (arith, memory-append es fs))
  | inr other ↦ rw other (memory-append es fs)
]
memory-append (ended ∷ es) fs = memory-append es fs
memory-append (gave_not ∷ es) fs = memory-append es fs
memory-append (took_not ∷ es) fs = memory-append es fs

-- more events have no fewer of them
memory_grows : (before after more : List Event) → after ≡ before ++ more → memory_replies before ≤ memory_replies after
memory_grows before after more is = omega (arith, ap memory_replies is, memory-append before more)

memory_sent : (reply : List ℕ) → reply ≡ no_memory_reply → 1 ≤ memory_replies (sent reply)
memory_sent reply is = subst (λ (r : List ℕ). 1 ≤ memory_replies (sent r)) (sym is) (omega arith)

-- ---- each query has its grid

have_grids : {tools : ToolsOf} {reading : Reading} {before after : DeskOf} {events : List Event} {asked : List Fetched} {handled : List Handled} {e : SessionEnd} → Converses tools reading before events asked handled after e → failures events ≡ 0 → memory_replies events ≡ 0 → HaveGrids tools before asked handled after
have_grids {tools} {reading} {before} (talk.turn {middle = middle} heard more asked later position reply read lines tells handles goes rest) none memory = (
  middle,
  asked,
  later,
  refl,
  handles,
  λ argument query axes utf8 command writes means. queries_answered tools _ _ argument query axes handles utf8 command writes means (λ is. omega (arith, memory, memory-append (heard ++ sent reply) more, memory-append heard (sent reply), memory_sent reply is)),
  have_grids rest (omega (arith, none, failures-append (heard ++ sent reply) more)) (omega (arith, memory, memory-append (heard ++ sent reply) more)),
)
have_grids {tools} {reading} {before} {after} (talk.quits heard asked position reply read tells handles quitting) none memory = (
  after,
  asked,
  [],
  sym (append-nil asked),
  handles,
  λ argument query axes utf8 command writes means. queries_answered tools _ _ argument query axes handles utf8 command writes means (λ is. omega (arith, memory, memory-append heard (sent reply), memory_sent reply is)),
  (refl, refl),
)
have_grids (talk.cut_off heard last asked position reply read tells handles cut) none memory = absurd (omega (arith, none, failures-append heard last, cut_failure reply last cut))
have_grids (talk.too_long heard tells) none memory = (refl, refl)
have_grids (talk.too_long_cut_off heard last tells cut) none memory = (refl, refl)
have_grids (talk.ends heard tells) none memory = (refl, refl)
have_grids (talk.spends heard tells) none memory = (refl, refl)
have_grids (talk.fails heard e tells) none memory = (refl, refl)

-- the last that is said after a session is not taken back
last_grows : (e : SessionEnd) (before after : List Event) (status : Status) → IsLast e before after status → (more : List Event) × (after ≡ before ++ more)
last_grows end.Quit before after status last = ([], last.1 ∙ sym (append-nil before))
last_grows end.EndOfInput before after status last = ([], last.1 ∙ sym (append-nil before))
last_grows end.LongLine before after status last = ([], last.1 ∙ sym (append-nil before))
last_grows end.Budget before after status (inl whole) = (_, whole.1)
last_grows end.Budget before after status (inr cut) = (_, cut.1.passed)
last_grows end.ReceiveFault before after status (inl whole) = (_, whole.1)
last_grows end.ReceiveFault before after status (inr cut) = (_, cut.1.passed)
last_grows end.SendFault before after status last = ([], last.1 ∙ sym (append-nil before))
last_grows end.Memory before after status last = absurd last

-- ---- what a depot could not read

unread-append : (xs ys : List Fetched) → unread_files (xs ++ ys) ≡ unread_files xs + unread_files ys
unread-append [] ys = omega arith
unread-append ((name, Ok bytes) ∷ xs) ys = unread-append xs ys
unread-append ((name, Err depot.Missing) ∷ xs) ys = unread-append xs ys
unread-append ((name, Err depot.Failed) ∷ xs) ys = omega (arith, unread-append xs ys)
unread-append ((name, Err depot.OutOfMemory) ∷ xs) ys = unread-append xs ys

-- where files make a value, an opening that has failed at its source could not read a file
source_fails : {A : Type 0} (all : Files) (x : A) {asking : Asking A} {answers : List Fetched} {outcome : Result A OpenFault} → Comes asking answers outcome → outcome ≡ Err fault.Source → All (IsOf all) answers → in_files all asking ≡ Ok x → 1 ≤ unread_files answers
source_fails all x value is theirs ok = absurd (cc is)
source_fails all x refuses is theirs ok = absurd (cc ok)
source_fails all x (found {name} {bytes} {rest} {answers} {outcome} h) is theirs ok =
    let here : file_named all name ≡ Some bytes = All-head (IsOf all) (name, Ok bytes) answers theirs in
    source_fails all x h is (All-tail (IsOf all) (name, Ok bytes) answers theirs) (rw here at ok)
source_fails all x missing is theirs ok = absurd (cc is)
source_fails all x failed is theirs ok = omega arith
source_fails all x wanting is theirs ok = absurd (cc is)
source_fails all x unnamed is theirs ok = absurd (cc is)
source_fails all x stopped is theirs ok = absurd (cc is)

-- ---- an opening of files without a fault

module _ (all : Files) (file : List ℕ) (opening : Opening) (ok : opening_of all file ≡ Ok opening) where
  -- is not refused, where each file could be read and there is memory
  fault_never : (reason : OpenFault) (answers : List Fetched) → Comes (opening_from file) answers (Err reason) → All (IsOf all) answers → unread_files answers ≡ 0 → reason ≢ fault.OutOfMemory → ⊥
  fault_never reason answers comes theirs none memory = by reason refl (comes_in all comes theirs)
    where
      by : (f : OpenFault) → reason ≡ f → IsIn all (opening_from file) (Err reason) → ⊥
      by (fault.NoFile n) is has = let same : opening_of all file ≡ Err (fault.NoFile n) = rw is at has in cc (sym ok ∙ same)
      by (fault.Schema r) is has = let same : opening_of all file ≡ Err (fault.Schema r) = rw is at has in cc (sym ok ∙ same)
      by (fault.Table n r) is has = let same : opening_of all file ≡ Err (fault.Table n r) = rw is at has in cc (sym ok ∙ same)
      by (fault.Batch n r) is has = let same : opening_of all file ≡ Err (fault.Batch n r) = rw is at has in cc (sym ok ∙ same)
      by (fault.TooManyRows n total limit) is has = let same : opening_of all file ≡ Err (fault.TooManyRows n total limit) = rw is at has in cc (sym ok ∙ same)
      by (fault.Aggregate n r) is has = let same : opening_of all file ≡ Err (fault.Aggregate n r) = rw is at has in cc (sym ok ∙ same)
      by fault.Source is has = let some = source_fails all opening comes (ap Err is) theirs ok in omega (arith, some, none)
      by fault.OutOfMemory is has = memory is

  -- what is opened is the opening of the files
  opened_is : (other : Opening) (answers : List Fetched) → Comes (opening_from file) answers (Ok other) → All (IsOf all) answers → other ≡ opening
  opened_is other answers comes theirs = let same : opening_of all file ≡ Ok other = comes_in all comes theirs in cc (sym same ∙ ok)

  -- so no status tells a fault of the opening
  opening_never : (files : Option Files) (before after : List Fetched) (status : Status) (text : List ℕ) → AnswersAs all before after → unread_files after ≡ unread_files before → status ≢ Memory → OpeningTells file files before after status text → ⊥
  opening_never files before after status text given none memory tells = by status refl tells
    where
      refused_never : (reason : OpenFault) (s : Status) → told_opening reason ≡ record { status = s; text = text } → s ≢ Memory → Leads files before after (opening_from file) (Err reason) → ⊥
      refused_never reason s told other leads =
          let same : leads.answers ≡ given.answers = append_cancel_left before leads.answers given.answers (sym leads.added ∙ given.added) in
          fault_never reason leads.answers leads.comes (subst (λ (given_as : List Fetched). All (IsOf all) given_as) (sym same) given.theirs)
          (omega (arith, none, ap unread_files leads.added, unread-append before leads.answers))
          (λ is. other (let here : told_opening fault.OutOfMemory ≡ record { status = s; text = text } = rw is at told in sym (ap (λ (x : Said). x.status) here)))

      by : (s : Status) → status ≡ s → OpeningTells file files before after status text → ⊥
      by Done is t = rw is at t
      by Usage is t = rw is at t
      by Schema is t = let (reason, told, leads) : OpeningTells file files before after Schema text = rw is at t in refused_never reason Schema told (λ e. cc e) leads
      by Source is t = let (reason, told, leads) : OpeningTells file files before after Source text = rw is at t in refused_never reason Source told (λ e. cc e) leads
      by Sink is t = rw is at t
      by Memory is t = memory is
      by NoFile is t = let (reason, told, leads) : OpeningTells file files before after NoFile text = rw is at t in refused_never reason NoFile told (λ e. cc e) leads
      by Budget is t = rw is at t

-- words ask for one command
same_command : (given : Words) (one other : RunCommand) → IsAsked given (Some (Run one)) → IsAsked given (Some (Run other)) → one ≡ other
same_command (words.Read given) one other first second = cc (first ∙ sym second)
same_command words.NotText one other first second = absurd (cc first)
same_command words.OutOfMemory one other first second = absurd first

-- a run that opens no cache has another cause
told_never :
    (given : Words) (files : Option Files) (all : Files) (command : RunCommand) (opening : Opening) (before after : List Fetched) (status : Status) (text : List ℕ) → IsAsked given (Some (Run command)) → AnswersAs all before after → opening_of all command.file ≡ Ok opening → unread_files after ≡ unread_files before → status ≢ Memory
    → Told given files before after status text → ⊥
told_never (words.Read given) files all command opening before after status text asks given_as ok none memory (inl tells) =
    opening_never all command.file opening ok files before after status text given_as none memory (subst (λ o. AskedTells o files before after status text) (sym asks) tells)
told_never (words.Read given) files all command opening before after status text asks given_as ok none memory (inr (may, tells)) = memory tells.1
told_never words.NotText files all command opening before after status text asks given_as ok none memory tells = absurd (cc asks)
told_never words.OutOfMemory files all command opening before after status text asks given_as ok none memory tells = absurd asks

-- ---- the whole

module _
    (tools : ToolsOf) (files : Option Files) (all : Files) (command : RunCommand) (opening : Opening) (start finish : Around) (steps_before steps_after : ℕ) (history : HistoryOf) (status : Status) (given : Words) (run : RunsSession tools given files start finish history status) (counted : steps_after ≡ steps_before + run.cost) (asks : IsAsked given (Some (Run command)))
    (given_as : AnswersAs all start.answers finish.answers) (ok : opening_of all command.file ≡ Ok opening) (none : failures finish.talk ≡ failures start.talk) (memory : status ≢ Memory) (replies : memory_replies finish.talk ≡ memory_replies start.talk) where
  same : run.command ≡ command
  same = same_command given run.command command run.asked asks

  module _ (served : HasServed tools files run.cache (cache_of history) (with_answers start run.answers) finish status run.read) where
    -- the opening's answers are the first
    first : given_as.answers ≡ run.opened.read.answers ++ served.asked
    first =
        append_cancel_left start.answers given_as.answers (run.opened.read.answers ++ served.asked)
        (sym given_as.added ∙ served.answered ∙ ap (λ (es : List Fetched). es ++ served.asked) run.opened.read.added ∙ append_assoc start.answers run.opened.read.answers served.asked)

    theirs : All (IsOf all) run.opened.read.answers
    theirs = front_all (IsOf all) run.opened.read.answers served.asked (subst (λ (es : List Fetched). All (IsOf all) es) first given_as.theirs)

    opened_same : run.opened.opening ≡ opening
    opened_same =
        opened_is all command.file opening ok run.opened.opening run.opened.read.answers
        (subst (λ (f : List ℕ). Comes (opening_from f) run.opened.read.answers (Ok run.opened.opening)) (ap (λ (c : RunCommand). c.file) same) run.opened.read.comes) theirs

    opening_read : Leads files start.answers run.answers (opening_from command.file) (Ok opening)
    opening_read =
        subst (λ (o : Opening). Leads files start.answers run.answers (opening_from command.file) (Ok o)) opened_same
        (subst (λ (c : RunCommand). Leads files start.answers run.answers (opening_from c.file) (Ok run.opened.opening)) same run.opened.read)

    grown : (more : List Event) × (finish.talk ≡ served.talk ++ more)
    grown = last_grows served.end served.talk finish.talk status served.last

    no_failures : failures served.conversed.events ≡ 0
    no_failures = omega (arith, none, ap failures grown.1, failures-append served.talk grown.0, ap failures served.conversed.passed, failures-append start.talk served.conversed.events)

    no_replies : memory_replies served.conversed.events ≡ 0
    no_replies = omega (arith, replies, ap memory_replies grown.1, memory-append served.talk grown.0, ap memory_replies served.conversed.passed, memory-append start.talk served.conversed.events)

    complete : status_by_itself served.end ≡ Some status → IsComplete tools command files opening start finish steps_before steps_after history status
    complete itself = record {
      cache = run.cache;
      setting = run.opened.setting ∙ ap (λ (o : Opening). setting_of o.catalog row_limit run.command.budget) opened_same ∙ ap (λ (c : RunCommand). setting_of opening.catalog row_limit c.budget) same;
      entries = run.opened.entries ∙ ap (λ (o : Opening). opened_entries o.batches o.tables) opened_same;
      begins = run.begins;
      answers = run.answers;
      read = opening_read;
      end = served.end;
      by_itself = itself;
      talk = served.talk;
      asked = served.conversed.asked;
      answered = served.conversed.answered;
      handled = served.handled;
      conversed = served.conversed;
      lines = served.served.lines;
      grids = have_grids served.conversed.converses no_failures no_replies;
      last = served.last;
      steps = let rows = ap (λ (o : Opening). rows_checked o.catalog o.batches) opened_same in omega (arith, counted, run.cost_is, rows, served.read_is);
    }

    by_end : (e : SessionEnd) → served.end ≡ e → HasConversed tools start.talk served.talk run.answers finish.answers files (fresh byte_limit) (desk_over run.cache) (desk_over (cache_of history)) e served.handled → IsLast e served.talk finish.talk status → IsComplete tools command files opening start finish steps_before steps_after history status
    by_end end.Quit is conversed last = complete (rw is (ap Some (sym last.0)))
    by_end end.EndOfInput is conversed last = complete (rw is (ap Some (sym last.0)))
    by_end end.LongLine is conversed last = complete (rw is (ap Some (sym last.0)))
    by_end end.Budget is conversed last = complete (rw is (ap Some (sym (line_whole Budget _ served.talk finish.talk status last (omega (arith, none, line_failures _ _ served.talk finish.talk status last, ap failures conversed.passed, failures-append start.talk conversed.events))))))
    by_end end.ReceiveFault is conversed last = absurd (more_than start.talk served.talk finish.talk conversed.events conversed.passed (ended_failure conversed.converses) (line_failures _ _ served.talk finish.talk status last) none)
    by_end end.SendFault is conversed last = absurd (more_than start.talk served.talk finish.talk conversed.events conversed.passed (ended_failure conversed.converses) (omega (arith, ap failures last.1)) none)
    by_end end.Memory is conversed last = absurd last

  pub session_complete : IsComplete tools command files opening start finish steps_before steps_after history status
  session_complete = elim run.ends [
    | inr begun ↦ absurd (memory (line_whole Memory _ start.talk finish.talk status begun.last none))
    | inl served ↦ by_end served served.end refl served.conversed served.last
  ]

pub run_complete :
    (tools : ToolsOf) (given : Words) (files : Option Files) (all : Files) (command : RunCommand) (opening : Opening) (start finish : Around) (steps_before steps_after : ℕ) (history : Option HistoryOf) (status : Status) → Runs tools given files start finish steps_before steps_after history status → IsAsked given (Some (Run command)) → AnswersAs all start.answers finish.answers → opening_of all command.file ≡ Ok opening → unread_files finish.answers ≡ unread_files start.answers
    → failures finish.talk ≡ failures start.talk → status ≢ Memory → memory_replies finish.talk ≡ memory_replies start.talk → IsSomeAnd history (λ history. IsComplete tools command files opening start finish steps_before steps_after history status)
run_complete tools given files all command opening start finish steps_before steps_after (Some history) status run asks given_as ok unread none memory replies = session_complete tools files all command opening start finish steps_before steps_after history status given run.0 run.1 asks given_as ok none memory replies
run_complete tools given files all command opening start finish steps_before steps_after None status run asks given_as ok unread none memory replies = by status refl
  where
    told : status ≢ Sink → ⊥
    told whole = let is = run.0 whole in told_never given files all command opening start.answers finish.answers status is.text asks given_as ok unread memory is.cause

    by : (s : Status) → status ≡ s → ⊥
    by Sink is = let cut = run.1 is in omega (arith, none, ap failures cut.written.passed, failures_cut start.talk cut.written.size cut.text)
    by Done is = told (λ e. cc (sym is ∙ e))
    by Usage is = told (λ e. cc (sym is ∙ e))
    by Schema is = told (λ e. cc (sym is ∙ e))
    by Source is = told (λ e. cc (sym is ∙ e))
    by Memory is = told (λ e. cc (sym is ∙ e))
    by NoFile is = told (λ e. cc (sym is ∙ e))
    by Budget is = told (λ e. cc (sym is ∙ e))
