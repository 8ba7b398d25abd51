-- How a run ends, and what it tells.
use Rattle.std.proofs.Common.{◌≡◌, ◌≢◌, refl, sym, ◌∙◌, ap, subst, ℕ, List, Option, Some, None, IsSome, inl, inr, [], append-nil}
use Rattle.std.specs.Prelude.{Err, IfSome}
use Rattle.olap_meaning.specs.declared.tables.Setting.{Setting}
use Rattle.command_words.specs.Commands.{Command, Cell, Run}
use Rattle.olap_meaning.specs.History.{Entry}
use Rattle.outside.specs.Fetched.{Fetched}
use Rattle.outside.specs.Told.{Files}
use Rattle.cache_opening.specs.Asking.{Asking, Leads, stopped}
use Rattle.cache_opening.specs.Opening.{opening_from}
use Rattle.cache_opening.specs.declared.fault.OpenFault.{OpenFault}
use Rattle.cache_opening.specs.declared.fault.OpenFault.TheVariants as fault
use Rattle.cache_opening.proofs.LeadFacts.{none_theirs}
use Rattle.history_core.specs.History.{HistoryOf}
use Rattle.history_core.specs.Cache.{CacheOf}
use Rattle.line_session.specs.Desks.{GoesOn}
use Rattle.line_session.specs.Tools.{ToolsOf}
use Rattle.olap_server.specs.Asked.{IsAsked, MayLackMemory}
use Rattle.olap_server.specs.Run.{Around, AskedTells, BeginsWith, EndsRun, IsCutOff, IsLastLine, IsTold, OpeningTells, SayTells, ServesDesk, Tells, cache_of, desk_over}
use Rattle.olap_server.specs.Said.{Said, no_memory, told_opening}
use Rattle.olap_server.specs.declared.status.Status.{Status}
use Rattle.olap_server.specs.declared.status.Status.TheVariants.{Sink}
use Rattle.olap_server.specs.declared.words.Words.{Words}
use Rattle.olap_server.specs.declared.words.Words.TheVariants.{Read, NotText, OutOfMemory}

cache_is : (history : HistoryOf) (after : CacheOf) → history.setting ≡ after.setting → history.entries ≡ after.entries → cache_of history ≡ after
cache_is history after same entries =
    let with_entries : List Entry → CacheOf = λ es. record { setting = history.setting; entries = es } in
    let with_setting : Setting → CacheOf = λ s. record { setting = s; entries = after.entries } in
    ap with_entries entries ∙ ap with_setting same

-- a session over a cache is one over the cache of its history
pub ends_run : (tools : ToolsOf) (files : Option Files) (opened after : CacheOf) (history : HistoryOf) (start finish : Around) (status : Status) (read : ℕ) → history.setting ≡ after.setting → history.entries ≡ after.entries
    → ServesDesk tools files opened after start finish status read → EndsRun tools files opened history start finish status read
ends_run tools files opened after history start finish status read same entries serves = subst (λ (k : CacheOf). ServesDesk tools files opened k start finish status read) (sym (cache_is history after same entries)) serves

-- a history begins with that of the cache that its session has begun with
pub begins_with : (opened after : CacheOf) (history : HistoryOf) → history.setting ≡ after.setting → history.entries ≡ after.entries → GoesOn (desk_over opened) (desk_over after) → BeginsWith opened history
begins_with opened after history same entries (more, goes_on) = record {
  added = more;
  setting = same ∙ ap (λ (k : CacheOf). k.setting) goes_on.cache;
  entries = entries ∙ ap (λ (k : CacheOf). k.entries) goes_on.cache;
  own = goes_on.own refl;
}

-- there was no memory to begin
pub has_not_begun :
    (tools : ToolsOf) (files : Option Files) (opened after : CacheOf) (start finish : Around) (status : Status) (said : Said) → after ≡ opened → said ≡ no_memory → IsLastLine said.status said.text start.talk finish.talk status → finish.answers ≡ start.answers → finish.left ≡ start.left
    → ServesDesk tools files opened after start finish status 0
has_not_begun tools files opened after start finish status said unserved is last unasked unread =
    inr (record {
      same = unserved;
      last = subst (λ (s : Said). IsLastLine s.status s.text start.talk finish.talk status) is last;
      unasked = unasked;
      unread = unread;
      none_read = refl;
    })

-- what holds of a history by another thing that does
pub where_history : (o : Option HistoryOf) (P Q : HistoryOf → Type 0) → ((history : HistoryOf) → P history → Q history) → IfSome o P → IfSome o Q
where_history None P Q so first = tt
where_history (Some history) P Q so first = so history first

-- what holds of a history by two things that do
pub of_history : (o : Option HistoryOf) (P Q R : HistoryOf → Type 0) → ((history : HistoryOf) → P history → Q history → R history) → IfSome o P → IfSome o Q → IfSome o R
of_history None P Q R both first second = tt
of_history (Some history) P Q R both first second = both history first second

-- nothing was asked for, since there was no memory
leads_nowhere : {A : Type 0} (files : Option Files) (answers : List Fetched) (asking : Asking A) → Leads files answers answers asking (Err fault.OutOfMemory)
leads_nowhere files answers asking = record { answers = []; added = sym (append-nil answers); comes = stopped; theirs = none_theirs files }

-- what is told of a fault of the opening has its cause
opening_told : (file : List ℕ) (files : Option Files) (before after : List Fetched) (f : OpenFault) → Leads files before after (opening_from file) (Err f) → OpeningTells file files before after (told_opening f).status (told_opening f).text
opening_told file files before after (fault.NoFile name) leads = (fault.NoFile name, refl, leads)
opening_told file files before after (fault.Schema reason) leads = (fault.Schema reason, refl, leads)
opening_told file files before after (fault.Table name reason) leads = (fault.Table name reason, refl, leads)
opening_told file files before after (fault.Batch name reason) leads = (fault.Batch name reason, refl, leads)
opening_told file files before after (fault.TooManyRows name total limit) leads = (fault.TooManyRows name total limit, refl, leads)
opening_told file files before after (fault.Aggregate name reason) leads = (fault.Aggregate name reason, refl, leads)
opening_told file files before after fault.Source leads = (fault.Source, refl, leads)
opening_told file files before after fault.OutOfMemory leads = (fault.OutOfMemory, (λ e. absurd (cc e)), leads, refl)

-- and so has what is said of it
pub opening_tells : (file : List ℕ) (files : Option Files) (before after : List Fetched) (f : OpenFault) (said : Said) → Leads files before after (opening_from file) (Err f) → SayTells f said → OpeningTells file files before after said.status said.text
opening_tells file files before after f said leads (inl is) = subst (λ (s : Said). OpeningTells file files before after s.status s.text) (sym is) (opening_told file files before after f leads)
opening_tells file files before after f said leads (inr (is, other)) = subst (λ (s : Said). OpeningTells file files before after s.status s.text) (sym is) (f, other, leads, refl)

-- no command, and nothing else that is told, has the status of a failed send
asked_never : (command : Option Command) (files : Option Files) (before after : List Fetched) (text : List ℕ) → AskedTells command files before after Sink text → ⊥
asked_never None files before after text h = absurd (cc (h.1))
asked_never (Some (Cell command)) files before after text h = h
asked_never (Some (Run command)) files before after text h = h

-- what is told of words has a cause by what they ask for
pub by_asked : (words : Words) (command : Option Command) (files : Option Files) (before after : List Fetched) (status : Status) (text : List ℕ) → IsAsked words command → AskedTells command files before after status text → Tells words files before after status text
by_asked (Read given) command files before after status text asked tells = inl (subst (λ (o : Option Command). AskedTells o files before after status text) asked tells)
by_asked NotText command files before after status text asked tells = subst (λ (o : Option Command). AskedTells o files before after status text) asked tells
by_asked OutOfMemory command files before after status text asked tells = absurd asked

-- that there was no memory may be told of words that are a command line, or for which there was none
pub by_memory : (words : Words) (files : Option Files) (answers : List Fetched) → MayLackMemory words → Tells words files answers answers no_memory.status no_memory.text
by_memory (Read given) files answers (inl some) = inl (of _ some)
  where
    of : (command : Option Command) → IsSome command → AskedTells command files answers answers no_memory.status no_memory.text
    of None some = absurd (cc some)
    of (Some (Cell command)) some = record { asked = inl refl; line_is = refl }
    of (Some (Run command)) some = (fault.OutOfMemory, (λ e. absurd (cc e)), leads_nowhere files answers (opening_from command.file), refl)
by_memory (Read given) files answers (inr may) = inr (may, (refl, refl, refl))
by_memory NotText files answers may = absurd may
by_memory OutOfMemory files answers may = (refl, refl, refl)

-- whatever has a cause, it is not the status of a failed send
never_sink : (words : Words) (files : Option Files) (before after : List Fetched) (text : List ℕ) → Tells words files before after Sink text → ⊥
never_sink (Read given) files before after text (inl tells) = asked_never _ files before after text tells
never_sink (Read given) files before after text (inr (may, tells)) = absurd (cc (tells.1))
never_sink NotText files before after text tells = asked_never None files before after text tells
never_sink OutOfMemory files before after text tells = absurd (cc (tells.1))

no_sink : (words : Words) (files : Option Files) (before after : List Fetched) (said : Said) → Tells words files before after said.status said.text → said.status ≢ Sink
no_sink words files before after said tells sink = never_sink words files before after said.text (subst (λ (s : Status). Tells words files before after s said.text) sink tells)

-- what was to be said was said
pub is_told : (words : Words) (files : Option Files) (start finish : Around) (status : Status) (said : Said) → Tells words files start.answers finish.answers said.status said.text → IsLastLine said.status said.text start.talk finish.talk status → finish.left ≡ start.left → status ≢ Sink → IsTold words files start finish status
is_told words files start finish status said tells (inl (same, written)) unread whole = record { text = said.text; cause = subst (λ (s : Status). Tells words files start.answers finish.answers s said.text) (sym same) tells; written = written; unread = unread }
is_told words files start finish status said tells (inr (sink, front)) unread whole = absurd (whole sink)

-- or only a front of it
pub is_cut_off : (words : Words) (files : Option Files) (start finish : Around) (status : Status) (said : Said) → Tells words files start.answers finish.answers said.status said.text → IsLastLine said.status said.text start.talk finish.talk status → finish.left ≡ start.left → status ≡ Sink → IsCutOff words files start finish
is_cut_off words files start finish status said tells (inl (same, written)) unread sink = absurd (no_sink words files start.answers finish.answers said tells (sym same ∙ sink))
is_cut_off words files start finish status said tells (inr (failed, front)) unread sink = record { status = said.status; text = said.text; cause = tells; written = front; unread = unread }
