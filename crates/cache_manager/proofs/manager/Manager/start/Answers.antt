-- The Starts that were prepared are legal, and their jobs and flights are those of the history.
use Rattle.std.proofs.Common.{◌≡◌, ◌∙◌, ◌+◌, ◌++◌, List, [], ap, sym, subst, arith, length, map, true, not, is_some, All}
use Rattle.std.specs.List.{list_all}
use Rattle.std.proofs.lemmas.Simd.{map-map}
use Rattle.std.specs.Vec.{vec_len}
use Rattle.olap_meaning.specs.declared.cells.Header.{Header}
use Rattle.olap_meaning.specs.declared.tables.Setting.{Setting}
use Rattle.segment_load.specs.Loads.{JobOf}
use Rattle.segment_header.specs.contracts.widener.WidenerAllowsValues.TheImpl.{answers-value}
use Rattle.segment_header.specs.Widening.{Widened}
use Rattle.olap_meaning.specs.History.{Entry, Start, awaited_load}
use Rattle.olap_meaning.specs.Legal.{Legal, has_source, is_cell}
use Rattle.history_core.specs.Cache.{CacheOf}
use Rattle.history_core.specs.Groups.{AreHeadersFor, firsts, loads_over}
use Rattle.cell_groups.specs.Lent.{lent}
use Rattle.cache_manager.specs.Jobs.{IsJobOf}
use Rattle.cache_manager.specs.declared.starts.Planned.{Planned}
use Rattle.segment_index.specs.Index.{has_places}
use Rattle.cache_manager.specs.Kept.{headers_of}
use Rattle.cache_manager.specs.Plans.{AreLegalSteps, ArePrepared}
use Rattle.cache_manager.proofs.Ends.{cache_of}
use Rattle.cache_manager.proofs.Looking.{all_legal, jobs_started, manager_started, numbers_new}
use Rattle.cache_manager.proofs.Planning.{planned_numbers, planned_steps, prepared_formed, prepared_headers, step_of}
use Rattle.cache_manager.proofs.manager.Manager.start.Goals as goal

pub start_all-requires-clause-legal : goal.start_all-requires-clause-legal
start_all-requires-clause-legal g c =
    let legal : Legal c.args.self.now.setting c.args.self.now.entries = subst (λ (k : CacheOf). Legal k.setting k.entries) c.self.view_is c.steps_are_legal.ensures in
    rw (c.reserve-2.ensures.setting, c.reserve-2.ensures.entries)
    (subst (λ (k : CacheOf). AreLegalSteps k.setting k.entries (map step_of c.in_ok-plans.plans.items)) (sym c.self.view_is)
    (all_legal (Widened ((answers-value g.dyn-1).it c.args.widener.now)) c.args.self.now c.args.who (lent c.args.wanted.now) c.in_ok-plans.plans.items legal c.requires.known c.requires.unserved c.requires.unawaited c.in_ok-plans.ensures))

pub start_all-requires-clause-formed : goal.start_all-requires-clause-formed
start_all-requires-clause-formed g c =
    prepared_formed (Widened ((answers-value g.dyn-1).it c.args.widener.now)) c.args.self.now c.args.who (lent c.args.wanted.now) (length c.args.self.now.entries + 1) (firsts [] (lent c.args.wanted.now)) c.in_ok-plans.plans.items c.in_ok-plans.ensures

pub start_all-requires-clause-flights_new : goal.start_all-requires-clause-flights_new
start_all-requires-clause-flights_new g c =
    rw c.reserve.ensures.flights
    (numbers_new (Widened ((answers-value g.dyn-1).it c.args.widener.now)) (cache_of c.self.inside.history) c.args.who (lent c.args.wanted.now) c.in_ok-plans.plans.items c.steps_are_legal.ensures
    (subst (λ (k : CacheOf). list_all (is_cell k.setting.catalog) (lent c.args.wanted.now) ≡ true) (sym c.self.view_is) c.requires.known)
    (subst (λ (k : CacheOf). list_all (λ cell. not (has_source k.setting.catalog k.entries cell)) (lent c.args.wanted.now) ≡ true) (sym c.self.view_is) c.requires.unserved)
    (subst (λ (k : CacheOf). list_all (λ cell. not (is_some (awaited_load k.entries cell))) (lent c.args.wanted.now) ≡ true) (sym c.self.view_is) c.requires.unawaited)
    (subst (λ (k : CacheOf). ArePrepared (Widened ((answers-value g.dyn-1).it c.args.widener.now)) k c.args.who (lent c.args.wanted.now) (length k.entries + 1) (firsts [] (lent c.args.wanted.now)) c.in_ok-plans.plans.items) (sym c.self.view_is) c.in_ok-plans.ensures)
    c.self.inside.flights.flights c.self.invariant.flights_are)

pub invariant_of-self-2 : goal.invariant_of-self-2
invariant_of-self-2 g c =
    let many : length c.in_ok-plans.plans.items ≡ vec_len c.in_ok-plans.plans = sym c.in_ok-plans.plans.ok.0 in
    rw (c.start_all.ensures.setting, c.start_all.ensures.entries, c.start_all.ensures.flights, c.reserve-2.ensures.setting, c.reserve-2.ensures.entries, c.reserve.ensures.flights, c.reserve_places.ensures.loads, c.len-place.ensures, c.shut_list.ensures, c.reserve_places.ensures.flushed)
    (manager_started (Widened ((answers-value g.dyn-1).it c.args.widener.now)) (cache_of c.self.inside.history) c.args.who (lent c.args.wanted.now) c.in_ok-plans.plans.items c.steps_are_legal.ensures
    (subst (λ (k : CacheOf). list_all (is_cell k.setting.catalog) (lent c.args.wanted.now) ≡ true) (sym c.self.view_is) c.requires.known)
    (subst (λ (k : CacheOf). list_all (λ cell. not (has_source k.setting.catalog k.entries cell)) (lent c.args.wanted.now) ≡ true) (sym c.self.view_is) c.requires.unserved)
    (subst (λ (k : CacheOf). list_all (λ cell. not (is_some (awaited_load k.entries cell))) (lent c.args.wanted.now) ≡ true) (sym c.self.view_is) c.requires.unawaited)
    (subst (λ (k : CacheOf). ArePrepared (Widened ((answers-value g.dyn-1).it c.args.widener.now)) k c.args.who (lent c.args.wanted.now) (length k.entries + 1) (firsts [] (lent c.args.wanted.now)) c.in_ok-plans.plans.items) (sym c.self.view_is) c.in_ok-plans.ensures)
    c.self.inside.facts c.self.inside.shelf.flushed c.self.inside.shelf.loads c.self.inside.history.spare _ (has_places c.self.inside.shelf) (has_places c.reserve_places.new.shelf) c.self.inside.flights.flights _ c.self.invariant
    (omega (arith, many, c.start_all.ensures.spare, c.in_ok-reserve-2.ensures.ok, rw c.reserve.ensures.flights at c.in_ok-room_to_start.ensures, c.len-2.ensures))
    (subst (λ (plans : List Planned). has_places c.reserve_places.new.shelf (headers_of c.self.inside.flights.flights ++ map (λ p. p.flight.header) plans)) c.as_slice.ensures.value
    (c.in_default.ensures.ok (headers_of c.self.inside.flights.flights) c.self.invariant.places_fit)))

pub returns-clause-headers : goal.returns-clause-headers
returns-clause-headers g c =
    let jobs : c.from_vec.result ≡ map (λ p. p.job) c.in_ok-plans.plans.items =
    c.from_vec.ensures ∙ c.start_all.ensures.jobs ∙ ap (λ (js : List JobOf). js ++ map (λ p. p.job) c.in_ok-plans.plans.items) c.in_ok-jobs.ensures.items in
    subst (λ (headers : List Header). AreHeadersFor (Widened ((answers-value g.dyn-1).it c.args.widener.now)) c.args.self.now.setting.catalog (lent c.args.wanted.now) headers)
    (sym (ap (map (λ job. job.header)) jobs ∙ map-map (λ (job : JobOf). job.header) (λ (p : Planned). p.job) c.in_ok-plans.plans.items))
    (prepared_headers (Widened ((answers-value g.dyn-1).it c.args.widener.now)) c.args.self.now c.args.who (lent c.args.wanted.now) (length c.args.self.now.entries + 1) (firsts [] (lent c.args.wanted.now)) c.in_ok-plans.plans.items c.in_ok-plans.ensures)

pub returns-clause-entries : goal.returns-clause-entries
returns-clause-entries g c =
    let jobs : c.from_vec.result ≡ map (λ p. p.job) c.in_ok-plans.plans.items =
    c.from_vec.ensures ∙ c.start_all.ensures.jobs ∙ ap (λ (js : List JobOf). js ++ map (λ p. p.job) c.in_ok-plans.plans.items) c.in_ok-jobs.ensures.items in
    c.start_all.ensures.entries ∙ ap (λ (es : List Entry). es ++ map step_of c.in_ok-plans.plans.items) (c.reserve-2.ensures.entries ∙ ap (λ (k : CacheOf). k.entries) c.self.view_is)
    ∙ ap (λ (steps : List Entry). c.args.self.now.entries ++ steps)
    (planned_steps (Widened ((answers-value g.dyn-1).it c.args.widener.now)) c.args.self.now c.args.who (lent c.args.wanted.now) (length c.args.self.now.entries + 1) (firsts [] (lent c.args.wanted.now)) c.in_ok-plans.plans.items c.in_ok-plans.ensures
    ∙ ap (λ (headers : List Header). map Start (loads_over c.args.self.now c.args.who (firsts [] (lent c.args.wanted.now)) headers)) (sym (ap (map (λ job. job.header)) jobs ∙ map-map (λ (job : JobOf). job.header) (λ (p : Planned). p.job) c.in_ok-plans.plans.items)))

pub returns-clause-numbers : goal.returns-clause-numbers
returns-clause-numbers g c =
    let jobs : c.from_vec.result ≡ map (λ p. p.job) c.in_ok-plans.plans.items =
    c.from_vec.ensures ∙ c.start_all.ensures.jobs ∙ ap (λ (js : List JobOf). js ++ map (λ p. p.job) c.in_ok-plans.plans.items) c.in_ok-jobs.ensures.items in
    rw jobs (planned_numbers (Widened ((answers-value g.dyn-1).it c.args.widener.now)) c.args.self.now c.args.who (lent c.args.wanted.now) (length c.args.self.now.entries + 1) (firsts [] (lent c.args.wanted.now)) c.in_ok-plans.plans.items c.in_ok-plans.ensures)

pub returns-clause-jobs : goal.returns-clause-jobs
returns-clause-jobs g c =
    let legal : Legal c.args.self.now.setting c.args.self.now.entries = subst (λ (k : CacheOf). Legal k.setting k.entries) c.self.view_is c.steps_are_legal.ensures in
    let jobs : c.from_vec.result ≡ map (λ p. p.job) c.in_ok-plans.plans.items =
    c.from_vec.ensures ∙ c.start_all.ensures.jobs ∙ ap (λ (js : List JobOf). js ++ map (λ p. p.job) c.in_ok-plans.plans.items) c.in_ok-jobs.ensures.items in
    let settings : c.start_all.new.history.setting ≡ c.args.self.now.setting = c.start_all.ensures.setting ∙ c.reserve-2.ensures.setting ∙ ap (λ (k : CacheOf). k.setting) c.self.view_is in
    let entries : c.start_all.new.history.entries ≡ c.args.self.now.entries ++ map step_of c.in_ok-plans.plans.items =
    c.start_all.ensures.entries ∙ ap (λ (es : List Entry). es ++ map step_of c.in_ok-plans.plans.items) (c.reserve-2.ensures.entries ∙ ap (λ (k : CacheOf). k.entries) c.self.view_is) in
    subst (λ (js : List JobOf). All (IsJobOf (record { setting = c.start_all.new.history.setting; entries = c.start_all.new.history.entries })) js) (sym jobs)
    (subst (λ (s : Setting). All (IsJobOf (record { setting = s; entries = c.start_all.new.history.entries })) (map (λ p. p.job) c.in_ok-plans.plans.items)) (sym settings)
    (subst (λ (es : List Entry). All (IsJobOf (record { setting = c.args.self.now.setting; entries = es })) (map (λ p. p.job) c.in_ok-plans.plans.items)) (sym entries)
    (jobs_started (Widened ((answers-value g.dyn-1).it c.args.widener.now)) c.args.self.now c.args.who (lent c.args.wanted.now) c.in_ok-plans.plans.items legal c.requires.known c.requires.unserved c.requires.unawaited c.in_ok-plans.ensures)))
