-- What an ask adds, joined from its looks and its loads.
use Rattle.std.proofs.Common.{◌≡◌, refl, sym, ◌∙◌, ap, subst, ℕ, suc, ◌+◌, ◌≤◌, List, [], ◌∷◌, ◌++◌, append_assoc, length, map, filter, true, false, not, ◌==◌, ◌⊎◌, inl, inr, None, arith, All}
use Rattle.std.specs.Prelude.{IsTrue, sum_by}
use Rattle.std.specs.List.{list_all, list_any}
use Rattle.std.proofs.lemmas.Bool.{and_parts, both_ways, eq-eqb, or_cases, or_from, or_left, or_right}
use Rattle.std.proofs.lemmas.List.{append-nil, length-append}
use Rattle.std.proofs.lemmas.List.Elements.{All-cons, All-contains, All-head, All-nil, All-tail, filter-append}
use Rattle.std.proofs.lemmas.List.Folds.{list_any-append}
use Rattle.olap_meaning.specs.declared.cells.Cell.{Cell}
use Rattle.olap_meaning.specs.declared.cells.CellSource.{CellSource}
use Rattle.olap_meaning.specs.declared.cells.Header.{Header}
use Rattle.olap_meaning.specs.declared.cells.Who.{Who}
use Rattle.olap_meaning.specs.declared.tables.Setting.{Setting}
use Rattle.olap_meaning.specs.Covering.{among}
use Rattle.olap_meaning.specs.History.{Entry, Append, Agg, Flush, Start, Done, Drop, Evict, Answer, Saw, Load, delivers, evicts, flushes, flying, kept, started}
use Rattle.olap_meaning.specs.Legal.{Legal, has_source, is_call_below, is_call_of, is_cell, is_next_call}
use Rattle.segment_load.specs.Loads.{JobOf, job_cost}
use Rattle.olap_meaning.proofs.Loads.{kept_from}
use Rattle.history_core.specs.declared.answers.Answer.{Answer as Told}
use Rattle.history_core.specs.Answers.{AddsEvicting, HasSource, IsAnswer, SomeWants, Waits}
use Rattle.history_core.specs.Cache.{CacheOf}
use Rattle.history_core.specs.Groups.{load_count, loads_with, numbers_from, wanted_of, wanting}
use Rattle.segment_header.specs.Widening.{Allowing}
use Rattle.history_core.specs.Seats.{NoneFlies}
use Rattle.cache_manager.specs.Jobs.{IsJobOf}
use Rattle.cache_manager.specs.Laws.{DeliveredLooksAreReady}
use Rattle.line_session.specs.Desks.{AreEnds, AreHeadersOf, delivered_with, is_of_load, load_numbers, costs_after, with_more}
use Rattle.manager_desk.specs.Ends.{AddsAnswer, AddsEnded, AreOut, EndsJobs, done_of}
use Rattle.manager_desk.proofs.Looks.{look_parts, starts_first}
use Rattle.manager_desk.proofs.Counting.{count_answer}
use Rattle.olap_meaning.proofs.Pushes.{flying_back}
use Rattle.manager_desk.proofs.Seeing.{all_evictions, idle_on, later_unevicted, no_loads_awaited, numbers_above, serving_headers}
use Rattle.manager_desk.specs.Keeping.{IsCount}
use Rattle.manager_desk.proofs.Own.{dones_of_call, ends_of_call, loads_counted, loads_own, parts_all}
use Rattle.line_session.proofs.Rows.{started_are}
use Rattle.load_costs.specs.Costs.{seat_costs}
use Rattle.load_costs.proofs.CostFacts.{costs-append}
use Rattle.manager_desk.proofs.Reading.{answer_costs_none, dones_cost_none, jobs_are}

-- after some Starts only their loads may fly, beside those that did
started_flying : (entries : List Entry) (loads : List Load) (n j : ℕ) → n ≡ length entries + 1 → flying (entries ++ map Start loads) j ≡ true → (flying entries j ≡ true) ⊎ (among (numbers_from n (length loads)) j ≡ true)
started_flying entries [] n j at h = inl (rw (append-nil entries) at h)
started_flying entries (load ∷ loads) n j at h =
    elim (started_flying (entries ++ Start load ∷ []) loads (suc n) j (let l = length-append entries (Start load ∷ []) in omega (arith, at, l)) (rw (append_assoc entries (Start load ∷ []) (map Start loads)) h)) [
      | inl flew ↦ elim (flying_back entries (Start load) j flew).1 [
        | inl old ↦ inl old
        | inr new ↦ inr (or_left _ _ (eq-eqb n j (let e : j ≡ suc (length entries) = new.0 in omega (arith, e, at))))
      ]
      | inr later ↦ inr (or_right _ _ later)
    ]

pub only_started : (entries after : List Entry) (loads : List Load) (jobs : List JobOf) → NoneFlies entries → after ≡ entries ++ map Start loads → map (λ job. job.load) jobs ≡ numbers_from (length entries + 1) (length loads) → AreOut after jobs
only_started entries after loads jobs idle grown numbers j h =
    elim (started_flying entries loads (length entries + 1) j refl (ap (λ (es : List Entry). flying es j) (sym grown) ∙ h)) [
      | inl old ↦ absurd (both_ways _ (idle j) old)
      | inr new ↦ ap (λ (ns : List ℕ). among ns j) numbers ∙ new
    ]

-- parts of loads are no calls
part_uncalled : (e : Entry) (seat : ℕ) → is_of_load e ≡ true → is_call_of seat e ≡ false
part_uncalled (Append w c v r) seat h = absurd (cc)
part_uncalled (Agg w t v) seat h = absurd (cc)
part_uncalled (Flush w r) seat h = absurd (cc)
part_uncalled (Start l) seat h = refl
part_uncalled (Done w j) seat h = refl
part_uncalled (Drop w j) seat h = refl
part_uncalled (Evict j) seat h = absurd (cc)
part_uncalled (Answer w cs) seat h = absurd (cc)
part_uncalled (Saw w) seat h = absurd (cc)

pub parts_uncalled : (more : List Entry) (seat : ℕ) → list_all is_of_load more ≡ true → filter (is_call_of seat) more ≡ []
parts_uncalled [] seat all = refl
parts_uncalled (e ∷ es) seat all = rw (part_uncalled e seat (and_parts _ _ all).0) (parts_uncalled es seat (and_parts _ _ all).1)

pub still_next : (before after more : List Entry) (who : Who) → after ≡ before ++ more → list_all is_of_load more ≡ true → is_next_call before who ≡ true → is_next_call after who ≡ true
still_next before after more who grown parts next =
    ap (λ (es : List Entry). is_next_call es who) grown
    ∙ ap (list_all (is_call_below who.call)) (filter-append (is_call_of who.seat) before more ∙ ap (λ (es : List Entry). filter (is_call_of who.seat) before ++ es) (parts_uncalled more who.seat parts) ∙ append-nil (filter (is_call_of who.seat) before))
    ∙ next

-- a cell has a source, or none
pub source_or_none : (cache : CacheOf) (cells : List Cell) → All (HasSource cache) cells → SomeWants cache cells → ⊥
source_or_none cache cells all wants = both_ways (has_source cache.setting.catalog cache.entries wants.0) wants.2 (All-contains (HasSource cache) cells wants.0 all wants.1)

pub served_or_not : (cache : CacheOf) (cells : List Cell) (loads : List ℕ) → All (HasSource cache) cells → Waits cache cells loads → ⊥
served_or_not cache cells loads all waits = both_ways (has_source cache.setting.catalog cache.entries waits.some.0) waits.some.2 (All-contains (HasSource cache) cells waits.some.0 all waits.some.1)

-- where each cell has a source, no load is missing
none_wanting : (cache : CacheOf) (cells : List Cell) → All (HasSource cache) cells → wanting cache.setting.catalog cache.entries cells ≡ []
none_wanting cache [] all = refl
none_wanting cache (cell ∷ cells) all =
    let here : not (has_source cache.setting.catalog cache.entries cell) ≡ false = ap not (All-head (HasSource cache) cell cells all) in
    rw here (none_wanting cache cells (All-tail (HasSource cache) cell cells all))

pub none_missing : (cache : CacheOf) (who : Who) (cells : List Cell) → All (HasSource cache) cells → loads_with cache who cells [] ≡ []
none_missing cache who cells all = rw (none_wanting cache cells all) refl

-- no header is wanted then
pub none_allowed : (allowing : Allowing) (cache : CacheOf) (cells : List Cell) → All (HasSource cache) cells → AreHeadersOf allowing cache cells []
none_allowed allowing cache cells all = rw (none_wanting cache cells all) tt

-- and none is started or delivered
none_delivered : (cache : CacheOf) (who : Who) (cells : List Cell) → All (HasSource cache) cells → delivered_with cache who cells [] ≡ []
none_delivered cache who cells all = rw (none_wanting cache cells all) refl

-- caches of the same setting and entries are the same
pub same_cache : (one other : CacheOf) → one.setting ≡ other.setting → one.entries ≡ other.entries → one ≡ other
same_cache one other setting entries =
    ap (λ (s : Setting). record { setting = s; entries = one.entries }) setting ∙ ap (λ (es : List Entry). record { setting = other.setting; entries = es }) entries

-- the answer to cells after the loads that they lack, each delivered
pub adds_answer :
    (allowing : Allowing) (before middle after : CacheOf) (who : Who) (cells : List Cell) (headers : List Header) (answer : Told) → AreHeadersOf allowing before cells headers → middle.setting ≡ before.setting → middle.entries ≡ before.entries ++ delivered_with before who cells headers
    → AddsEvicting middle after (Answer who answer.sources.value) → IsAnswer middle cells answer → AddsAnswer allowing before after who cells answer
adds_answer allowing before middle after who cells headers answer allowed same loaded adds is = record {
  headers = headers;
  allowed = allowed;
  evicted = adds.evicted;
  setting = adds.setting ∙ same;
  entries = adds.entries ∙ ap (λ (es : List Entry). es ++ Answer who answer.sources.value ∷ map Evict adds.evicted) loaded;
  within = adds.within;
  answered = subst (λ (cache : CacheOf). IsAnswer cache cells answer) (same_cache middle (with_more before (delivered_with before who cells headers)) same loaded) is;
}

-- an answer and evictions start no load, and cost nothing
pub idle_answered : (before after : CacheOf) (who : Who) (cells : List CellSource) → AddsEvicting before after (Answer who cells) → NoneFlies before.entries → NoneFlies after.entries
idle_answered before after who cells adds idle =
    subst NoneFlies (sym adds.entries)
    (idle_on before.entries (Answer who cells ∷ map Evict adds.evicted) (All-cons (λ e. started e ≡ None) (Answer who cells) (map Evict adds.evicted) refl (all_evictions (λ e. started e ≡ None) (λ j. refl) adds.evicted)) idle)

pub count_answered : (before after : CacheOf) (who : Who) (cells : List CellSource) (read : ℕ) → Legal before.setting before.entries → AddsEvicting before after (Answer who cells) → IsCount before.setting.catalog before.entries read → IsCount before.setting.catalog after.entries read
count_answered before after who cells read legal adds count = count_answer before.setting before.entries after.entries who cells adds.evicted read legal adds.entries count

pub cost_answered : (before after : CacheOf) (who : Who) (cells : List CellSource) → AddsEvicting before after (Answer who cells) → costs_after before.setting.catalog 1 before.entries after.entries ≡ 0
cost_answered before after who cells adds =
    started_are before.setting.catalog 1 before.entries after.entries (Answer who cells ∷ map Evict adds.evicted) adds.entries
    ∙ answer_costs_none before.setting.catalog before.entries who cells adds.evicted

-- where each cell has a source, the loads that they lack are there
pub none_lacking : (cache : CacheOf) (who : Who) (cells : List Cell) → All (HasSource cache) cells → cache.entries ≡ cache.entries ++ delivered_with cache who cells []
none_lacking cache who cells all = sym (ap (λ (es : List Entry). cache.entries ++ es) (none_delivered cache who cells all) ∙ append-nil cache.entries)

-- deliveries flush nothing, and deliver each of their loads
dones_flush_none : (cell : Cell) (who : Who) (ns : List ℕ) → list_any (flushes cell) (map (Done who) ns) ≡ false
dones_flush_none cell who [] = refl
dones_flush_none cell who (n ∷ ns) = dones_flush_none cell who ns

dones_deliver : (who : Who) (ns : List ℕ) (j : ℕ) → among ns j ≡ true → list_any (delivers j) (map (Done who) ns) ≡ true
dones_deliver who [] j h = h
dones_deliver who (n ∷ ns) j h = elim (or_cases (n == j) (among ns j) h) [ inl here ↦ or_left _ _ here | inr there ↦ or_right _ _ (dones_deliver who ns j there) ]

-- neither Starts nor deliveries evict a load
dones_evict_none : (j : ℕ) (who : Who) (ns : List ℕ) → list_any (evicts j) (map (Done who) ns) ≡ false
dones_evict_none j who [] = refl
dones_evict_none j who (n ∷ ns) = dones_evict_none j who ns

look_evicts_none : (j : ℕ) (loads : List Load) (who : Who) (ns : List ℕ) → list_any (evicts j) (map Start loads ++ map (Done who) ns) ≡ false
look_evicts_none j [] who ns = dones_evict_none j who ns
look_evicts_none j (load ∷ loads) who ns = look_evicts_none j loads who ns

dones_keep :
    (before : List Entry) (loads : List Load) (who : Who) (all ns : List ℕ) → ((j : ℕ) → among ns j ≡ true → list_any (evicts j) before ≡ false) → ((j : ℕ) → among ns j ≡ true → among all j ≡ true)
    → All (λ j. IsTrue (kept (before ++ (map Start loads ++ map (Done who) all)) j)) ns
dones_keep before loads who all [] stays into = All-nil _
dones_keep before loads who all (n ∷ ns) stays into =
    let here : among (n ∷ ns) n ≡ true = or_left _ _ (eq-eqb n n refl) in
    All-cons (λ j. IsTrue (kept (before ++ (map Start loads ++ map (Done who) all)) j)) n ns
    (kept_from (before ++ (map Start loads ++ map (Done who) all)) n
    (list_any-append (delivers n) before (map Start loads ++ map (Done who) all)
    ∙ or_right _ _ (list_any-append (delivers n) (map Start loads) (map (Done who) all) ∙ or_right _ _ (dones_deliver who all n (into n here))))
    (list_any-append (evicts n) before (map Start loads ++ map (Done who) all) ∙ or_from _ _ (stays n here) (look_evicts_none n loads who all)))
    (dones_keep before loads who all ns (λ j h. stays j (or_right (n == j) (among ns j) h)) (λ j h. into j (or_right (n == j) (among ns j) h)))

-- where the loads of a look were all delivered, each of its cells has a source: none was evicted before it was started
pub ready_again :
    (law : DeliveredLooksAreReady) (allowing : Allowing) (before after : CacheOf) (who : Who) (cells : List Cell) (headers : List Header) → AreHeadersOf allowing before cells headers → Legal before.setting before.entries → NoneFlies before.entries → list_all (is_cell before.setting.catalog) cells ≡ true
    → after.setting ≡ before.setting → after.entries ≡ before.entries ++ delivered_with before who cells headers → All (HasSource after) cells
ready_again law allowing before after who cells headers allowed legal idle known same grown =
    subst (λ (cache : CacheOf). All (HasSource cache) cells) (sym (same_cache after (with_more before (delivered_with before who cells headers)) same grown))
    (law before who cells headers (map (Done who) (load_numbers before cells)) known (serving_headers allowing before.setting.catalog (wanted_of before cells) headers allowed) (none cells) (λ j. dones_evict_none j who (load_numbers before cells))
    (dones_keep before.entries (loads_with before who cells headers) who (load_numbers before cells) (load_numbers before cells) stays (λ j h. h))
    (subst (All (λ j. IsTrue (kept (before.entries ++ (map Start (loads_with before who cells headers) ++ map (Done who) (load_numbers before cells))) j)))
    (sym (no_loads_awaited before.entries (wanting before.setting.catalog before.entries cells) idle)) (All-nil _)))
  where
    none : (some : List Cell) → All (λ cell. list_any (flushes cell) (map (Done who) (load_numbers before cells)) ≡ false) some
    none [] = All-nil _
    none (cell ∷ others) = All-cons (λ c. list_any (flushes c) (map (Done who) (load_numbers before cells)) ≡ false) cell others (dones_flush_none cell who (load_numbers before cells)) (none others)

    stays : (j : ℕ) → among (load_numbers before cells) j ≡ true → list_any (evicts j) before.entries ≡ false
    stays j h =
        let above : length before.entries + 1 ≤ j = numbers_above (length before.entries + 1) (load_count before cells) j h in
        later_unevicted before.setting before.entries j legal (omega (arith, above))

-- a look that has started its loads, and its jobs
pub record IsStarted (allowing : Allowing) (before middle : CacheOf) (who : Who) (cells : List Cell) (headers : List Header) (jobs : List JobOf) : Type 0 where
  pub allowed : AreHeadersOf allowing before cells headers
  pub setting : middle.setting ≡ before.setting
  pub entries : middle.entries ≡ before.entries ++ map Start (loads_with before who cells headers)
  pub numbers : map (λ job. job.load) jobs ≡ load_numbers before cells
  pub are : All (IsJobOf middle) jobs
  pub legal : Legal middle.setting middle.entries

module _ (allowing : Allowing) (before middle : CacheOf) (who : Who) (cells : List Cell) (headers : List Header) (jobs : List JobOf) (look : IsStarted allowing before middle who cells headers jobs) where
  -- the numbers of the jobs' loads, as many as there are loads
  pub numbers_are : map (λ job. job.load) jobs ≡ numbers_from (length before.entries + 1) (length (loads_with before who cells headers))
  numbers_are = look.numbers ∙ ap (numbers_from (length before.entries + 1)) (sym (loads_counted allowing before who cells headers look.allowed))

  -- of whose call the jobs are, and what they cost
  whole_jobs : All (λ job. job.who ≡ who) jobs × (who.seat ≡ 1 → sum_by job_cost jobs ≡ seat_costs middle.setting.catalog 1 before.entries (map Start (loads_with before who cells headers)))
  whole_jobs =
      jobs_are middle.setting before.entries (loads_with before who cells headers) jobs who (length before.entries + 1) refl numbers_are
      (subst (λ (es : List Entry). All (IsJobOf (record { setting = middle.setting; entries = es })) jobs) look.entries look.are) (loads_own before who cells headers)

  -- the jobs are of the call
  pub jobs_own : All (λ job. job.who ≡ who) jobs
  jobs_own = whole_jobs.0

  -- the ends of the jobs, after the Starts
  pub ended_added : (after : List Entry) (ended : EndsJobs middle.entries after jobs) → after ≡ before.entries ++ (map Start (loads_with before who cells headers) ++ ended.ends)
  ended_added after ended = ended.entries ∙ ap (λ (es : List Entry). es ++ ended.ends) look.entries ∙ append_assoc before.entries (map Start (loads_with before who cells headers)) ended.ends

  pub ended_are : (after : List Entry) (ended : EndsJobs middle.entries after jobs) → AreEnds who (load_numbers before cells) ended.ends
  ended_are after ended = subst (λ (ns : List ℕ). AreEnds who ns ended.ends) look.numbers (ends_of_call who jobs ended.ends jobs_own ended.are)

  -- the loads that were started and ended
  pub adds_ended : (after : CacheOf) → after.setting ≡ middle.setting → EndsJobs middle.entries after.entries jobs → AddsEnded allowing before after who cells
  adds_ended after same ended = record {
    more = map Start (loads_with before who cells headers) ++ ended.ends;
    setting = same ∙ look.setting;
    entries = ended_added after.entries ended;
    ended = inr (headers, look.allowed, ended.ends, ended_are after.entries ended, refl);
    given_up = starts_first (loads_with before who cells headers) ended.ends ended.given_up;
  }

  -- the next call stays the next
  pub next_again : (after : List Entry) → EndsJobs middle.entries after jobs → is_next_call before.entries who ≡ true → is_next_call after who ≡ true
  next_again after ended next =
      still_next before.entries after (map Start (loads_with before who cells headers) ++ ended.ends) who (ended_added after ended)
      (parts_all who (map Start (loads_with before who cells headers) ++ ended.ends) (look_parts before who cells headers ended.ends (ended_are after ended))) next

  -- the loads that were all delivered
  pub all_delivered : (after : List Entry) → after ≡ middle.entries ++ map done_of jobs → after ≡ before.entries ++ delivered_with before who cells headers
  all_delivered after ended =
      ended ∙ ap (λ (es : List Entry). es ++ map done_of jobs) look.entries ∙ append_assoc before.entries (map Start (loads_with before who cells headers)) (map done_of jobs)
      ∙ ap (λ (es : List Entry). before.entries ++ (map Start (loads_with before who cells headers) ++ es)) (dones_of_call who jobs jobs_own ∙ ap (map (Done who)) look.numbers)

  -- what the jobs cost, beside what came after the Starts
  cost_by_starts :
      (after rest : List Entry) → after ≡ middle.entries ++ rest → who.seat ≡ 1
      → costs_after before.setting.catalog 1 before.entries after ≡ sum_by job_cost jobs + seat_costs before.setting.catalog 1 middle.entries rest
  cost_by_starts after rest grown seat =
      let starts = map Start (loads_with before who cells headers) in
      let catalog = before.setting.catalog in
      let joined : after ≡ before.entries ++ (starts ++ rest) = grown ∙ ap (λ (es : List Entry). es ++ rest) look.entries ∙ append_assoc before.entries starts rest in
      started_are catalog 1 before.entries after (starts ++ rest) joined
      ∙ costs-append catalog 1 before.entries starts rest
      ∙ ap (λ (m : ℕ). m + seat_costs catalog 1 (before.entries ++ starts) rest) (ap (λ (s : Setting). seat_costs s.catalog 1 before.entries starts) (sym look.setting) ∙ sym (whole_jobs.1 seat))
      ∙ ap (λ (es : List Entry). sum_by job_cost jobs + seat_costs catalog 1 es rest) (sym look.entries)

  pub cost_ended : (after : List Entry) (ended : EndsJobs middle.entries after jobs) → who.seat ≡ 1 → costs_after before.setting.catalog 1 before.entries after ≡ sum_by job_cost jobs + seat_costs before.setting.catalog 1 middle.entries ended.ends
  cost_ended after ended seat = cost_by_starts after ended.ends ended.entries seat

  -- where they were all delivered and the cells were answered, it is just what the jobs cost
  pub cost_in_all :
      (done after : CacheOf) (cells : List CellSource) → who.seat ≡ 1 → done.entries ≡ middle.entries ++ map done_of jobs → AddsEvicting done after (Answer who cells)
      → costs_after before.setting.catalog 1 before.entries after.entries ≡ sum_by job_cost jobs
  cost_in_all done after cells seat delivered adds =
      let catalog = before.setting.catalog in
      let last = Answer who cells ∷ map Evict adds.evicted in
      let grown : after.entries ≡ (middle.entries ++ map done_of jobs) ++ last = adds.entries ∙ ap (λ (es : List Entry). es ++ last) delivered in
      let all = cost_by_starts after.entries (map done_of jobs ++ last) (grown ∙ append_assoc middle.entries (map done_of jobs) last) seat in
      let split = costs-append catalog 1 middle.entries (map done_of jobs) last in
      let nothing = answer_costs_none catalog (middle.entries ++ map done_of jobs) who cells adds.evicted in
      omega (arith, all, split, dones_cost_none catalog middle.entries jobs, nothing)
