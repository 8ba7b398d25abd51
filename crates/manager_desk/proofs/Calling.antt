-- What seat 1 has done at its manager, as a desk alone.
use Rattle.std.proofs.Common.{◌≡◌, refl, sym, ◌∙◌, ap, subst, ℕ, ◌+◌, ◌≤◌, List, [], ◌∷◌, ◌++◌, append_assoc, length, map, filter, Bool, true, false, ◌==◌, ◌||◌, inl, inr, Some, None, arith, All, if◌then◌else◌}
use Rattle.std.specs.Prelude.{nat_lt}
use Rattle.std.specs.List.{list_all}
use Rattle.std.proofs.lemmas.Bool.{and_from, and_parts, eq-eqb, lt-ltb, ltb-true, or_right}
use Rattle.std.proofs.lemmas.List.{append-nil}
use Rattle.std.proofs.lemmas.List.Elements.{All-append, All-cons, All-head, All-nil, All-tail, filter-append}
use Rattle.std.proofs.lemmas.List.Folds.{list_all-append}
use Rattle.olap_meaning.specs.declared.cells.Cell.{Cell}
use Rattle.olap_meaning.specs.declared.cells.Header.{Header}
use Rattle.olap_meaning.specs.declared.cells.Who.{Who}
use Rattle.olap_meaning.specs.declared.regions.Region.{Region}
use Rattle.olap_meaning.specs.declared.tables.Catalog.{Catalog}
use Rattle.olap_meaning.specs.declared.tables.Row.{Row}
use Rattle.olap_meaning.specs.declared.tables.Setting.{Setting}
use Rattle.olap_meaning.specs.Budget.{is_eviction, kept_groups}
use Rattle.olap_meaning.specs.History.{Entry, Append, Agg, Flush, Start, Done, Drop, Evict, Answer, Saw, is_some_and, started, version}
use Rattle.olap_meaning.specs.Legal.{caller, is_call_below, is_call_of, is_next_call, Legal}
use Rattle.fact_versions.specs.Facts.{append_fault}
use Rattle.history_core.specs.declared.answers.AggBuilt.{AggBuilt}
use Rattle.history_core.specs.declared.answers.Answer.{Answer as Told}
use Rattle.history_core.specs.declared.answers.Appended.{Appended}
use Rattle.history_core.specs.declared.answers.CacheView.{CacheView}
use Rattle.history_core.specs.Arrivals.{arrival_in}
use Rattle.history_core.specs.Cache.{CacheOf}
use Rattle.history_core.specs.Groups.{loads_with}
use Rattle.segment_header.specs.Widening.{Allowing}
use Rattle.history_core.specs.Seats.{NoneFlies, is_of_seat, entries_of}
use Rattle.history_core.specs.Shown.{cache_lines}
use Rattle.load_costs.specs.Costs.{seat_costs, version_rows}
use Rattle.installed_tables.specs.Installed.{groups_built, present_rows, present_version}
use Rattle.line_session.specs.Desks.{AddsAnswer as Answered, AddsCall, AreLoadsFor, DeskOf, GoesOnBy, HasAppended, HasAsked, HasBuilt, HasFlushed, HasNotAsked, HasShown, costs_between, delivered_with, drops_are_last, is_start_or_done, load_numbers, with_more}
use Rattle.line_session.proofs.Rows.{started_are}
use Rattle.manager_desk.specs.Delivered.{cost_by}
use Rattle.manager_desk.specs.Ends.{AddsAnswer, AddsEnded}
use Rattle.manager_desk.specs.Keeping.{IsDesk}
use Rattle.manager_desk.proofs.Counting.{count_one}
use Rattle.manager_desk.proofs.Joining.{parts_uncalled, same_cache}
use Rattle.manager_desk.proofs.Seeing.{still_idle}
use Rattle.manager_desk.proofs.Looks.{are_loads_for, look_parts, no_loads_for}
use Rattle.manager_desk.proofs.Own.{IsPartOf, delivered_all, dones_are_ends, own_entries, parts_all, parts_seat}

-- a cache as a desk that seat 1 has alone
abbrev pub desk_of : CacheOf → DeskOf
desk_of cache = record { cache = cache; seat = 1; alone = true; fronts = None }

-- an entry of seat 1, or an eviction
abbrev is_own : Entry → Bool
is_own entry = is_eviction entry || is_of_seat 1 entry

all_own : (more : List Entry) → All (λ e. is_of_seat 1 e ≡ true) more → list_all is_own more ≡ true
all_own [] own = refl
all_own (e ∷ es) own = and_from _ _ (or_right (is_eviction e) (is_of_seat 1 e) (All-head (λ o. is_of_seat 1 o ≡ true) e es own)) (all_own es (All-tail (λ o. is_of_seat 1 o ≡ true) e es own))

evictions_own : (js : List ℕ) → list_all is_own (map Evict js) ≡ true
evictions_own [] = refl
evictions_own (j ∷ js) = evictions_own js

-- what is seen goes on by such entries
goes_on_by : (before after : CacheOf) (more : List Entry) → after.setting ≡ before.setting → after.entries ≡ before.entries ++ more → list_all is_own more ≡ true → GoesOnBy (desk_of before) (desk_of after) more
goes_on_by before after more setting entries own = record {
  cache = same_cache after (with_more before more) setting entries;
  seat = refl;
  alone = refl;
  own = λ _. own;
}

-- what is seen goes on by entries of the seat
pub goes_on : (before after : CacheOf) (more : List Entry) → after.setting ≡ before.setting → after.entries ≡ before.entries ++ more → All (λ e. is_of_seat 1 e ≡ true) more → GoesOnBy (desk_of before) (desk_of after) more
goes_on before after more setting entries own = goes_on_by before after more setting entries (all_own more own)

-- an answer after entries of the seat, and after it evictions
adds_answered :
    (before after : CacheOf) (more : List Entry) (answer : Entry) (evicted : List ℕ) → after.setting ≡ before.setting → after.entries ≡ (before.entries ++ more) ++ answer ∷ map Evict evicted → kept_groups after.setting.catalog after.entries ≤ after.setting.budget
    → All (λ e. is_of_seat 1 e ≡ true) more → is_of_seat 1 answer ≡ true → Answered (desk_of before) (desk_of after) more answer
adds_answered before after more answer evicted setting entries within own last = record {
  evicted = evicted;
  goes_on =
      goes_on_by before after (more ++ answer ∷ map Evict evicted) setting (entries ∙ append_assoc before.entries more (answer ∷ map Evict evicted))
      (list_all-append is_own more (answer ∷ map Evict evicted) ∙ and_from _ _ (all_own more own) (and_from _ _ (or_right (is_eviction answer) (is_of_seat 1 answer) last) (evictions_own evicted)));
  within = within;
  fronts = refl;
}

-- a call after entries of the seat
pub adds_call :
    (before after : CacheOf) (more : List Entry) (call : Entry) → after.setting ≡ before.setting → after.entries ≡ (before.entries ++ more) ++ call ∷ [] → All (λ e. is_of_seat 1 e ≡ true) more → is_of_seat 1 call ≡ true
    → AddsCall (desk_of before) (desk_of after) more call
adds_call before after more call setting entries own last = record {
  goes_on =
      goes_on before after (more ++ call ∷ []) setting (entries ∙ append_assoc before.entries more (call ∷ []))
      (All-append (λ e. is_of_seat 1 e ≡ true) more (call ∷ []) own (All-cons (λ e. is_of_seat 1 e ≡ true) call [] last (All-nil (λ e. is_of_seat 1 e ≡ true))));
  fronts = refl;
}

module _ (allowing : Allowing) (before : CacheOf) (who : Who) (cells : List Cell) where
  delivered_parts : (headers : List Header) → All (IsPartOf who) (delivered_with before who cells headers)
  delivered_parts headers = look_parts before who cells headers (map (Done who) (load_numbers before cells)) (dones_are_ends who (load_numbers before cells))

  -- cells that were answered
  pub has_asked : (after : CacheOf) (answer : Told) → NoneFlies after.entries → who.seat ≡ 1 → AddsAnswer allowing before after who cells answer → HasAsked allowing (desk_of before) (desk_of after) cells answer
  has_asked after answer quiet seat adds =
      let more : List Entry = delivered_with before who cells adds.headers in
      let own : All (λ e. is_of_seat 1 e ≡ true) more = parts_seat who 1 more seat (delivered_parts adds.headers) in
      record {
        who = who;
        own = seat;
        more = more;
        adds = adds_answered before after more (Answer who answer.sources.value) adds.evicted adds.setting adds.entries adds.within own (eq-eqb who.seat 1 seat);
        loads = are_loads_for allowing before who cells adds.headers adds.allowed (map (Done who) (load_numbers before cells)) (dones_are_ends who (load_numbers before cells));
        delivered = ap (list_all is_start_or_done) (own_entries 1 more own) ∙ delivered_all who (loads_with before who cells adds.headers) (load_numbers before cells);
        alone = λ _. (adds.headers, adds.allowed, refl);
        answered = adds.answered;
        idle = λ j load at own. quiet j;
      }

  ended_parts : (after : CacheOf) (adds : AddsEnded allowing before after who cells) → All (IsPartOf who) adds.more
  ended_parts after adds = elim adds.ended [
    | inl none ↦ subst (λ (es : List Entry). All (IsPartOf who) es) (sym none) (All-nil (IsPartOf who))
    | inr some ↦ subst (λ (es : List Entry). All (IsPartOf who) es) (sym some.4) (look_parts before who cells some.0 some.2 some.3)
  ]

  ended_loads : (after : CacheOf) (adds : AddsEnded allowing before after who cells) → AreLoadsFor allowing before who cells adds.more
  ended_loads after adds = elim adds.ended [
    | inl none ↦ subst (λ (es : List Entry). AreLoadsFor allowing before who cells es) (sym none) (no_loads_for allowing before who cells)
    | inr some ↦ subst (λ (es : List Entry). AreLoadsFor allowing before who cells es) (sym some.4) (are_loads_for allowing before who cells some.0 some.1 some.2 some.3)
  ]

  -- cells that were not answered
  pub has_not_asked : (after : CacheOf) → NoneFlies after.entries → who.seat ≡ 1 → is_next_call before.entries who ≡ true → AddsEnded allowing before after who cells → HasNotAsked allowing (desk_of before) (desk_of after) cells
  has_not_asked after quiet seat next adds =
      let parts = ended_parts after adds in
      let own : All (λ e. is_of_seat 1 e ≡ true) adds.more = parts_seat who 1 adds.more seat parts in
      record {
        who = who;
        own = seat;
        next = next;
        more = adds.more;
        goes_on = goes_on before after adds.more adds.setting adds.entries own;
        fronts = refl;
        loads = ended_loads after adds;
        given_up = ap drops_are_last (own_entries 1 adds.more own) ∙ adds.given_up;
        idle = λ j load at own. quiet j;
        alone = λ _. adds.ended;
      }

-- where nothing was added, cells were not answered
pub nothing_asked : (allowing : Allowing) (cache : CacheOf) (who : Who) (cells : List Cell) → NoneFlies cache.entries → who.seat ≡ 1 → is_next_call cache.entries who ≡ true → HasNotAsked allowing (desk_of cache) (desk_of cache) cells
nothing_asked allowing cache who cells idle seat next = has_not_asked allowing cache who cells cache idle seat next (record { more = []; setting = refl; entries = sym (append-nil cache.entries); ended = inl refl; given_up = refl })

-- calls below a number are below a greater one
below_rises : (n m : ℕ) (entry : Entry) → n ≤ m → is_call_below n entry ≡ true → is_call_below m entry ≡ true
below_rises n m (Append who cube version rows) le below = lt-ltb who.call m (let l = ltb-true who.call n below in omega (arith, l, le))
below_rises n m (Agg who table v) le below = lt-ltb who.call m (let l = ltb-true who.call n below in omega (arith, l, le))
below_rises n m (Flush who region) le below = lt-ltb who.call m (let l = ltb-true who.call n below in omega (arith, l, le))
below_rises n m (Start load) le below = absurd (cc)
below_rises n m (Done who j) le below = absurd (cc)
below_rises n m (Drop who j) le below = absurd (cc)
below_rises n m (Evict j) le below = absurd (cc)
below_rises n m (Answer who cells) le below = lt-ltb who.call m (let l = ltb-true who.call n below in omega (arith, l, le))
below_rises n m (Saw who) le below = lt-ltb who.call m (let l = ltb-true who.call n below in omega (arith, l, le))

all_below : (n m : ℕ) (es : List Entry) → n ≤ m → list_all (is_call_below n) es ≡ true → list_all (is_call_below m) es ≡ true
all_below n m [] le all = refl
all_below n m (e ∷ es) le all = and_from _ _ (below_rises n m e le (and_parts _ _ all).0) (all_below n m es le (and_parts _ _ all).1)

-- the next call, where the entries that were added have no call beyond the last number
pub next_after : (before after more : List Entry) (seat n m : ℕ) → after ≡ before ++ more → n ≤ m → list_all (is_call_below m) (filter (is_call_of seat) more) ≡ true → is_next_call before (record { seat = seat; call = n }) ≡ true → is_next_call after (record { seat = seat; call = m }) ≡ true
next_after before after more seat n m grown le new next =
    ap (λ (es : List Entry). list_all (is_call_below m) (filter (is_call_of seat) es)) grown
    ∙ ap (list_all (is_call_below m)) (filter-append (is_call_of seat) before more)
    ∙ list_all-append (is_call_below m) (filter (is_call_of seat) before) (filter (is_call_of seat) more)
    ∙ and_from _ _ (all_below n m (filter (is_call_of seat) before) le next) new

-- after parts of loads it goes on, and after a call of the seat
pub next_parts : (before after more : List Entry) (who : Who) (seat n m : ℕ) → after ≡ before ++ more → n ≤ m → All (IsPartOf who) more → is_next_call before (record { seat = seat; call = n }) ≡ true → is_next_call after (record { seat = seat; call = m }) ≡ true
next_parts before after more who seat n m grown le parts next =
    next_after before after more seat n m grown le (ap (list_all (is_call_below m)) (parts_uncalled more seat (parts_all who more parts))) next

evictions_uncalled : (seat : ℕ) (js : List ℕ) → filter (is_call_of seat) (map Evict js) ≡ []
evictions_uncalled seat [] = refl
evictions_uncalled seat (j ∷ js) = evictions_uncalled seat js

-- and so after a call and then evictions
next_evicting :
    (before after : List Entry) (call : Entry) (evicted : List ℕ) (seat n m : ℕ) → after ≡ before ++ call ∷ map Evict evicted → n ≤ m → is_call_of seat call ≡ true → is_call_below m call ≡ true → is_next_call before (record { seat = seat; call = n }) ≡ true
    → is_next_call after (record { seat = seat; call = m }) ≡ true
next_evicting before after call evicted seat n m grown le own below next =
    let one : list_all (is_call_below m) (filter (is_call_of seat) (call ∷ map Evict evicted)) ≡ true = rw (own, evictions_uncalled seat evicted) (and_from _ _ below refl) in
    next_after before after (call ∷ map Evict evicted) seat n m grown le one next

pub next_call : (before after : List Entry) (call : Entry) (seat n m : ℕ) → after ≡ before ++ call ∷ [] → n ≤ m → is_call_of seat call ≡ true → is_call_below m call ≡ true → is_next_call before (record { seat = seat; call = n }) ≡ true → is_next_call after (record { seat = seat; call = m }) ≡ true
next_call before after call seat n m grown le own below next =
    let one : list_all (is_call_below m) (filter (is_call_of seat) (call ∷ [])) ≡ true = rw own (and_from _ _ below refl) in
    next_after before after (call ∷ []) seat n m grown le one next

-- the next call after cells were answered or not
pub next_answered : (allowing : Allowing) (before after : CacheOf) (who : Who) (cells : List Cell) (answer : Told) (last : ℕ) → who ≡ record { seat = 1; call = last + 1 } → AddsAnswer allowing before after who cells answer → is_next_call before.entries (record { seat = 1; call = last + 1 }) ≡ true
    → is_next_call after.entries (record { seat = 1; call = who.call + 1 }) ≡ true
next_answered allowing before after who cells answer last is adds next =
    let seat : who.seat ≡ 1 = ap (λ (w : Who). w.seat) is in
    let number : who.call ≡ last + 1 = ap (λ (w : Who). w.call) is in
    next_evicting (before.entries ++ delivered_with before who cells adds.headers) after.entries (Answer who answer.sources.value) adds.evicted 1 (last + 1) (who.call + 1) adds.entries (omega (arith, number)) (eq-eqb who.seat 1 seat)
    (lt-ltb who.call (who.call + 1) (omega arith))
    (next_parts before.entries (before.entries ++ delivered_with before who cells adds.headers) (delivered_with before who cells adds.headers) who 1 (last + 1) (last + 1) refl (omega arith) (delivered_parts allowing before who cells adds.headers) next)

pub next_refused : (allowing : Allowing) (before after : CacheOf) (who : Who) (cells : List Cell) (last : ℕ) → who ≡ record { seat = 1; call = last + 1 } → AddsEnded allowing before after who cells → is_next_call before.entries (record { seat = 1; call = last + 1 }) ≡ true
    → is_next_call after.entries (record { seat = 1; call = who.call + 1 }) ≡ true
next_refused allowing before after who cells last is adds next =
    let number : who.call ≡ last + 1 = ap (λ (w : Who). w.call) is in
    next_parts before.entries after.entries adds.more who 1 (last + 1) (who.call + 1) adds.entries (omega (arith, number)) (ended_parts allowing before who cells after adds) next

-- a seat that has done nothing has made no call
pub unused_next : (entries : List Entry) (call : ℕ) → entries_of entries 1 ≡ [] → is_next_call entries (record { seat = 1; call = call }) ≡ true
unused_next entries call unused = ap (list_all (is_call_below call)) (uncalled entries unused)
  where
    call_own : (e : Entry) → is_of_seat 1 e ≡ false → is_call_of 1 e ≡ false
    call_own (Append who cube version rows) other = other
    call_own (Agg who table v) other = other
    call_own (Flush who region) other = other
    call_own (Start load) other = refl
    call_own (Done who j) other = refl
    call_own (Drop who j) other = refl
    call_own (Evict j) other = refl
    call_own (Answer who cells) other = other
    call_own (Saw who) other = other

    uncalled : (es : List Entry) → entries_of es 1 ≡ [] → filter (is_call_of 1) es ≡ []
    uncalled [] none = refl
    uncalled (e ∷ es) none = by (is_of_seat 1 e) refl none (uncalled es)
      where
        by : (b : Bool) → is_of_seat 1 e ≡ b → entries_of (e ∷ es) 1 ≡ [] → (entries_of es 1 ≡ [] → filter (is_call_of 1) es ≡ []) → filter (is_call_of 1) (e ∷ es) ≡ []
        by true at some rest = let has : e ∷ entries_of es 1 ≡ [] = rw at at some in absurd (cc)
        by false at some rest = rw (call_own e at) (rest (rw at at some))

-- what a desk keeps, with a number that was given to a call which added nothing
pub desk_refused : (catalog : Catalog) (entries : List Entry) (who : Who) (last read : ℕ) → who ≡ record { seat = 1; call = last + 1 } → IsDesk catalog entries last read → IsDesk catalog entries who.call read
desk_refused catalog entries who last read is desk =
    let number : who.call ≡ last + 1 = ap (λ (w : Who). w.call) is in
    record {
      idle = desk.idle;
      next = next_parts entries entries [] who 1 (last + 1) (who.call + 1) (sym (append-nil entries)) (omega (arith, number)) (All-nil (IsPartOf who)) desk.next;
      count = desk.count;
    }

-- and after a call of the seat which starts, ends and delivers no load
desk_called :
    (before : CacheOf) (after : List Entry) (who : Who) (call : Entry) (last read : ℕ) → caller call ≡ Some who → started call ≡ None → cost_by before.setting.catalog after 1 call ≡ 0 → Legal before.setting before.entries → after ≡ before.entries ++ call ∷ [] → who ≡ record { seat = 1; call = last + 1 } → IsDesk before.setting.catalog before.entries last read
    → IsDesk before.setting.catalog after who.call read
desk_called before after who call last read calls starts none legal grown is desk =
    let seat : who.seat ≡ 1 = ap (λ (w : Who). w.seat) is in
    let number : who.call ≡ last + 1 = ap (λ (w : Who). w.call) is in
    let own : is_call_of 1 call ≡ true = ap (is_some_and (λ (w : Who). w.seat == 1)) calls ∙ eq-eqb who.seat 1 seat in
    let below : is_call_below (who.call + 1) call ≡ true = ap (is_some_and (λ (w : Who). nat_lt w.call (who.call + 1))) calls ∙ lt-ltb who.call (who.call + 1) (omega arith) in
    record {
      idle = still_idle before.entries after call starts grown desk.idle;
      next = next_call before.entries after call 1 (last + 1) (who.call + 1) grown (omega (arith, number)) own below desk.next;
      count = count_one before.setting before.entries after call read legal none grown desk.count;
    }

-- as an append, a flush, a table that is built and a look are
pub desk_appended :
    (before : CacheOf) (after : List Entry) (who : Who) (cube v : ℕ) (rows : List Row) (last read : ℕ) → Legal before.setting before.entries → after ≡ before.entries ++ Append who cube v rows ∷ [] → who ≡ record { seat = 1; call = last + 1 } → IsDesk before.setting.catalog before.entries last read
    → IsDesk before.setting.catalog after who.call read
desk_appended before after who cube v rows last read legal grown is desk = desk_called before after who (Append who cube v rows) last read refl refl refl legal grown is desk

pub desk_flushed : (before : CacheOf) (after : List Entry) (who : Who) (region : Region) (last read : ℕ) → Legal before.setting before.entries → after ≡ before.entries ++ Flush who region ∷ [] → who ≡ record { seat = 1; call = last + 1 } → IsDesk before.setting.catalog before.entries last read → IsDesk before.setting.catalog after who.call read
desk_flushed before after who region last read legal grown is desk = desk_called before after who (Flush who region) last read refl refl refl legal grown is desk

pub desk_built : (before : CacheOf) (after : List Entry) (who : Who) (table v last read : ℕ) → Legal before.setting before.entries → after ≡ before.entries ++ Agg who table v ∷ [] → who ≡ record { seat = 1; call = last + 1 } → IsDesk before.setting.catalog before.entries last read → IsDesk before.setting.catalog after who.call read
desk_built before after who table v last read legal grown is desk = desk_called before after who (Agg who table v) last read refl refl refl legal grown is desk

pub desk_shown : (before : CacheOf) (after : List Entry) (who : Who) (last read : ℕ) → Legal before.setting before.entries → after ≡ before.entries ++ Saw who ∷ [] → who ≡ record { seat = 1; call = last + 1 } → IsDesk before.setting.catalog before.entries last read → IsDesk before.setting.catalog after who.call read
desk_shown before after who last read legal grown is desk = desk_called before after who (Saw who) last read refl refl refl legal grown is desk

-- rows that were appended
pub has_appended :
    (before after : CacheOf) (who : Who) (cube : ℕ) (rows : List Row) (told : Appended) → who.seat ≡ 1 → after.setting ≡ before.setting → after.entries ≡ before.entries ++ Append who cube (version before.entries cube + 1) rows ∷ []
    → append_fault (arrival_in before cube rows) ≡ None → told.position ≡ length after.entries → told.version ≡ version after.entries cube → HasAppended (desk_of before) (desk_of after) cube rows told
has_appended before after who cube rows told seat setting grown admitted position version_is =
    let same : before ≡ with_more before [] = same_cache before (with_more before []) refl (sym (append-nil before.entries)) in
    record {
      who = who;
      own = seat;
      more = [];
      others = refl;
      adds =
          adds_call before after [] (Append who cube (version (before.entries ++ []) cube + 1) rows) setting (grown ∙ ap (λ (es : List Entry). es ++ Append who cube (version es cube + 1) rows ∷ []) (sym (append-nil before.entries)))
          (All-nil (λ e. is_of_seat 1 e ≡ true)) (eq-eqb who.seat 1 seat);
      admitted = ap (λ (cache : CacheOf). append_fault (arrival_in cache cube rows)) (sym same) ∙ admitted;
      position = position;
      version_is = version_is;
    }

-- a call of the seat, as the one entry that was added
adds_one : (before after : CacheOf) (call : Entry) → after.setting ≡ before.setting → after.entries ≡ before.entries ++ call ∷ [] → is_of_seat 1 call ≡ true → AddsCall (desk_of before) (desk_of after) [] call
adds_one before after call setting grown own =
    adds_call before after [] call setting (grown ∙ ap (λ (es : List Entry). es ++ call ∷ []) (sym (append-nil before.entries))) (All-nil (λ e. is_of_seat 1 e ≡ true)) own

-- a region that was flushed
pub has_flushed :
    (before after : CacheOf) (who : Who) (region : Region) (position : ℕ) → who.seat ≡ 1 → after.setting ≡ before.setting → after.entries ≡ before.entries ++ Flush who region ∷ [] → position ≡ length after.entries → HasFlushed (desk_of before) (desk_of after) region position
has_flushed before after who region position seat setting grown is = record {
  who = who;
  own = seat;
  more = [];
  others = refl;
  adds = adds_one before after (Flush who region) setting grown (eq-eqb who.seat 1 seat);
  position_is = is;
}

-- a table that was built
pub has_built :
    (before after : CacheOf) (who : Who) (table : ℕ) (built : AggBuilt) → who.seat ≡ 1 → after.setting ≡ before.setting → after.entries ≡ before.entries ++ Agg who table built.version ∷ [] → built.position ≡ length after.entries → built.version ≡ present_version before.setting.catalog before.entries table
    → built.groups ≡ groups_built after.setting.catalog after.entries table → HasBuilt (desk_of before) (desk_of after) table built
has_built before after who table built seat setting grown is version groups = record {
  who = who;
  own = seat;
  more = [];
  others = refl;
  adds = adds_one before after (Agg who table built.version) setting grown (eq-eqb who.seat 1 seat);
  version_is = version ∙ ap (λ (es : List Entry). present_version before.setting.catalog es table) (sym (append-nil before.entries));
  position_is = is;
  groups_are = groups ∙ ap (λ (s : Setting). groups_built s.catalog after.entries table) setting;
}

-- what that cost: the rows of the version
pub cost_built :
    (before after : CacheOf) (who : Who) (table v : ℕ) → who.seat ≡ 1 → after.entries ≡ before.entries ++ Agg who table v ∷ [] → v ≡ present_version before.setting.catalog before.entries table
    → costs_between (desk_of before) (desk_of after) ≡ present_rows before.setting.catalog before.entries table
cost_built before after who table v seat grown version =
    started_are catalog 1 before.entries after.entries (Agg who table v ∷ []) grown
    ∙ ap (λ (b : Bool). (if b then version_rows catalog before.entries table v else 0) + seat_costs catalog 1 (before.entries ++ Agg who table v ∷ []) []) (eq-eqb who.seat 1 seat)
    ∙ nothing_more (version_rows catalog before.entries table v)
    ∙ ap (version_rows catalog before.entries table) version
  where
    catalog : Catalog
    catalog = before.setting.catalog

    nothing_more : (n : ℕ) → n + 0 ≡ n
    nothing_more n = omega arith

-- what is kept was shown
pub has_shown :
    (before after : CacheOf) (who : Who) (view : CacheView) → who.seat ≡ 1 → after.setting ≡ before.setting → after.entries ≡ before.entries ++ Saw who ∷ [] → view.position ≡ length after.entries → view.lines ≡ cache_lines before.entries → HasShown (desk_of before) (desk_of after) view
has_shown before after who view seat setting grown is lines = record {
  who = who;
  own = seat;
  more = [];
  others = refl;
  adds = adds_one before after (Saw who) setting grown (eq-eqb who.seat 1 seat);
  position_is = is;
  lines = lines ∙ ap cache_lines (sym (append-nil before.entries));
}
