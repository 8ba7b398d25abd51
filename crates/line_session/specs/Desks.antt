-- A desk as contracts see it, and what its calls add to what its seat has seen.
use Rattle.std.specs.Prelude.{ℕ, ◌≡◌, ◌⊎◌, ◌+◌, ◌<◌, ◌≤◌, ⊤, List, [], ◌∷◌, ◌++◌, Bool, ◌||◌, true, false, Contains, Option, Some, None, drop, length, map, option_map, take, filter}
use Rattle.std.specs.List.{list_all}
use Rattle.olap_meaning.specs.declared.cells.Cell.{Cell}
use Rattle.olap_meaning.specs.declared.cells.Header.{Header}
use Rattle.olap_meaning.specs.declared.cells.Who.{Who}
use Rattle.olap_meaning.specs.declared.regions.Region.{Region}
use Rattle.olap_meaning.specs.declared.tables.Catalog.{Catalog}
use Rattle.olap_meaning.specs.declared.tables.Row.{Row}
use Rattle.olap_meaning.specs.History as history
use Rattle.olap_meaning.specs.History.{Entry, Start, Done, Drop, Load, load_at, version}
use Rattle.olap_meaning.specs.Budget.{is_eviction, kept_groups}
use Rattle.olap_meaning.specs.Legal.{is_next_call}
use Rattle.load_costs.specs.Costs.{seat_costs}
use Rattle.installed_tables.specs.Installed.{groups_built, present_version}
use Rattle.fact_versions.specs.Facts.{append_fault}
use Rattle.fact_versions.specs.declared.faults.AppendFault.{AppendFault}
use Rattle.fact_versions.specs.declared.faults.AppendFault.TheVariants as fault
use Rattle.history_core.specs.Answers.{IsAnswer}
use Rattle.history_core.specs.Arrivals.{arrival_in}
use Rattle.history_core.specs.Cache.{CacheOf}
use Rattle.history_core.specs.Groups.{AreHeadersFor, IsHeaderFor, alike, firsts, load_count, load_with, loads_with, numbers_from, wanted_of}
use Rattle.segment_header.specs.Widening.{Allowing}
use Rattle.history_core.specs.Seats.{SeatIsIdle, actor, entries_of, is_of_seat}
use Rattle.history_core.specs.Shown.{cache_lines}
use Rattle.history_core.specs.declared.answers.AggBuilt.{AggBuilt}
use Rattle.history_core.specs.declared.answers.Answer.{Answer}
use Rattle.history_core.specs.declared.answers.Appended.{Appended}
use Rattle.history_core.specs.declared.answers.CacheView.{CacheView}

-- a desk: what its seat has seen of a cache, the seat, whether nobody else adds entries, and the fronts that it has
-- read, oldest first, where it tells them
pub record DeskOf : Type 0 where
  pub cache : CacheOf
  pub seat : ℕ
  pub alone : Bool
  pub fronts : Option (List ℕ)

-- a cache to which these entries were added
abbrev pub with_more : CacheOf → List Entry → CacheOf
with_more cache more =
    record { setting = cache.setting; entries = cache.entries ++ more }

-- what is seen goes on by these entries; where nobody else adds any, each is the seat's, or an eviction
pub record GoesOnBy (before after : DeskOf) (more : List Entry) : Type 0 where
  pub cache : after.cache ≡ with_more before.cache more
  pub seat : after.seat ≡ before.seat
  pub alone : after.alone ≡ before.alone
  pub own : before.alone ≡ true
      → list_all (λ entry. is_eviction entry || is_of_seat before.seat entry) more ≡ true

-- what is seen goes on
abbrev pub GoesOn : DeskOf → DeskOf → Type 0
GoesOn before after = (more : List Entry) × GoesOnBy before after more

-- what is seen may have gone on, but by no entry of the seat, and no front was read
pub record AddsNone (before after : DeskOf) : Type 0 where
  pub more : List Entry
  pub goes_on : GoesOnBy before after more
  pub none : entries_of more before.seat ≡ []
  pub fronts : after.fronts ≡ before.fronts

-- a call of the seat was added after these entries, as the last that is seen
pub record AddsCall (before after : DeskOf) (more : List Entry) (call : Entry) : Type 0 where
  pub goes_on : GoesOnBy before after (more ++ call ∷ [])
  pub fronts : after.fronts ≡ before.fronts

-- an answer of the seat was added after these entries, and after it evictions alone, after which the kept loads have no
-- more groups than the budget
pub record AddsAnswer (before after : DeskOf) (more : List Entry) (answer : Entry) : Type 0 where
  pub evicted : List ℕ
  pub goes_on : GoesOnBy before after (more ++ answer ∷ map history.Evict evicted)
  pub within : kept_groups after.cache.setting.catalog after.cache.entries
      ≤ after.cache.setting.budget
  pub fronts : after.fronts ≡ before.fronts

-- no load of the seat flies in what is seen
abbrev pub IsIdle : DeskOf → Type 0
IsIdle desk = SeatIsIdle desk.cache.entries desk.seat

-- an entry is a part of a load: its Start or its end
abbrev pub is_of_load : Entry → Bool
is_of_load (Start load) = true
is_of_load (Done who load) = true
is_of_load (Drop who load) = true
is_of_load _ = false

-- an entry says that a load was given up
abbrev pub is_drop : Entry → Bool
is_drop (Drop who load) = true
is_drop _ = false

-- an entry is a Start, or says that a load was delivered
abbrev pub is_start_or_done : Entry → Bool
is_start_or_done (Start load) = true
is_start_or_done (Done who load) = true
is_start_or_done _ = false

-- after a load that was given up, loads are given up alone: none is started, and none is delivered
abbrev pub drops_are_last : List Entry → Bool
drops_are_last [] = true
drops_are_last (Drop who load ∷ entries) = list_all is_drop entries
drops_are_last (entry ∷ entries) = drops_are_last entries

-- a load is one that a look at some cells may start: that of one of their groups, with a header as may be allowed
pub record MayBeStarted (allowing : Allowing) (cache : CacheOf) (who : Who) (cells : List Cell)
    (load : Load) : Type 0 where
  pub first : Cell
  pub own : Contains (firsts [] (wanted_of cache cells)) first
  pub allowed : IsHeaderFor allowing cache.setting.catalog first
      (filter (alike first) (wanted_of cache cells)) load.header
  pub load_is : load ≡ load_with cache who first load.header

-- a load is one that a look at some cells may start over these entries
abbrev pub IsLoadOfLook : Allowing → CacheOf → List Entry → Who → List Cell → Load → Type 0
IsLoadOfLook allowing cache entries who cells load =
    MayBeStarted allowing
    (record { setting = cache.setting; entries = entries }) who cells load

-- the Start at a position is one of a look at some cells, after this many entries: that look gives it over what was
-- seen then, and since then there are only Starts of the same call
pub record IsOfLook (allowing : Allowing) (cache : CacheOf) (begun : ℕ) (who : Who)
    (cells : List Cell) (p : ℕ) (load : Load) : Type 0 where
  pub front : ℕ
  pub late : begun ≤ front
  pub earlier : front < p
  pub together : (q : ℕ) → front < q → q < p
      → (other : Load) × (load_at cache.entries q ≡ Some other) × (other.who ≡ who)
  pub given : IsLoadOfLook allowing cache (take front cache.entries) who cells load

-- the entries of a seat among some that were added are parts of loads for some cells, all of one call: each Start is
-- one of a look at just these cells
pub record AreLoadsFor (allowing : Allowing) (before : CacheOf) (who : Who) (cells : List Cell)
    (more : List Entry) : Type 0 where
  pub parts : list_all is_of_load (entries_of more who.seat) ≡ true
  pub call : (entry : Entry) → Contains (entries_of more who.seat) entry → actor entry ≡ Some who
  pub starts : (p : ℕ) (load : Load) → length before.entries < p
      → load_at (before.entries ++ more) p ≡ Some load → load.who ≡ who
      → IsOfLook allowing (with_more before more) (length before.entries) who cells p load

-- the numbers of the loads that some cells lack, in the order of their Starts
abbrev pub load_numbers : CacheOf → List Cell → List ℕ
load_numbers cache cells = numbers_from (length cache.entries + 1) (load_count cache cells)

-- the loads that some cells lack are started with these headers, and then delivered, each in its turn
abbrev pub delivered_with : CacheOf → Who → List Cell → List Header → List Entry
delivered_with cache who cells headers =
    map Start (loads_with cache who cells headers) ++ map (Done who) (load_numbers cache cells)

-- headers are those of the loads that some cells lack, as may be allowed
abbrev pub AreHeadersOf : Allowing → CacheOf → List Cell → List Header → Type 0
AreHeadersOf allowing cache cells headers =
    AreHeadersFor allowing cache.setting.catalog (wanted_of cache cells) headers

-- the loads that some cells lack are started, with headers as may be allowed, and then delivered, each in its turn
abbrev pub AreLoadsDelivered : Allowing → CacheOf → Who → List Cell → List Entry → Type 0
AreLoadsDelivered allowing cache who cells more =
    (headers : List Header) × AreHeadersOf allowing cache cells headers
    × (more ≡ delivered_with cache who cells headers)

-- AreEnds who numbers entries: these loads are ended, each in its turn: delivered, or given up
abbrev pub AreEnds : Who → List ℕ → List Entry → Type 0
AreEnds who [] [] = ⊤
AreEnds who (j ∷ js) (entry ∷ entries) =
    ((entry ≡ Done who j) ⊎ (entry ≡ Drop who j)) × AreEnds who js entries
AreEnds who numbers entries = ⊥

-- nothing is added, or the loads that some cells lack are started, with headers as may be allowed, and then each is
-- ended
abbrev pub AreLoadsEnded : Allowing → CacheOf → Who → List Cell → List Entry → Type 0
AreLoadsEnded allowing cache who cells more =
    (more ≡ [])
    ⊎ ((headers : List Header) × AreHeadersOf allowing cache cells headers
    × (ends : List Entry) × AreEnds who (load_numbers cache cells) ends
    × (more ≡ map Start (loads_with cache who cells headers) ++ ends))

-- cells were answered: the loads that they lack, each delivered, and then, as the last entry except for evictions, the
-- answer to the cells at that time, with the sources that it tells; no load of the seat flies. A desk alone starts the
-- loads of one look, and none where each cell has a source
pub record HasAsked (allowing : Allowing) (before after : DeskOf) (cells : List Cell)
    (answer : Answer) : Type 0 where
  pub who : Who
  pub own : who.seat ≡ before.seat
  pub more : List Entry
  pub adds : AddsAnswer before after more (history.Answer who answer.sources.value)
  pub loads : AreLoadsFor allowing before.cache who cells more
  pub delivered : list_all is_start_or_done (entries_of more before.seat) ≡ true
  pub alone : before.alone ≡ true → AreLoadsDelivered allowing before.cache who cells more
  pub answered : IsAnswer (with_more before.cache more) cells answer
  pub idle : IsIdle after

-- cells were not answered: at most loads that they lack were started, for the seat's next call, and no load of the seat
-- flies; after one that was given up the rest were given up
pub record HasNotAsked (allowing : Allowing) (before after : DeskOf)
    (cells : List Cell) : Type 0 where
  pub who : Who
  pub own : who.seat ≡ before.seat
  pub next : is_next_call before.cache.entries who ≡ true
  pub more : List Entry
  pub goes_on : GoesOnBy before after more
  pub fronts : after.fronts ≡ before.fronts
  pub loads : AreLoadsFor allowing before.cache who cells more
  pub given_up : drops_are_last (entries_of more before.seat) ≡ true
  pub idle : IsIdle after
  pub alone : before.alone ≡ true → AreLoadsEnded allowing before.cache who cells more

-- rows were appended to a cube: as the last entry, by the seat; it makes the cube's next version
pub record HasAppended (before after : DeskOf) (cube : ℕ) (rows : List Row)
    (told : Appended) : Type 0 where
  pub who : Who
  pub own : who.seat ≡ before.seat
  pub more : List Entry
  pub others : entries_of more before.seat ≡ []
  pub adds : AddsCall before after more
      (history.Append who cube (version (with_more before.cache more).entries cube + 1) rows)
  pub admitted : append_fault (arrival_in (with_more before.cache more) cube rows) ≡ None
  pub position : told.position ≡ length after.cache.entries
  pub version_is : told.version ≡ version after.cache.entries cube

-- rows were refused: the fault is true of what is seen then, or there was no memory
pub record HasNotAppended (before after : DeskOf) (cube : ℕ) (rows : List Row)
    (reason : AppendFault) : Type 0 where
  pub adds : AddsNone before after
  pub cause : (reason ≡ fault.OutOfMemory)
      ⊎ (append_fault (arrival_in after.cache cube rows) ≡ Some reason)

-- a region was flushed: as the last entry, by the seat, and none of its loads was started or ended for it
pub record HasFlushed (before after : DeskOf) (region : Region) (position : ℕ) : Type 0 where
  pub who : Who
  pub own : who.seat ≡ before.seat
  pub more : List Entry
  pub others : entries_of more before.seat ≡ []
  pub adds : AddsCall before after more (history.Flush who region)
  pub position_is : position ≡ length after.cache.entries

-- an aggregate table of the schema was built: as the last entry, by the seat, of the version that its cube had then, and it has
-- this many groups; none of the seat's loads was started or ended for it
pub record HasBuilt (before after : DeskOf) (table : ℕ) (built : AggBuilt) : Type 0 where
  pub who : Who
  pub own : who.seat ≡ before.seat
  pub more : List Entry
  pub others : entries_of more before.seat ≡ []
  pub adds : AddsCall before after more (history.Agg who table built.version)
  pub version_is : built.version
      ≡ present_version before.cache.setting.catalog (with_more before.cache more).entries table
  pub position_is : built.position ≡ length after.cache.entries
  pub groups_are : built.groups
      ≡ groups_built before.cache.setting.catalog after.cache.entries table

-- what is kept was shown: the look is the last entry, by the seat, and the lines are those of the entries before it
pub record HasShown (before after : DeskOf) (view : CacheView) : Type 0 where
  pub who : Who
  pub own : who.seat ≡ before.seat
  pub more : List Entry
  pub others : entries_of more before.seat ≡ []
  pub adds : AddsCall before after more (history.Saw who)
  pub position_is : view.position ≡ length after.cache.entries
  pub lines : view.lines ≡ cache_lines (with_more before.cache more).entries

-- the front was read: just this many entries are seen then, and none of them is a new one of the seat
pub record HasReadFront (before after : DeskOf) (front : ℕ) : Type 0 where
  pub more : List Entry
  pub goes_on : GoesOnBy before after more
  pub none : entries_of more before.seat ≡ []
  pub front_is : front ≡ length after.cache.entries
  pub fronts : after.fronts ≡ option_map (λ fronts. fronts ++ front ∷ []) before.fronts

-- what the entries after a history cost a seat: its loads, and the tables that it has built, each by the entries before it
abbrev pub costs_after : Catalog → ℕ → List Entry → List Entry → ℕ
costs_after catalog seat before after =
    seat_costs catalog seat before (drop (length before) after)

-- what the entries between two states cost a desk's seat
abbrev pub costs_between : DeskOf → DeskOf → ℕ
costs_between before after =
    costs_after before.cache.setting.catalog before.seat before.cache.entries after.cache.entries
