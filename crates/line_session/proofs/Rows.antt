-- What entries cost a seat: first, and then.
use Rattle.std.proofs.Common.{◌≡◌, sym, ◌∙◌, ap, ℕ, ◌+◌, Bool, ◌||◌, List, ◌++◌, append_assoc, drop, length}
use Rattle.std.specs.List.{list_all}
use Rattle.std.proofs.lemmas.Bool.{and_from}
use Rattle.std.proofs.lemmas.List.Folds.{list_all-append}
use Rattle.std.proofs.Math.Seq.{drop-append_seam}
use Rattle.olap_meaning.specs.declared.tables.Catalog.{Catalog}
use Rattle.olap_meaning.specs.declared.tables.Setting.{Setting}
use Rattle.olap_meaning.specs.Budget.{is_eviction}
use Rattle.olap_meaning.specs.History.{Entry}
use Rattle.load_costs.specs.Costs.{seat_costs}
use Rattle.load_costs.proofs.CostFacts.{costs-append}
use Rattle.history_core.specs.Seats.{is_of_seat}
use Rattle.history_core.specs.Cache.{CacheOf}
use Rattle.line_session.specs.Desks.{DeskOf, GoesOn, costs_between, costs_after, with_more}

-- what the entries after a history cost a seat
pub started_are : (catalog : Catalog) (seat : ℕ) (before final more : List Entry) → final ≡ before ++ more → costs_after catalog seat before final ≡ seat_costs catalog seat before more
started_are catalog seat before final more grown = ap (seat_costs catalog seat before) (ap (drop (length before)) grown ∙ drop-append_seam before more)

-- an entry of a seat, or an eviction
abbrev is_own : ℕ → Entry → Bool
is_own seat entry = is_eviction entry || is_of_seat seat entry

-- from one to the next, and on
pub on_and_on : (before middle after : DeskOf) → GoesOn before middle → GoesOn middle after → GoesOn before after
on_and_on before middle after (first, one) (then, two) = (
  first ++ then,
  record {
    cache =
        two.cache ∙ ap (λ (cache : CacheOf). with_more cache then) one.cache
        ∙ ap (λ (es : List Entry). record before.cache { entries = es }) (append_assoc before.cache.entries first then);
    seat = two.seat ∙ one.seat;
    alone = two.alone ∙ one.alone;
    own = λ alone.
        list_all-append (is_own before.seat) first then ∙ and_from _ _ (one.own alone) (ap (λ (seat : ℕ). list_all (is_own seat) then) (sym one.seat) ∙ two.own (one.alone ∙ alone));
  },
)

-- the catalog stays
pub same_setting : (before after : DeskOf) → GoesOn before after → after.cache.setting ≡ before.cache.setting
same_setting before after (more, by) = ap (λ (cache : CacheOf). cache.setting) by.cache

-- what entries cost, first and then
pub costs_joined : (before middle after : DeskOf) → GoesOn before middle → GoesOn middle after → costs_between before after ≡ costs_between before middle + costs_between middle after
costs_joined before middle after (first, one) (then, two) =
    started_are catalog before.seat before.cache.entries after.cache.entries (first ++ then) whole
    ∙ costs-append catalog before.seat before.cache.entries first then
    ∙ ap (λ (m : ℕ). m + seat_costs catalog before.seat (before.cache.entries ++ first) then) (sym (started_are catalog before.seat before.cache.entries middle.cache.entries first grown))
    ∙ ap (λ (m : ℕ). costs_between before middle + m) (sym late)
  where
    catalog : Catalog
    catalog = before.cache.setting.catalog

    grown : middle.cache.entries ≡ before.cache.entries ++ first
    grown = ap (λ (cache : CacheOf). cache.entries) one.cache

    grown_then : after.cache.entries ≡ middle.cache.entries ++ then
    grown_then = ap (λ (cache : CacheOf). cache.entries) two.cache

    whole : after.cache.entries ≡ before.cache.entries ++ (first ++ then)
    whole = grown_then ∙ ap (λ (es : List Entry). es ++ then) grown ∙ append_assoc before.cache.entries first then

    late : costs_between middle after ≡ seat_costs catalog before.seat (before.cache.entries ++ first) then
    late =
        started_are middle.cache.setting.catalog middle.seat middle.cache.entries after.cache.entries then grown_then
        ∙ ap (λ (s : Setting). seat_costs s.catalog middle.seat middle.cache.entries then) (ap (λ (cache : CacheOf). cache.setting) one.cache)
        ∙ ap (λ (seat : ℕ). seat_costs catalog seat middle.cache.entries then) one.seat
        ∙ ap (λ (es : List Entry). seat_costs catalog before.seat es then) grown
