-- Plain entries as entries, place by place.
use Rattle.std.proofs.Common.{◌≡◌, refl, sym, ◌∙◌, ap, ℕ, zero, suc, ◌-◌, ◌<◌, ◌≤◌, List, [], ◌∷◌, drop, take, Bool, true, false, cond, ◌||◌, ◌+◌, filter_map, Some, None, option_map, slice_get, Option, arith, length, get_or, inl, inr}
use Rattle.std.specs.List.{list_any, count_by, sum_by}
use Rattle.std.proofs.lemmas.Bool.{both_ways, cases_order}
use Rattle.std.proofs.lemmas.List.{drop-map, length-map, take-map, take_rest}
use Rattle.std.proofs.lemmas.Option.{slice_get-map, slice_get_read, slice_get_past}
use Rattle.olap_plain.specs.declared.entries.PlainEntry.{PlainEntry}
use Rattle.olap_meaning.proofs.Earliest.{earliest_is, earliest_none, none_earliest}
use Rattle.olap_meaning.specs.History.{Entry, earliest, entry_at, latest, flushes, flushed, flushed_after, is_some_and, latest_flush, regions_after, version, floor}
use Rattle.olap_meaning.specs.declared.cells.Cell.{Cell}
use Rattle.olap_meaning.specs.declared.cells.Header.{Header}
use Rattle.olap_meaning.specs.declared.regions.Region.{Region}
use Rattle.olap_meaning.specs.Covering.{region_touches, touching}
use Rattle.std.proofs.lemmas.List.Sums.{sum_by-cons}
use Rattle.olap_plain.specs.Entries.{entry_of, entries}

pub any_entries : (test : Entry → Bool) (plain : List PlainEntry) → list_any test (entries plain) ≡ list_any (λ e. test (entry_of e)) plain
any_entries test [] = refl
any_entries test (e ∷ es) = ap (λ b. test (entry_of e) || b) (any_entries test es)

drop_entries : (n : ℕ) (plain : List PlainEntry) → drop n (entries plain) ≡ entries (drop n plain)
drop_entries n plain = drop-map entry_of n plain

pub take_entries : (n : ℕ) (plain : List PlainEntry) → take n (entries plain) ≡ entries (take n plain)
take_entries n plain = take-map entry_of n plain

entry_back : (plain : List PlainEntry) (j : ℕ) → 0 < j → entry_at (entries plain) j ≡ option_map entry_of (slice_get plain (j - 1))
entry_back plain zero h = absurd (omega arith)
entry_back plain (suc i) h = let e : suc i - 1 ≡ i = omega arith in slice_get-map entry_of plain i ∙ ap (λ k. option_map entry_of (slice_get plain k)) (sym e)

latest_by : (b : Bool) (n : ℕ) (test : ℕ → Bool) → test (suc n) ≡ b → latest (suc n) test ≡ cond b (Some (suc n)) (latest n test)
latest_by b n test h = ap (λ c. cond c (Some (suc n)) (latest n test)) h

pub latest_here : (n : ℕ) (test : ℕ → Bool) → 0 < n → test n ≡ true → latest n test ≡ Some n
latest_here zero test h t = absurd (omega arith)
latest_here (suc n) test h t = latest_by true n test t

pub latest_back : (n : ℕ) (test : ℕ → Bool) → 0 < n → test n ≡ false → latest n test ≡ latest (n - 1) test
latest_back zero test h t = absurd (omega arith)
latest_back (suc n) test h t = let e : suc n - 1 ≡ n = omega arith in latest_by false n test t ∙ ap (λ k. latest k test) (sym e)

pub entry_here : (plain : List PlainEntry) (j : ℕ) (e : PlainEntry) → 0 < j → j - 1 < length plain → e ≡ get_or plain (j - 1) e → entry_at (entries plain) j ≡ Some (entry_of e)
entry_here plain j e pos l at = entry_back plain j pos ∙ ap (option_map entry_of) (slice_get_read plain (length plain) (j - 1) e refl l at)

pub entry_past : (plain : List PlainEntry) (j : ℕ) → length plain < j → entry_at (entries plain) j ≡ None
entry_past plain j l = entry_back plain j (omega arith) ∙ ap (option_map entry_of) (slice_get_past plain (j - 1) (omega arith))

pub entry_zero : (plain : List PlainEntry) (j : ℕ) → j ≡ 0 → entry_at (entries plain) j ≡ None
entry_zero plain j e = ap (entry_at (entries plain)) e

pub flushed_tail : (cell : Cell) (n : ℕ) (plain : List PlainEntry) → list_any (λ e. flushes cell (entry_of e)) (take (length plain - n) (drop n plain)) ≡ flushed_after (entries plain) n cell
flushed_tail cell n plain =
    ap (list_any (λ e. flushes cell (entry_of e))) (take_rest plain n)
    ∙ sym (any_entries (flushes cell) (drop n plain))
    ∙ ap (list_any (flushes cell)) (sym (drop_entries n plain))

-- a walk back from the end: what is left to look at gives the answer where the test fails here, and the answer is here where it passes
pub walk_on : (test : ℕ → Bool) (j : ℕ) (answer : Option ℕ) → 0 < j → test j ≡ false → latest j test ≡ answer → latest (j - 1) test ≡ answer
walk_on test j answer pos not_here h = sym (latest_back j test pos not_here) ∙ h

pub walk_here : (test : ℕ → Bool) (j : ℕ) (answer : Option ℕ) → 0 < j → test j ≡ true → latest j test ≡ answer → Some j ≡ answer
walk_here test j answer pos here h = sym (latest_here j test pos here) ∙ h

-- a walk from the first: none so far passes, and the answer is here where the test passes, and there is none past the last
pub climb_on : (test : ℕ → Bool) (i : ℕ) → earliest i test ≡ None → test (i + 1) ≡ false → earliest (i + 1) test ≡ None
climb_on test i none fails = none_earliest (i + 1) test (λ k one l. elim (cases_order k (i + 1)) [
  | inl same ↦ ap test same ∙ fails
  | inr apart ↦ elim apart [ inl lower ↦ earliest_none i test k none one (omega (arith, lower)) | inr more ↦ absurd (omega (arith, l, more)) ]
])

pub climb_here : (test : ℕ → Bool) (n i : ℕ) → i < n → earliest i test ≡ None → test (i + 1) ≡ true → earliest n test ≡ Some (i + 1)
climb_here test n i l none passes = earliest_is n test (i + 1) passes (omega arith) (omega (arith, l)) (λ k one within t. elim (cases_order (i + 1) k) [
  | inl same ↦ omega (arith, same)
  | inr apart ↦ elim apart [ inl lower ↦ omega (arith, lower) | inr more ↦ absurd (both_ways (test k) (earliest_none i test k none one (omega (arith, more))) t) ]
])

pub climb_past : (test : ℕ → Bool) (n i : ℕ) → n ≤ i → earliest i test ≡ None → earliest n test ≡ None
climb_past test n i l none = none_earliest n test (λ k one within. earliest_none i test k none one (omega (arith, l, within)))

pub entries-length : (plain : List PlainEntry) → length (entries plain) ≡ length plain
entries-length plain = length-map plain entry_of

pub floor_front : (plain : List PlainEntry) (cell : Cell) (n v : ℕ) → v ≡ version (entries (take n plain)) cell.cube → n ≡ latest_flush (entries plain) cell → v ≡ floor (entries plain) cell
floor_front plain cell n v h e = h ∙ ap (λ es. version es cell.cube) (sym (take_entries n plain)) ∙ ap (λ k. version (take k (entries plain)) cell.cube) e

-- the flushes that pass a test of their regions
pub count_flushed : (test : Region → Bool) (plain : List PlainEntry) → count_by test (filter_map flushed (entries plain)) ≡ count_by (λ e. is_some_and test (flushed (entry_of e))) plain
count_flushed test [] = refl
count_flushed test (e ∷ es) = by (flushed (entry_of e)) refl (count_flushed test es) ∙ sym (sum_by-cons one e es)
  where
    one : PlainEntry → ℕ
    one x = cond (is_some_and test (flushed (entry_of x))) 1 0

    here : Region → ℕ
    here r = cond (test r) 1 0

    by : (o : Option Region) → flushed (entry_of e) ≡ o → sum_by here (filter_map flushed (entries es)) ≡ sum_by one es → sum_by here (filter_map flushed (entries (e ∷ es))) ≡ one e + sum_by one es
    by None is rest = rw is (let none : one e ≡ 0 = ap (λ o. cond (is_some_and test o) 1 0) is in omega (arith, rest, none))
    by (Some r) is rest = rw is (sum_by-cons here r (filter_map flushed (entries es)) ∙ ap (λ n. here r + n) rest)

pub touching_tail : (header : Header) (n : ℕ) (plain : List PlainEntry) → count_by (λ e. is_some_and (λ r. region_touches r header) (flushed (entry_of e))) (take (length plain - n) (drop n plain)) ≡ touching header (regions_after (entries plain) n)
touching_tail header n plain =
    ap (count_by (λ e. is_some_and (λ r. region_touches r header) (flushed (entry_of e)))) (take_rest plain n)
    ∙ sym (count_flushed (λ r. region_touches r header) (drop n plain))
    ∙ ap (λ (es : List Entry). touching header (filter_map flushed es)) (sym (drop_entries n plain))
