-- What the entries of an opened cache say: those of its base batches, and after them those of its aggregate tables.
use Rattle.std.proofs.Common.{◌≡◌, refl, sym, ap, ◌∙◌, ℕ, zero, suc, ◌+◌, ◌<◌, List, [], ◌∷◌, ◌++◌, length, length-append, append-nil, append_assoc, add-zero, true, false, None, arith, filter, filter_map, flat_map, take, get_or, slice_get, nat_lt, nat_eq, option_and_then}
use Rattle.std.specs.Prelude.{IsTrue}
use Rattle.std.specs.List.{list_all}
use Rattle.std.proofs.lemmas.List.Elements.{filter-append, filter_map-append}
use Rattle.std.proofs.lemmas.List.Folds.{list_all-append}
use Rattle.olap_meaning.specs.declared.tables.Row.{Row}
use Rattle.olap_meaning.specs.History.{Entry, Agg, appended, rows_of, started, version}
use Rattle.olap_meaning.specs.Legal.{is_call_below, is_call_of, is_next_call}
use Rattle.olap_meaning.proofs.Versions.{version-length}
use Rattle.history_core.specs.Seats.{NoneFlies, entries_of, is_of_seat}
use Rattle.cache_opening.specs.Opening.{agg_entries, base_entries, opened_entries}
use Rattle.cache_opening.specs.Steps.{batches_in}
use Rattle.cache_opening.proofs.BaseFacts.{calls_below, no_entry}

batches_before : (k : ℕ) (batches : List (List Row)) (others : List Entry) → batches_in (base_entries k batches ++ others) ≡ batches ++ batches_in others
batches_before k [] others = refl
batches_before k (b ∷ bs) others = ap (λ (rest : List (List Row)). b ∷ rest) (batches_before (suc k) bs others)

no_batches : (calls : ℕ) (tables : List ℕ) → batches_in (agg_entries calls tables) ≡ []
no_batches calls [] = refl
no_batches calls (t ∷ ts) = no_batches (suc calls) ts

-- the batches that were appended are the base batches
pub opened_batches : (batches : List (List Row)) (tables : List ℕ) → batches_in (opened_entries batches tables) ≡ batches
opened_batches batches tables =
    batches_before 0 batches (agg_entries (length batches) tables) ∙ ap (λ (rest : List (List Row)). batches ++ rest) (no_batches (length batches) tables) ∙ append-nil batches

-- there is one for each base batch
pub base_length : (k : ℕ) (batches : List (List Row)) → length (base_entries k batches) ≡ length batches
base_length k [] = refl
base_length k (b ∷ bs) = let rest = base_length (suc k) bs in omega (arith, rest)

agg_length : (calls : ℕ) (tables : List ℕ) → length (agg_entries calls tables) ≡ length tables
agg_length calls [] = refl
agg_length calls (t ∷ ts) = let rest = agg_length (suc calls) ts in omega (arith, rest)

-- and one for each table
pub opened_length : (batches : List (List Row)) (tables : List ℕ) → length (opened_entries batches tables) ≡ length batches + length tables
opened_length batches tables =
    let both = length-append (base_entries 0 batches) (agg_entries (length batches) tables) in
    let first = base_length 0 batches in
    let second = agg_length (length batches) tables in
    omega (arith, both, first, second)

agg_more : (calls : ℕ) (tables more : List ℕ) → agg_entries calls (tables ++ more) ≡ agg_entries calls tables ++ agg_entries (calls + length tables) more
agg_more calls [] more = ap (λ (n : ℕ). agg_entries n more) (sym (add-zero calls))
agg_more calls (t ∷ ts) more =
    let same : suc calls + length ts ≡ calls + suc (length ts) = omega arith in
    ap (λ (es : List Entry). Agg (record { seat = 0; call = suc calls }) t 1 ∷ es) (agg_more (suc calls) ts more ∙ ap (λ (n : ℕ). agg_entries (suc calls) ts ++ agg_entries n more) same)

-- some tables more
pub opened_more : (batches : List (List Row)) (tables more : List ℕ) → opened_entries batches tables ++ agg_entries (length (opened_entries batches tables)) more ≡ opened_entries batches (tables ++ more)
opened_more batches tables more =
    ap (λ (n : ℕ). opened_entries batches tables ++ agg_entries n more) (opened_length batches tables)
    ∙ append_assoc (base_entries 0 batches) (agg_entries (length batches) tables) (agg_entries (length batches + length tables) more)
    ∙ ap (λ (es : List Entry). base_entries 0 batches ++ es) (sym (agg_more (length batches) tables more))

agg_below : (calls call : ℕ) (tables : List ℕ) → calls + length tables < call → list_all (is_call_below call) (filter (is_call_of 0) (agg_entries calls tables)) ≡ true
agg_below calls call [] below = refl
agg_below calls call (t ∷ ts) below = let here : nat_lt (suc calls) call ≡ true = grind arith in rw (here) (agg_below (suc calls) call ts (omega arith))

-- the next call of seat 0 may come
pub opened_next : (batches : List (List Row)) (tables : List ℕ) → IsTrue (is_next_call (opened_entries batches tables) (record { seat = 0; call = length (opened_entries batches tables) + 1 }))
opened_next batches tables =
    let n = length (opened_entries batches tables) + 1 in
    let many = opened_length batches tables in
    let first : list_all (is_call_below n) (filter (is_call_of 0) (base_entries 0 batches)) ≡ true = calls_below 0 n batches (omega (arith, many)) in
    let second : list_all (is_call_below n) (filter (is_call_of 0) (agg_entries (length batches) tables)) ≡ true = agg_below (length batches) n tables (omega (arith, many)) in
    ap (list_all (is_call_below n)) (filter-append (is_call_of 0) (base_entries 0 batches) (agg_entries (length batches) tables))
    ∙ list_all-append (is_call_below n) (filter (is_call_of 0) (base_entries 0 batches)) (filter (is_call_of 0) (agg_entries (length batches) tables))
    ∙ rw (first, second) refl

no_table_of : (calls : ℕ) (tables : List ℕ) → entries_of (agg_entries calls tables) 1 ≡ []
no_table_of calls [] = refl
no_table_of calls (t ∷ ts) = no_table_of (suc calls) ts

-- no entry is of seat 1
pub opened_unused : (batches : List (List Row)) (tables : List ℕ) → entries_of (opened_entries batches tables) 1 ≡ []
opened_unused batches tables =
    filter-append (is_of_seat 1) (base_entries 0 batches) (agg_entries (length batches) tables) ∙ rw (no_entry 0 batches, no_table_of (length batches) tables) refl

no_start : (calls : ℕ) (tables : List ℕ) (i : ℕ) → option_and_then started (slice_get (agg_entries calls tables) i) ≡ None
no_start calls [] i = refl
no_start calls (t ∷ ts) zero = refl
no_start calls (t ∷ ts) (suc i) = no_start (suc calls) ts i

no_load : (k calls : ℕ) (batches : List (List Row)) (tables : List ℕ) (i : ℕ) → option_and_then started (slice_get (base_entries k batches ++ agg_entries calls tables) i) ≡ None
no_load k calls [] tables i = no_start calls tables i
no_load k calls (b ∷ bs) tables zero = refl
no_load k calls (b ∷ bs) tables (suc i) = no_load (suc k) calls bs tables i

-- no load flies
pub opened_idle : (batches : List (List Row)) (tables : List ℕ) → NoneFlies (opened_entries batches tables)
opened_idle batches tables zero = refl
opened_idle batches tables (suc i) = rw (no_load 0 (length batches) batches tables i) refl

no_append : (cube calls : ℕ) (tables : List ℕ) → filter_map (appended cube) (agg_entries calls tables) ≡ []
no_append cube calls [] = refl
no_append cube calls (t ∷ ts) = no_append cube (suc calls) ts

later : (cube k : ℕ) (batches : List (List Row)) → cube < k → filter_map (appended cube) (base_entries k batches) ≡ []
later cube k [] below = refl
later cube k (b ∷ bs) below = let other : nat_eq k cube ≡ false = grind arith in rw (other) (later cube (suc k) bs (omega arith))

own_batch : (k i : ℕ) (batches : List (List Row)) → i < length batches → filter_map (appended (k + i)) (base_entries k batches) ≡ get_or batches i [] ∷ []
own_batch k i [] known = absurd (omega arith)
own_batch k zero (b ∷ bs) known =
    let here : nat_eq k (k + 0) ≡ true = grind arith in
    rw (here) (ap (λ (rest : List (List Row)). b ∷ rest) (later (k + 0) (suc k) bs (omega arith)))
own_batch k (suc i) (b ∷ bs) known =
    let other : nat_eq k (k + suc i) ≡ false = grind arith in
    let same : k + suc i ≡ suc k + i = omega arith in
    rw (other) (ap (λ (cube : ℕ). filter_map (appended cube) (base_entries (suc k) bs)) same ∙ own_batch (suc k) i bs (omega arith))

-- a cube has one batch
opened_appends : (cube : ℕ) (batches : List (List Row)) (tables : List ℕ) → cube < length batches → filter_map (appended cube) (opened_entries batches tables) ≡ get_or batches cube [] ∷ []
opened_appends cube batches tables known =
    let place : 0 + cube ≡ cube = omega arith in
    let own : filter_map (appended cube) (base_entries 0 batches) ≡ get_or batches cube [] ∷ [] = ap (λ (c : ℕ). filter_map (appended c) (base_entries 0 batches)) (sym place) ∙ own_batch 0 cube batches known in
    filter_map-append (appended cube) (base_entries 0 batches) (agg_entries (length batches) tables) ∙ rw (own, no_append cube (length batches) tables) refl

-- a cube has version 1
pub opened_version : (cube : ℕ) (batches : List (List Row)) (tables : List ℕ) → cube < length batches → version (opened_entries batches tables) cube ≡ 1
opened_version cube batches tables known = version-length (opened_entries batches tables) cube ∙ ap length (opened_appends cube batches tables known)

-- its rows are those of its base batch
pub opened_rows : (cube : ℕ) (batches : List (List Row)) (tables : List ℕ) → cube < length batches → rows_of (opened_entries batches tables) cube 1 ≡ get_or batches cube []
opened_rows cube batches tables known =
    ap (λ (all : List (List Row)). flat_map (λ rows. rows) (take 1 all)) (opened_appends cube batches tables known) ∙ append-nil (get_or batches cube [])
