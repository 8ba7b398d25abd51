-- Plain entries as entries, for legal steps.
use Rattle.std.proofs.Common.{◌≡◌, refl, sym, ◌∙◌, ap, ℕ, List, [], ◌∷◌, Bool, true, false, cond, ◌&&◌, map, filter, Option, Some, None, is_none, nat_le, nat_lt, not, ◌==◌, ◌↔◌, IsTrue, subst, ◌+◌, ◌<◌, ◌≤◌, suc, take, length, get_or, option_map, inl, inr, arith}
use Rattle.std.proofs.lemmas.Bool.{and_parts, and_from, leb-true, le-leb, lt-ltb, ltb-true, eqb-true, eq-eqb, cases_order, not-true}
use Rattle.std.proofs.lemmas.List.{take-map, length-map}
use Rattle.std.proofs.lemmas.Option.{slice_get-map, slice_get_read}
use Rattle.olap_meaning.proofs.Positions.{entry_within}
use Rattle.olap_meaning.specs.declared.tables.Setting.{Setting}
use Rattle.olap_meaning.specs.declared.cells.Who.{Who}
use Rattle.olap_meaning.specs.Budget.{kept_groups, may_evict, oldest_kept}
use Rattle.olap_meaning.specs.Catalog.{table_cube}
use Rattle.olap_meaning.proofs.Loads.{some_and}
use Rattle.olap_meaning.proofs.RolledSources.{sources_are_decided}
use Rattle.olap_meaning.specs.Covering.{just_covers}
use Rattle.olap_plain.specs.StepTests.{agg_test, evict_test, start_test}
use Rattle.std.specs.List.{list_all}
use Rattle.olap_plain.specs.declared.entries.PlainEntry.{PlainEntry}
use Rattle.olap_meaning.specs.History.{Entry, Load, entry_at, version, awaited_load, is_some_and}
use Rattle.olap_meaning.specs.Legal.{IsLegalAgg, IsLegalEviction, IsLegalStart, Legal, LegalStep, has_source, is_cell, is_next_call, rise}
use Rattle.olap_plain.specs.Entries.{entry_of, entries}

pub all_kept : (test keep : Entry → Bool) (plain : List PlainEntry) → list_all test (filter keep (entries plain)) ≡ list_all (λ e. test (entry_of e)) (filter (λ e. keep (entry_of e)) plain)
all_kept test keep [] = refl
all_kept test keep (e ∷ es) = by (keep (entry_of e)) (all_kept test keep es)
  where
    by : (b : Bool) → list_all test (filter keep (entries es)) ≡ list_all (λ x. test (entry_of x)) (filter (λ x. keep (entry_of x)) es)
        → list_all test (cond b (entry_of e ∷ filter keep (entries es)) (filter keep (entries es))) ≡ list_all (λ x. test (entry_of x)) (cond b (e ∷ filter (λ x. keep (entry_of x)) es) (filter (λ x. keep (entry_of x)) es))
    by true rest = ap (λ b. test (entry_of e) && b) rest
    by false rest = rest

nothing : (o : Option ℕ) → is_none o ≡ true → o ≡ None
nothing None h = refl
nothing (Some j) h = absurd (cc)

module _ (setting : Setting) (history : List Entry) (load : Load) where
  abbrev passes : Bool
  passes = start_test setting history load.header load.version load.reason

  started : passes ≡ true → IsLegalStart setting history load
  started h =
      let f : ((is_cell setting.catalog load.reason && rise (map (λ column. column.0) load.header.columns) && just_covers load.header load.reason && (load.version == version history load.header.cube) && not (has_source setting.catalog history load.reason)) ≡ true)
      × (is_none (awaited_load history load.reason) ≡ true) = and_parts _ _ h in
      let e : ((is_cell setting.catalog load.reason && rise (map (λ column. column.0) load.header.columns) && just_covers load.header load.reason && (load.version == version history load.header.cube)) ≡ true)
      × (not (has_source setting.catalog history load.reason) ≡ true) = and_parts _ _ f.0 in
      let d : ((is_cell setting.catalog load.reason && rise (map (λ column. column.0) load.header.columns) && just_covers load.header load.reason) ≡ true)
      × ((load.version == version history load.header.cube) ≡ true) = and_parts _ _ e.0 in
      let b : ((is_cell setting.catalog load.reason && rise (map (λ column. column.0) load.header.columns)) ≡ true)
      × (just_covers load.header load.reason ≡ true) = and_parts _ _ d.0 in
      let a : (is_cell setting.catalog load.reason ≡ true) × (rise (map (λ column. column.0) load.header.columns) ≡ true) = and_parts _ _ b.0 in
      record {
        known = a.0;
        rising = a.1;
        covers = b.1;
        present = eqb-true load.version (version history load.header.cube) d.1;
        needed = (sources_are_decided.lacks setting.catalog history load.reason).0 (not-true (has_source setting.catalog history load.reason) e.1);
        unawaited = nothing (awaited_load history load.reason) f.1;
      }

  passed : IsLegalStart setting history load → passes ≡ true
  passed is =
      and_from _ _
      (and_from _ _
      (and_from _ _ (and_from _ _ (and_from _ _ is.known is.rising) is.covers) (eq-eqb load.version (version history load.header.cube) is.present))
      (ap not ((sources_are_decided.lacks setting.catalog history load.reason).1 is.needed)))
      (ap is_none is.unawaited)

  pub start_decided : (b : Bool) → b ≡ passes → (b ≡ true) ↔ (IsLegalStart setting history load)
  start_decided b same = (λ h. started (sym same ∙ h), λ is. same ∙ passed is)

-- a plain entry that is known stands for the entry that it says
pub step_of : (setting : Setting) (history : List Entry) (entry known : PlainEntry) (b : Bool) → entry ≡ known → (b ≡ true) ↔ (LegalStep setting history (entry_of known)) → (b ≡ true) ↔ (LegalStep setting history (entry_of entry))
step_of setting history entry known b same decided = subst (λ (e : PlainEntry). (b ≡ true) ↔ (LegalStep setting history (entry_of e))) (sym same) decided

-- the first entries of a history are legal steps
abbrev pub StepsTo : Setting → List PlainEntry → ℕ → Type 0
StepsTo setting history i = (before : ℕ) (entry : Entry) → before < i → entry_at (entries history) (suc before) ≡ Some entry → LegalStep setting (take before (entries history)) entry

place_at : (history : List PlainEntry) (i : ℕ) (e : PlainEntry) → i < length history → e ≡ get_or history i e → entry_at (entries history) (suc i) ≡ Some (entry_of e)
place_at history i e l at = slice_get-map entry_of history i ∙ ap (option_map entry_of) (slice_get_read history (length history) i e refl l at)

front_of : (history : List PlainEntry) (i : ℕ) → take i (entries history) ≡ entries (take i history)
front_of history i = take-map entry_of i history

-- and so is the next, where it is one
pub steps_on : (setting : Setting) (history : List PlainEntry) (i : ℕ) (e : PlainEntry) → i < length history → e ≡ get_or history i e → StepsTo setting history i → LegalStep setting (entries (take i history)) (entry_of e) → StepsTo setting history (i + 1)
steps_on setting history i e l at so_far here before entry less is =
    elim (cases_order before i) [
      | inl same ↦ at_last same
      | inr apart ↦ elim apart [ inl lower ↦ so_far before entry lower is | inr more ↦ absurd (omega (arith, less, more)) ]
    ]
  where
    at_last : before ≡ i → LegalStep setting (take before (entries history)) entry
    at_last same =
        let known : entry_of e ≡ entry = cc (sym (place_at history i e l at) ∙ ap (λ n. entry_at (entries history) (suc n)) (sym same) ∙ is) in
        subst (λ (n : ℕ). LegalStep setting (take n (entries history)) entry) (sym same)
        (subst (λ (xs : List Entry). LegalStep setting xs entry) (sym (front_of history i)) (subst (λ (x : Entry). LegalStep setting (entries (take i history)) x) known here))

-- where it is none, the history is not legal
pub step_fails : (setting : Setting) (history : List PlainEntry) (i : ℕ) (e : PlainEntry) → i < length history → e ≡ get_or history i e → Legal setting (entries history) → LegalStep setting (entries (take i history)) (entry_of e)
step_fails setting history i e l at legal = subst (λ (xs : List Entry). LegalStep setting xs (entry_of e)) (front_of history i) (legal i (entry_of e) (place_at history i e l at))

-- where all are, it is
pub steps_all : (setting : Setting) (history : List PlainEntry) (i : ℕ) → length history ≤ i → StepsTo setting history i → Legal setting (entries history)
steps_all setting history i l all before entry at = all before entry (omega (arith, l, within)) at
  where
    within : suc before ≤ length history
    within = let w : (1 ≤ suc before) × (suc before ≤ length (entries history)) = entry_within (entries history) (suc before) entry at in let same : length (entries history) ≡ length history = length-map history entry_of in omega (arith, w.1, same)

-- the test of an aggregate table decides its legal step
pub agg_decided : (setting : Setting) (history : List Entry) (who : Who) (table v : ℕ) (result : Bool) → result ≡ agg_test setting history who table v → (IsTrue result) ↔ (IsLegalAgg setting history who table v)
agg_decided setting history who table v result is = (there, back)
  where
    test : ℕ → Bool
    test cube = nat_le v (version history cube)

    there : result ≡ true → IsLegalAgg setting history who table v
    there h =
        let parts : (is_next_call history who ≡ true) × (is_some_and test (table_cube setting.catalog table) ≡ true) = and_parts _ _ (sym is ∙ h) in
        let found : (cube : ℕ) × (table_cube setting.catalog table ≡ Some cube) × (test cube ≡ true) = some_and test (table_cube setting.catalog table) parts.1 in
        record { call = parts.0; cube = found.0; known = found.1; reached = leb-true _ _ found.2 }

    back : IsLegalAgg setting history who table v → result ≡ true
    back legal = is ∙ and_from _ _ legal.call (ap (is_some_and test) legal.known ∙ le-leb _ _ legal.reached)

-- the test of an eviction decides its legal step
pub evict_decided : (setting : Setting) (history : List Entry) (j : ℕ) (result : Bool) → result ≡ evict_test setting history j → (IsTrue result) ↔ (IsLegalEviction setting history j)
evict_decided setting history j result is = (there, back)
  where
    there : result ≡ true → IsLegalEviction setting history j
    there h =
        let parts = and_parts (is_some_and (λ oldest. oldest == j) (oldest_kept history) && nat_lt setting.budget (kept_groups setting.catalog history)) (may_evict history) (sym is ∙ h) in
        let first = and_parts (is_some_and (λ oldest. oldest == j) (oldest_kept history)) (nat_lt setting.budget (kept_groups setting.catalog history)) parts.0 in
        let oldest = some_and (λ oldest. oldest == j) (oldest_kept history) first.0 in
        record { oldest = oldest.1 ∙ ap Some (eqb-true oldest.0 j oldest.2); above = ltb-true setting.budget (kept_groups setting.catalog history) first.1; after = parts.1 }

    back : IsLegalEviction setting history j → result ≡ true
    back legal =
        is
        ∙ and_from (is_some_and (λ oldest. oldest == j) (oldest_kept history) && nat_lt setting.budget (kept_groups setting.catalog history)) (may_evict history)
        (and_from (is_some_and (λ oldest. oldest == j) (oldest_kept history)) (nat_lt setting.budget (kept_groups setting.catalog history)) (ap (is_some_and (λ oldest. oldest == j)) legal.oldest ∙ eq-eqb j j refl) (lt-ltb setting.budget (kept_groups setting.catalog history) legal.above))
        legal.after
