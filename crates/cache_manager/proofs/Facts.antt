-- The facts of a manager, and those of its history.
use Rattle.std.proofs.Common.{All, cond, subst, take_all, zero, suc, ◌≡◌, refl, sym, ◌∙◌, ap, ℕ, ◌+◌, ◌<◌, ◌≤◌, List, [], ◌∷◌, ◌++◌, length, map, take, ◌≢◌, ◌==◌, ◌⊎◌, inl, inr, Bool, true, false, Option, Some, None, arith, filter_map, flat_map}
use Rattle.std.proofs.lemmas.List.{append-nil, length-append, length-map, length-replicate, length-take-le, map-append, take-map}
use Rattle.std.proofs.lemmas.List.Elements.{filter_map-append}
use Rattle.std.proofs.lemmas.Bool.{and_from, and_parts, cases_Bool, cases_eq, eq-eqb, eqb-false, eqb-true, false_from_ne_true, ltb-false}
use Rattle.std.specs.Prelude.{◌&&◌, IsTrue, nat_lt, replicate, slice_get, slice_index_or, sum_by}
use Rattle.std.specs.List.{list_all}
use Rattle.std.proofs.lemmas.List.Elements.{All-cons, All-nil}
use Rattle.std.proofs.lemmas.Option.{slice_get_cases}
use Rattle.std.proofs.lemmas.List.Folds.{list_all-append, sum_by-replicate}
use Rattle.std.proofs.lemmas.List.Sums.{sum_by-set, sum_by_push}
use Rattle.olap_meaning.specs.declared.tables.Setting.{Setting}
use Rattle.olap_meaning.specs.declared.tables.Row.{Row}
use Rattle.olap_meaning.specs.declared.cells.Who.{Who}
use Rattle.olap_meaning.specs.History.{Entry, Append, Agg, Flush, Start, Done, Drop, Evict, Answer, Saw, appended, is_some_and, version, rows_of}
use Rattle.olap_meaning.specs.Catalog.{fact_columns}
use Rattle.olap_meaning.specs.declared.TheConstants.{ROW_LIMIT, VERSION_LIMIT}
use Rattle.olap_meaning.specs.declared.tables.Catalog.{Catalog}
use Rattle.olap_meaning.specs.declared.tables.Cube.{Cube}
use Rattle.olap_meaning.proofs.Growing.{version_grows}
use Rattle.olap_meaning.proofs.Positions.{take-push}
use Rattle.olap_meaning.specs.Legal as legal
use Rattle.olap_meaning.proofs.Versions.{version-length}
use Rattle.fact_versions.specs.FactRows.{FactRows}
use Rattle.fact_versions.specs.Facts.{Arrival, FactsOf, IsAlike, append_fault, arrival, batches_of, rows_held, rows_of_batches, with_batch}
use Rattle.fact_versions.specs.declared.faults.AppendFault.TheVariants.{TooManyRows, TooManyVersions}
use Rattle.history_core.specs.Cache.{CacheOf}
use Rattle.history_core.specs.Arrivals.{arrival_in}
use Rattle.fact_versions.proofs.Grown.{batches_of-with_batch, batches_of-with_batch_other, length-cubes}
use Rattle.fact_reader.specs.BodyRows.{are_batches, is_batch, rows_in}
use Rattle.cache_manager.specs.Kept.{AreFactsOf}

flat_map-map : (batches : List FactRows) → flat_map (λ (rows : List Row). rows) (map (λ batch. batch.rows) batches) ≡ rows_in batches
flat_map-map [] = refl
flat_map-map (batch ∷ batches) = ap (λ (rows : List Row). batch.rows ++ rows) (flat_map-map batches)

module _ (setting : Setting) (entries : List Entry) (facts : FactsOf) (are : AreFactsOf setting entries facts) (cube : ℕ) where
  -- a cube has as many batches as its version says
  pub version_held : length (batches_of facts cube) ≡ version entries cube
  version_held = sym (length-map (batches_of facts cube) (λ (batch : FactRows). batch.rows)) ∙ ap length (are.each cube) ∙ sym (version-length entries cube)

  -- the rows of its first batches are those of that version
  pub rows_of_first : (v : ℕ) → rows_in (take v (batches_of facts cube)) ≡ rows_of entries cube v
  rows_of_first v =
      sym (flat_map-map (take v (batches_of facts cube)))
      ∙ ap (flat_map (λ (rows : List Row). rows)) (sym (take-map (λ (batch : FactRows). batch.rows) v (batches_of facts cube)) ∙ ap (take v) (are.each cube))

  -- all its batches are those of the present version
  pub present : (snapshot : List FactRows) (v : ℕ) → v ≡ length (batches_of facts cube) → snapshot ≡ take v (batches_of facts cube)
      → (length snapshot ≡ version entries cube) × (rows_in snapshot ≡ rows_of entries cube (version entries cube)) × ((n : ℕ) → rows_in (take n snapshot) ≡ rows_of entries cube n) × (are_batches setting.catalog cube snapshot ≡ true)
  present snapshot v all is =
      let whole : snapshot ≡ batches_of facts cube = is ∙ take_all v (batches_of facts cube) (omega (arith, all)) in
      (ap length whole ∙ version_held, ap rows_in is ∙ rows_of_first v ∙ ap (rows_of entries cube) (all ∙ version_held), (λ n. ap (λ (batches : List FactRows). rows_in (take n batches)) whole ∙ rows_of_first n), ap (are_batches setting.catalog cube) whole ∙ are.fit cube)

  -- its first batches are those of an earlier version
  pub earlier : (snapshot : List FactRows) (v : ℕ) → v ≤ version entries cube → snapshot ≡ take v (batches_of facts cube)
      → (length snapshot ≡ v) × (rows_in snapshot ≡ rows_of entries cube v) × (are_batches setting.catalog cube snapshot ≡ true)
  earlier snapshot v reached is = (
    ap length is ∙ length-take-le v (batches_of facts cube) (omega (arith, reached, version_held)),
    ap rows_in is ∙ rows_of_first v,
    ap (are_batches setting.catalog cube) is ∙ first_all (is_batch setting.catalog cube) v (batches_of facts cube) (are.fit cube),
  )
    where
      first_all : {A : Type 0} (p : A → Bool) (n : ℕ) (xs : List A) → list_all p xs ≡ true → list_all p (take n xs) ≡ true
      first_all p zero xs all = refl
      first_all p (suc n) [] all = refl
      first_all p (suc n) (x ∷ xs) all = and_from _ _ (and_parts (p x) (list_all p xs) all).0 (first_all p n xs (and_parts (p x) (list_all p xs) all).1)

-- where nothing has happened no cube has a batch
pub none_appended : (setting : Setting) (count : ℕ) → setting.row_limit ≤ ROW_LIMIT → count ≡ length setting.catalog.cubes → AreFactsOf setting [] (record { limit = setting.row_limit; cubes = replicate count [] })
none_appended setting count fits cubes = record {
  limit = refl;
  limit_fits = fits;
  cubes = length-replicate count [] ∙ cubes;
  held = none_held count;
  each = λ cube. ap (map (λ (batch : FactRows). batch.rows)) (none_at count cube);
  fit = λ cube. ap (are_batches setting.catalog cube) (none_at count cube);
}
  where
    nothing : List FactRows
    nothing = []

    none_at : (n k : ℕ) → slice_index_or (replicate n nothing) k [] ≡ []
    none_at zero k = refl
    none_at (suc n) zero = refl
    none_at (suc n) (suc k) = none_at n k

    none_held : (n : ℕ) → sum_by rows_of_batches (replicate n []) ≡ 0
    none_held n = sum_by-replicate rows_of_batches n [] ∙ omega arith

-- an entry that appends nothing leaves the facts
pub facts_on :
    (setting : Setting) (entries : List Entry) (facts : FactsOf) (entry : Entry) → ((cube : ℕ) → appended cube entry ≡ None) → legal.rows_added entry ≡ 0
    → AreFactsOf setting entries facts → AreFactsOf setting (entries ++ entry ∷ []) facts
facts_on setting entries facts entry none nothing are = record {
  limit = are.limit;
  limit_fits = are.limit_fits;
  cubes = are.cubes;
  held = are.held ∙ sym (sum_by_push legal.rows_added entries entry ∙ ap (λ n. legal.rows_held entries + n) nothing ∙ omega arith);
  each = λ cube. are.each cube ∙ sym (filter_map-append (appended cube) entries (entry ∷ []) ∙ rw (none cube) (append-nil (filter_map (appended cube) entries)));
  fit = are.fit;
}

-- an append to a cube adds its batch
pub facts_more :
    (setting : Setting) (entries : List Entry) (facts : FactsOf) (who : Who) (cube v : ℕ) (batch : FactRows) → cube < length facts.cubes → is_batch setting.catalog cube batch ≡ true
    → AreFactsOf setting entries facts → AreFactsOf setting (entries ++ Append who cube v batch.rows ∷ []) (with_batch facts cube batch)
facts_more setting entries facts who cube v batch known fits are = record {
  limit = are.limit;
  limit_fits = are.limit_fits;
  cubes = length-cubes facts cube batch ∙ are.cubes;
  held = omega (arith, held_more, are.held, sum_by_push legal.rows_added entries (Append who cube v batch.rows));
  each = λ other. by other (cases_eq other cube);
  fit = λ other. fits_in other (cases_eq other cube);
}
  where
    entry : Entry
    entry = Append who cube v batch.rows

    held_more : rows_held (with_batch facts cube batch) ≡ rows_held facts + length batch.rows
    held_more =
        let set = sum_by-set rows_of_batches facts.cubes cube (batches_of facts cube ++ batch ∷ []) [] known in
        let more = sum_by_push (λ (b : FactRows). length b.rows) (batches_of facts cube) batch in
        omega (arith, set, more)

    by : (other : ℕ) → (other ≡ cube) ⊎ (other ≢ cube) → map (λ b. b.rows) (batches_of (with_batch facts cube batch) other) ≡ filter_map (appended other) (entries ++ entry ∷ [])
    by other (inl same) =
        let test : (cube == other) ≡ true = eq-eqb cube other (sym same) in
        let new : appended other entry ≡ Some batch.rows = rw test refl in
        ap (λ (c : ℕ). map (λ (b : FactRows). b.rows) (batches_of (with_batch facts cube batch) c)) same
        ∙ ap (map (λ (b : FactRows). b.rows)) (batches_of-with_batch facts cube batch known)
        ∙ map-append (λ (b : FactRows). b.rows) (batches_of facts cube) (batch ∷ [])
        ∙ ap (λ (rows : List (List Row)). rows ++ batch.rows ∷ []) (are.each cube ∙ ap (λ (c : ℕ). filter_map (appended c) entries) (sym same))
        ∙ sym (filter_map-append (appended other) entries (entry ∷ []) ∙ rw new refl)
    by other (inr apart) =
        let test : (cube == other) ≡ false = false_from_ne_true (cube == other) (λ e. apart (sym (eqb-true cube other e))) in
        let old : appended other entry ≡ None = rw test refl in
        ap (map (λ (b : FactRows). b.rows)) (batches_of-with_batch_other facts cube other batch apart)
        ∙ are.each other
        ∙ sym (filter_map-append (appended other) entries (entry ∷ []) ∙ rw old (append-nil (filter_map (appended other) entries)))

    fits_in : (other : ℕ) → (other ≡ cube) ⊎ (other ≢ cube) → are_batches setting.catalog other (batches_of (with_batch facts cube batch) other) ≡ true
    fits_in other (inl same) =
        let here : is_batch setting.catalog other batch ≡ true = ap (λ (c : ℕ). is_batch setting.catalog c batch) same ∙ fits in
        let others : are_batches setting.catalog other (batches_of facts cube) ≡ true = ap (λ (c : ℕ). are_batches setting.catalog other (batches_of facts c)) (sym same) ∙ are.fit other in
        ap (λ (c : ℕ). are_batches setting.catalog other (batches_of (with_batch facts cube batch) c)) same
        ∙ ap (are_batches setting.catalog other) (batches_of-with_batch facts cube batch known)
        ∙ list_all-append (is_batch setting.catalog other) (batches_of facts cube) (batch ∷ [])
        ∙ and_from _ _ others (and_from _ _ here refl)
    fits_in other (inr apart) = ap (are_batches setting.catalog other) (batches_of-with_batch_other facts cube other batch apart) ∙ are.fit other

-- the counts of a batch are those of its cube
counts : (catalog : Catalog) (cube : ℕ) (batch : FactRows) → is_batch catalog cube batch ≡ true → (c : Cube) × (slice_get catalog.cubes cube ≡ Some c) × (batch.dimensions ≡ length c.dimensions) × (batch.columns ≡ length (fact_columns c))
counts catalog cube batch fits = by (slice_get catalog.cubes cube) refl (and_parts _ _ fits).0
  where
    by : (o : Option Cube) → slice_get catalog.cubes cube ≡ o → is_some_and (λ c. (batch.dimensions == length c.dimensions) && (batch.columns == length (fact_columns c))) o ≡ true
        → (c : Cube) × (slice_get catalog.cubes cube ≡ Some c) × (batch.dimensions ≡ length c.dimensions) × (batch.columns ≡ length (fact_columns c))
    by None e h = absurd (cc)
    by (Some c) e h =
        let parts = and_parts (batch.dimensions == length c.dimensions) (batch.columns == length (fact_columns c)) h in
        (c, e, eqb-true _ _ parts.0, eqb-true _ _ parts.1)

alike : (catalog : Catalog) (cube : ℕ) (one other : FactRows) → is_batch catalog cube one ≡ true → is_batch catalog cube other ≡ true → IsAlike one other
alike catalog cube one other fits_one fits_other =
    let a = counts catalog cube one fits_one in
    let b = counts catalog cube other fits_other in
    let cubes : Some a.0 ≡ Some b.0 = sym a.1 ∙ b.1 in
    let same : a.0 ≡ b.0 = cc in
    (a.2 ∙ ap (λ (c : Cube). length c.dimensions) same ∙ sym b.2, a.3 ∙ ap (λ (c : Cube). length (fact_columns c)) same ∙ sym b.3)

-- a batch of a cube is like those that the cube has
pub all_alike : (catalog : Catalog) (cube : ℕ) (batch : FactRows) (held : List FactRows) → is_batch catalog cube batch ≡ true → are_batches catalog cube held ≡ true → All (IsAlike batch) held
all_alike catalog cube batch [] fits all = All-nil (IsAlike batch)
all_alike catalog cube batch (one ∷ others) fits all =
    let parts = and_parts (is_batch catalog cube one) (are_batches catalog cube others) all in
    All-cons (IsAlike batch) one others (alike catalog cube batch one fits parts.0) (all_alike catalog cube batch others fits parts.1)

-- why this many rows are refused, by the limit, the rows held and the version
abbrev found_by : ℕ → ℕ → ℕ → ℕ → Arrival
found_by rows limit held v = record { limit = limit; held = held; version = v; brought = rows }

-- a batch finds in the facts what it finds in the history
pub same_arrival : (cache : CacheOf) (facts : FactsOf) (cube : ℕ) (batch : FactRows) → AreFactsOf cache.setting cache.entries facts → arrival facts cube batch ≡ arrival_in cache cube batch.rows
same_arrival cache facts cube batch are =
    ap (λ (limit : ℕ). found_by (length batch.rows) limit (rows_held facts) (length (batches_of facts cube))) are.limit
    ∙ ap (λ (held : ℕ). found_by (length batch.rows) cache.setting.row_limit held (length (batches_of facts cube))) are.held
    ∙ ap (λ (v : ℕ). found_by (length batch.rows) cache.setting.row_limit (legal.rows_held cache.entries) v) (version_held cache.setting cache.entries facts are cube)

-- a legal history has no version above the greatest
version_limit : (setting : Setting) (entries : List Entry) (cube n : ℕ) → legal.Legal setting entries → n ≤ length entries → version (take n entries) cube ≤ VERSION_LIMIT
version_limit setting entries cube zero lawful l = omega arith
version_limit setting entries cube (suc n) lawful l = by (slice_get entries n) refl (version_limit setting entries cube n lawful (omega (arith, l)))
  where
    step : (e : Entry) → legal.LegalStep setting (take n entries) e → version (take n entries) cube ≤ VERSION_LIMIT → version (take n entries ++ e ∷ []) cube ≤ VERSION_LIMIT
    step (Append w c v rows) s few =
        elim (cases_Bool (c == cube)) [
          | inl same ↦
              let here = ap (version (take n entries)) (eqb-true c cube same) in
              let grown : version (take n entries ++ Append w c v rows ∷ []) cube ≡ version (take n entries) cube + 1 = version_grows (take n entries) (Append w c v rows) cube ∙ rw same refl in
              omega (arith, grown, here, s.next, s.versions)
          | inr other ↦
              let grown : version (take n entries ++ Append w c v rows ∷ []) cube ≡ version (take n entries) cube + 0 = version_grows (take n entries) (Append w c v rows) cube ∙ rw other refl in
              omega (arith, grown, few)
        ]
    step (Agg w t v) s few = omega (arith, version_grows (take n entries) (Agg w t v) cube, few)
    step (Flush w r) s few = omega (arith, version_grows (take n entries) (Flush w r) cube, few)
    step (Start d) s few = omega (arith, version_grows (take n entries) (Start d) cube, few)
    step (Done w j) s few = omega (arith, version_grows (take n entries) (Done w j) cube, few)
    step (Drop w j) s few = omega (arith, version_grows (take n entries) (Drop w j) cube, few)
    step (Evict j) s few = omega (arith, version_grows (take n entries) (Evict j) cube, few)
    step (Answer w cs) s few = omega (arith, version_grows (take n entries) (Answer w cs) cube, few)
    step (Saw w) s few = omega (arith, version_grows (take n entries) (Saw w) cube, few)

    by : (o : Option Entry) → slice_get entries n ≡ o → version (take n entries) cube ≤ VERSION_LIMIT → version (take (suc n) entries) cube ≤ VERSION_LIMIT
    by None e few = absurd (elim (slice_get_cases entries n).1 [ inl there ↦ let at = there.2 in cc (at, e) | inr past ↦ omega (arith, past.0, l) ])
    by (Some entry) e few = subst (λ (xs : List Entry). version xs cube ≤ VERSION_LIMIT) (sym (take-push entries n entry e)) (step entry (lawful n entry e) few)

-- a batch that is not refused may be appended
pub admitted :
    (cache : CacheOf) (who : Who) (cube v : ℕ) (batch : FactRows) → legal.Legal cache.setting cache.entries → append_fault (arrival_in cache cube batch.rows) ≡ None → v ≡ version cache.entries cube + 1
    → IsTrue (legal.is_next_call cache.entries who) → cube < length cache.setting.catalog.cubes → is_batch cache.setting.catalog cube batch ≡ true
    → legal.IsLegalAppend cache.setting cache.entries who cube v batch.rows
admitted cache who cube v batch lawful passes next call known fits = by (nat_lt cache.setting.row_limit (legal.rows_held cache.entries + length batch.rows)) (version cache.entries cube == VERSION_LIMIT) refl refl passes
  where
    by : (many last : Bool) → nat_lt cache.setting.row_limit (legal.rows_held cache.entries + length batch.rows) ≡ many → (version cache.entries cube == VERSION_LIMIT) ≡ last
        → cond many (Some (TooManyRows (legal.rows_held cache.entries + length batch.rows) cache.setting.row_limit)) (cond last (Some (TooManyVersions VERSION_LIMIT)) None) ≡ None
        → legal.IsLegalAppend cache.setting cache.entries who cube v batch.rows
    by true last e f h = absurd (cc)
    by false true e f h = absurd (cc)
    by false false e f h =
        let few = version_limit cache.setting cache.entries cube (length cache.entries) lawful (omega arith) in
        let whole = ap (λ (xs : List Entry). version xs cube) (take_all (length cache.entries) cache.entries (omega arith)) in
        let apart = eqb-false (version cache.entries cube) VERSION_LIMIT f in
        record {
          call = call;
          known = known;
          next = next;
          versions = omega (arith, few, whole, apart, next);
          fit = (and_parts _ _ fits).1;
          room = ltb-false cache.setting.row_limit (legal.rows_held cache.entries + length batch.rows) e;
        }

-- the version that a further batch makes
pub next_version : (cache : CacheOf) (facts : FactsOf) (cube v : ℕ) (batch : FactRows) → AreFactsOf cache.setting cache.entries facts → cube < length facts.cubes → v ≡ length (batches_of (with_batch facts cube batch) cube) → v ≡ version cache.entries cube + 1
next_version cache facts cube v batch are known is =
    let more = ap length (batches_of-with_batch facts cube batch known) in
    omega (arith, is, more, length-append (batches_of facts cube) (batch ∷ []), version_held cache.setting cache.entries facts are cube)
