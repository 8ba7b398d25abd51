-- The base batches of a schema's cubes, one after another.
use Rattle.std.proofs.Common.{◌≡◌, refl, sym, ap, ◌∙◌, subst, ℕ, suc, ◌+◌, ◌<◌, ◌≤◌, List, [], ◌∷◌, ◌++◌, length, drop, Option, Some, None, Result, Ok, Err, arith, append-nil, add-one, length-append, slice_get, Bool, true, false, cond, nat_lt, nat_eq, ◌⊎◌, inl, inr}
use Rattle.std.specs.Prelude.{IfErr, OnOk}
use Rattle.std.specs.Option.{IsSomeAnd}
use Rattle.std.proofs.lemmas.List.{drop_all}
use Rattle.olap_meaning.specs.declared.TheConstants.{VERSION_LIMIT}
use Rattle.olap_meaning.specs.declared.schema.SchemaCube.{SchemaCube}
use Rattle.olap_meaning.specs.declared.tables.Catalog.{Catalog}
use Rattle.olap_meaning.specs.declared.tables.Row.{Row}
use Rattle.olap_meaning.specs.declared.tables.Setting.{Setting}
use Rattle.olap_meaning.specs.History.{Entry, Append}
use Rattle.olap_meaning.specs.Legal.{rows_held}
use Rattle.olap_meaning.specs.Limits.{row_limit}
use Rattle.csv_records.proofs.FieldFacts.{drop_at}
use Rattle.fact_versions.specs.FactRows.{FactRows}
use Rattle.fact_versions.specs.declared.faults.AppendFault.{AppendFault}
use Rattle.fact_versions.specs.declared.faults.AppendFault.TheVariants.{TooManyRows, TooManyVersions, OutOfMemory as NoMemory}
use Rattle.fact_rows.specs.BatchFiles.{batch_of}
use Rattle.fact_rows.specs.declared.fault.BatchFault.{BatchFault}
use Rattle.history_core.specs.Cache.{CacheOf}
use Rattle.fact_versions.specs.Facts.{append_fault}
use Rattle.history_core.specs.Arrivals.{arrival_in}
use Rattle.outside.specs.Fetched.{Fetched}
use Rattle.outside.specs.Told.{Files}
use Rattle.cache_opening.specs.declared.fault.OpenFault.{OpenFault}
use Rattle.cache_opening.specs.declared.fault.OpenFault.TheVariants.{Batch, TooManyRows as ManyRows, OutOfMemory}
use Rattle.cache_opening.specs.Asking.{Asking, made, refused, ◌>>=◌, Comes, value, refuses, stopped, Leads, read_by}
use Rattle.cache_opening.specs.Opening.{base_entries, batch_from, batches_from, facts_from, fitting}
use Rattle.cache_opening.specs.Steps.{AreOpened, HasCubes, IsAppended, IsBegun, IsNext, IsOrMemory}
use Rattle.cache_opening.proofs.BaseFacts.{base_fresh, base_more, base_next, held_more}
use Rattle.cache_opening.proofs.LeadFacts.{leads_first, leads_here, leads_then, refused_by_reader}
use Rattle.cache_opening.proofs.PartFacts.{there_is}
use Rattle.cache_opening.proofs.TableSteps.{behind, behind_none, behind_one, leads_item}

-- what the reader of a base batch refuses, where it has memory
pub refused_batch : (catalog : Catalog) (cube : ℕ) (bytes name : List ℕ) (why : BatchFault) (fault : OpenFault) → (why ≡ BatchFault.OutOfMemory → ⊥) → IsSomeAnd (slice_get catalog.schema.cubes cube) (λ c. name ≡ c.fact)
    → (why ≡ BatchFault.OutOfMemory) ⊎ (batch_of catalog cube bytes ≡ Err why) → IsOrMemory (Batch name why) fault → IsSomeAnd (slice_get catalog.schema.cubes cube) (λ c. Comes (read_by (Batch c.fact) (batch_of catalog cube bytes)) [] (Err fault))
refused_batch catalog cube bytes name why fault other named h is = by (slice_get catalog.schema.cubes cube) named
  where
    by : (o : Option SchemaCube) → IsSomeAnd o (λ c. name ≡ c.fact) → IsSomeAnd o (λ c. Comes (read_by (Batch c.fact) (batch_of catalog cube bytes)) [] (Err fault))
    by None n = absurd n
    by (Some c) n = let P : List ℕ → Type 0 = λ m. Comes (read_by (Batch m) (batch_of catalog cube bytes)) [] (Err fault) in subst P n (refused_by_reader (Batch name) (batch_of catalog cube bytes) BatchFault.OutOfMemory why fault other h is)

-- the first cubes have their base batches, and whatever those of the other cubes lead to, those of all lead to it,
-- after the first ones
pub record AreAppended (files : Option Files) (before now : List Fetched) (catalog : Catalog) (n : ℕ) (entries : List Entry) : Type 0 where
  pub batches : List (List Row)
  pub count : length batches ≡ n
  pub entries_are : entries ≡ base_entries 0 batches
  pub read : (after : List Fetched) (outcome : Result (List (List Row)) OpenFault) → Leads files now after (batches_from catalog n (rows_held entries) (drop n catalog.schema.cubes)) outcome
      → Leads files before after (batches_from catalog 0 0 catalog.schema.cubes) (behind batches outcome)

pub none_appended : (files : Option Files) (before : List Fetched) (cache : CacheOf) → IsBegun cache → AreAppended files before before cache.setting.catalog 0 cache.entries
none_appended files before cache begun =
    let P : List Entry → Type 0 = AreAppended files before before cache.setting.catalog 0 in
    subst P (sym begun.entries) (record { batches = []; count = refl; entries_are = refl; read = λ after outcome h. rw (behind_none outcome) h })

module _ (files : Option Files) (before now after : List Fetched) (catalog : Catalog) (n : ℕ) (entries : List Entry) (are : AreAppended files before now catalog n entries) where
  pub more_appended : (more : List Entry) → IsSomeAnd (slice_get catalog.schema.cubes n) (λ c. IsAppended files now after (batch_from catalog n (rows_held entries) c) n entries more) → AreAppended files before after catalog (n + 1) more
  unfolding batches_from
  more_appended more one = by (slice_get catalog.schema.cubes n) refl one
    where
      by : (o : Option SchemaCube) → slice_get catalog.schema.cubes n ≡ o → IsSomeAnd o (λ c. IsAppended files now after (batch_from catalog n (rows_held entries) c) n entries more) → AreAppended files before after catalog (n + 1) more
      by None at k = absurd k
      by (Some c) at k =
          let entry_at : ℕ → Entry = λ m. Append (record { seat = 0; call = suc m }) m 1 k.rows in
          let last : 0 + length are.batches ≡ n = omega (arith, are.count) in
          let same : base_entries 0 (are.batches ++ k.rows ∷ []) ≡ more =
          base_more 0 are.batches k.rows ∙ ap (λ (m : ℕ). base_entries 0 are.batches ++ entry_at m ∷ []) last
          ∙ ap (λ (es : List Entry). es ++ entry_at n ∷ []) (sym are.entries_are) ∙ sym (rw add-one at k.entry) in
          let held : rows_held more ≡ rows_held entries + length k.rows = ap rows_held k.entry ∙ held_more entries k.rows n in
          record {
            batches = are.batches ++ k.rows ∷ [];
            count = length-append are.batches (k.rows ∷ []) ∙ ap (λ m. m + 1) are.count;
            entries_are = sym same;
            read = λ later outcome rest.
                let P : List SchemaCube → Type 0 = λ cs. Leads files now later (batches_from catalog n (rows_held entries) cs) (behind (k.rows ∷ []) outcome) in
                let Q : Result (List (List Row)) OpenFault → Type 0 = λ r. Leads files before later (batches_from catalog 0 0 catalog.schema.cubes) r in
                let R : ℕ → ℕ → Type 0 = λ m h. Leads files after later (batches_from catalog m h (drop (n + 1) catalog.schema.cubes)) outcome in
                let others : R (suc n) (rows_held entries + length k.rows) = subst (λ (h : ℕ). R (suc n) h) held (subst (λ (m : ℕ). R m (rows_held more)) (let next : n + 1 ≡ suc n = omega arith in next) rest) in
                let one : Leads files now later (batches_from catalog n (rows_held entries) (c ∷ drop (n + 1) catalog.schema.cubes)) (behind (k.rows ∷ []) outcome) =
                leads_item (batch_from catalog n (rows_held entries) c) (λ rows. batches_from catalog (suc n) (rows_held entries + length rows) (drop (n + 1) catalog.schema.cubes)) files now after later k.rows outcome k.read others in
                subst Q (behind_one are.batches k.rows outcome) (are.read later (behind (k.rows ∷ []) outcome) (subst P (sym (drop_at catalog.schema.cubes n c at)) one));
          }

  -- the base batch of the next cube has failed
  pub batch_fails : (fault : OpenFault) → IsSomeAnd (slice_get catalog.schema.cubes n) (λ c. Leads files now after (batch_from catalog n (rows_held entries) c) (Err fault)) → Leads files before after (batches_from catalog 0 0 catalog.schema.cubes) (Err fault)
  unfolding batches_from
  batch_fails fault failed = by (slice_get catalog.schema.cubes n) refl failed
    where
      by : (o : Option SchemaCube) → slice_get catalog.schema.cubes n ≡ o → IsSomeAnd o (λ c. Leads files now after (batch_from catalog n (rows_held entries) c) (Err fault)) → Leads files before after (batches_from catalog 0 0 catalog.schema.cubes) (Err fault)
      by None at k = absurd k
      by (Some c) at k =
          let P : List SchemaCube → Type 0 = λ cs. Leads files now after (batches_from catalog n (rows_held entries) cs) (Err fault) in
          let one : Leads files now after (batches_from catalog n (rows_held entries) (c ∷ drop (n + 1) catalog.schema.cubes)) (Err fault) =
          leads_first (batch_from catalog n (rows_held entries) c) (λ rows. batches_from catalog (suc n) (rows_held entries + length rows) (drop (n + 1) catalog.schema.cubes) >>= λ batches. made (rows ∷ batches)) files now after fault k in
          are.read after (Err fault) (subst P (sym (drop_at catalog.schema.cubes n c at)) one)

module _ (files : Option Files) (before now : List Fetched) (setting : Setting) (cache : CacheOf) (n : ℕ) (same : cache.setting ≡ setting) (whole : HasCubes setting.catalog) (are : AreAppended files before now setting.catalog n cache.entries) where
  whole_here : HasCubes cache.setting.catalog
  whole_here = subst (λ (s : Setting). HasCubes s.catalog) (sym same) whole

  -- the next cube may have its base batch
  pub next_cube : setting.row_limit ≡ row_limit → n < length setting.catalog.cubes → IsNext cache n
  next_cube limit known = record {
    whole = whole_here;
    limit = ap (λ (s : Setting). s.row_limit) same ∙ limit;
    known = rw same known;
    call = rw (are.entries_are, ← are.count) (base_next are.batches);
    fresh = rw (are.entries_are, ← are.count) (base_fresh are.batches);
  }

  -- all cubes have their base batches
  pub all_appended : n ≡ length setting.catalog.cubes → AreOpened files before now cache
  unfolding batches_from
  all_appended all =
      let past : drop n setting.catalog.schema.cubes ≡ [] = drop_all n setting.catalog.schema.cubes (let end : length setting.catalog.schema.cubes ≤ n = omega (arith, all, whole.cubes) in end) in
      let P : List SchemaCube → Type 0 = λ cs. Leads files now now (batches_from setting.catalog n (rows_held cache.entries) cs) (Ok []) in
      let Q : List (List Row) → Type 0 = λ bs. Leads files before now (batches_from setting.catalog 0 0 setting.catalog.schema.cubes) (Ok bs) in
      let R : Setting → Type 0 = λ s. Leads files before now (batches_from s.catalog 0 0 s.catalog.schema.cubes) (Ok are.batches) in
      record {
        batches = are.batches;
        count = are.count ∙ all ∙ ap (λ (s : Setting). length s.catalog.cubes) (sym same);
        read = subst R (sym same) (subst Q (append-nil are.batches) (are.read now (Ok []) (subst P (sym past) (leads_here files now (made []) (Ok []) value))));
        entries = are.entries_are;
      }

refusal_of : (limit held count v : ℕ) → Option AppendFault
refusal_of limit held count v =
    cond (nat_lt limit (held + count)) (Some (TooManyRows (held + count) limit)) (cond (nat_eq v VERSION_LIMIT) (Some (TooManyVersions VERSION_LIMIT)) None)

abbrev pub fitting_in : ℕ → List ℕ → ℕ → List Row → Asking (List Row)
fitting_in limit file held rows = cond (nat_lt limit (held + length rows)) (refused (ManyRows file (held + length rows) limit)) (made rows)

-- an append that is admitted has a batch that fits, and one that is refused has one that does not
fits_by : (many : Bool) (limit held : ℕ) (rows : List Row) (file : List ℕ) → nat_lt limit (held + length rows) ≡ many → row_limit ≡ limit → refusal_of limit held (length rows) 0 ≡ None → fitting file held rows ≡ made rows
unfolding refusal_of
fits_by true limit held rows file test same passes = absurd (let e : refusal_of limit held (length rows) 0 ≡ Some (TooManyRows (held + length rows) limit) = rw test refl in let n : ⊥ = cc in n)
fits_by false limit held rows file test same passes = let P : ℕ → Type 0 = λ k. fitting_in k file held rows ≡ made rows in subst P (sym same) (rw test refl)

same_some : (a b : AppendFault) → Some a ≡ Some b → a ≡ b
same_some a b e = cc

-- one that is refused for its rows has too many
refused_by : (many : Bool) (limit held : ℕ) (rows : List Row) (file : List ℕ) (total most : ℕ) → nat_lt limit (held + length rows) ≡ many → row_limit ≡ limit → refusal_of limit held (length rows) 0 ≡ Some (TooManyRows total most)
    → fitting file held rows ≡ refused (ManyRows file total most)
unfolding refusal_of
refused_by true limit held rows file total most test same is =
    let e : Some (TooManyRows (held + length rows) limit) ≡ Some (TooManyRows total most) = sym (rw test refl) ∙ is in
    let faults : TooManyRows (held + length rows) limit ≡ TooManyRows total most = same_some _ _ e in
    let all : held + length rows ≡ total = cc faults in
    let bound : limit ≡ most = cc faults in
    let P : ℕ → Type 0 = λ k. fitting_in k file held rows ≡ refused (ManyRows file total most) in
    subst P (sym same) (rw test (ap (λ n. refused (ManyRows file n limit)) all ∙ ap (λ n. refused (ManyRows file total n)) bound))
refused_by false limit held rows file total most test same is = absurd (let e : refusal_of limit held (length rows) 0 ≡ None = rw test refl in let n : ⊥ = cc in n)

module _ (cache : CacheOf) (cube : ℕ) (rows : List Row) (next : IsNext cache cube) where
  refusal_is : append_fault (arrival_in cache cube rows) ≡ refusal_of cache.setting.row_limit (rows_held cache.entries) (length rows) 0
  unfolding refusal_of
  refusal_is = rw next.fresh refl

  -- the cube is one of the schema's
  found_cube : (P : SchemaCube → Type 0) → ((c : SchemaCube) → slice_get cache.setting.catalog.schema.cubes cube ≡ Some c → P c) → IsSomeAnd (slice_get cache.setting.catalog.schema.cubes cube) P
  found_cube P all = there_is cache.setting.catalog.schema.cubes cube P (let known : cube < length cache.setting.catalog.cubes = next.known in omega (arith, next.whole.cubes)) all

  pub batch_fits : append_fault (arrival_in cache cube rows) ≡ None → IsSomeAnd (slice_get cache.setting.catalog.schema.cubes cube) (λ c. fitting c.fact (rows_held cache.entries) rows ≡ made rows)
  batch_fits passes =
      found_cube (λ c. fitting c.fact (rows_held cache.entries) rows ≡ made rows)
      (λ c at. fits_by (nat_lt cache.setting.row_limit (rows_held cache.entries + length rows)) cache.setting.row_limit (rows_held cache.entries) rows c.fact refl (sym next.limit) (sym refusal_is ∙ passes))

  pub batch_refused :
      (catalog : Catalog) (name : List ℕ) (total most : ℕ) (fault : OpenFault) → catalog ≡ cache.setting.catalog → IsSomeAnd (slice_get catalog.schema.cubes cube) (λ c. name ≡ c.fact)
      → (TooManyRows total most ≡ NoMemory) ⊎ (append_fault (arrival_in cache cube rows) ≡ Some (TooManyRows total most)) → IsOrMemory (ManyRows name total most) fault
      → IsSomeAnd (slice_get cache.setting.catalog.schema.cubes cube) (λ c. Comes (fitting c.fact (rows_held cache.entries) rows) [] (Err fault))
  batch_refused catalog name total most fault same named why is =
      found_cube (λ c. Comes (fitting c.fact (rows_held cache.entries) rows) [] (Err fault)) (λ c at. by c (rw (same, at) at named) is why)
    where
      by : (c : SchemaCube) → name ≡ c.fact → IsOrMemory (ManyRows name total most) fault → (TooManyRows total most ≡ NoMemory) ⊎ (append_fault (arrival_in cache cube rows) ≡ Some (TooManyRows total most)) → Comes (fitting c.fact (rows_held cache.entries) rows) [] (Err fault)
      by c file (inr memory) w = rw memory stopped
      by c file (inl same_fault) (inl memory) = absurd (let n : ⊥ = cc in n)
      by c file (inl same_fault) (inr refusal) =
          let e = refused_by (nat_lt cache.setting.row_limit (rows_held cache.entries + length rows)) cache.setting.row_limit (rows_held cache.entries) rows c.fact total most refl (sym next.limit) (sym refusal_is ∙ refusal) in
          let P : Asking (List Row) → Type 0 = λ asking. Comes asking [] (Err fault) in
          let here : Asking (List Row) = refused (ManyRows c.fact total most) in
          let Q : OpenFault → Type 0 = λ f. Comes here [] (Err f) in
          subst P (sym e) (subst Q (sym (same_fault ∙ ap (λ (n : List ℕ). ManyRows n total most) file)) refuses)

  -- there was no memory for it
  pub batch_stops : IsSomeAnd (slice_get cache.setting.catalog.schema.cubes cube) (λ c. Comes (fitting c.fact (rows_held cache.entries) rows) [] (Err OutOfMemory))
  batch_stops = found_cube (λ c. Comes (fitting c.fact (rows_held cache.entries) rows) [] (Err OutOfMemory)) (λ c at. stopped)

-- the base batch of a cube: what its file says, and whether it fits
module _ (files : Option Files) (before after : List Fetched) (known catalog : Catalog) (same : known ≡ catalog) (cube held : ℕ) where
  abbrev pub then : SchemaCube → FactRows → Asking (List Row)
  then c batch = fitting c.fact held batch.rows

  pub facts_unread : (fault : OpenFault) → IsSomeAnd (slice_get known.schema.cubes cube) (λ c. Leads files before after (facts_from known cube c) (Err fault)) → IsSomeAnd (slice_get catalog.schema.cubes cube) (λ c. Leads files before after (batch_from catalog cube held c) (Err fault))
  unfolding batch_from
  facts_unread fault failed = by (slice_get catalog.schema.cubes cube) (rw same at failed)
    where
      by : (o : Option SchemaCube) → IsSomeAnd o (λ c. Leads files before after (facts_from catalog cube c) (Err fault)) → IsSomeAnd o (λ c. Leads files before after (facts_from catalog cube c >>= then c) (Err fault))
      by None k = absurd k
      by (Some c) k = leads_first (facts_from catalog cube c) (then c) files before after fault k

  module _ (batch : FactRows) (read : IsSomeAnd (slice_get known.schema.cubes cube) (λ c. Leads files before after (facts_from known cube c) (Ok batch))) where
    pub base_read : (r : Result (Unit {0}) OpenFault) (entries more : List Entry)
        → OnOk r (IsSomeAnd (slice_get catalog.schema.cubes cube) (λ c. fitting c.fact held batch.rows ≡ made batch.rows)) → OnOk r (more ≡ entries ++ Append (record { seat = 0; call = cube + 1 }) cube 1 batch.rows ∷ [])
        → OnOk r (IsSomeAnd (slice_get catalog.schema.cubes cube) (λ c. IsAppended files before after (batch_from catalog cube held c) cube entries more))
    unfolding batch_from
    base_read (Err fault) entries more fits entry = tt
    base_read (Ok u) entries more fits entry = by (slice_get catalog.schema.cubes cube) (rw same at read) fits
      where
        by : (o : Option SchemaCube) → IsSomeAnd o (λ c. Leads files before after (facts_from catalog cube c) (Ok batch)) → IsSomeAnd o (λ c. fitting c.fact held batch.rows ≡ made batch.rows)
            → IsSomeAnd o (λ c. IsAppended files before after (facts_from catalog cube c >>= then c) cube entries more)
        by None h k = absurd h
        by (Some c) h k =
            let P : Asking (List Row) → Type 0 = λ asking. Comes asking [] (Ok batch.rows) in
            record { rows = batch.rows; read = leads_then (facts_from catalog cube c) (then c) files before after batch (Ok batch.rows) h (subst P (sym k) value); entry = entry }

    pub base_refused : (r : Result (Unit {0}) OpenFault) → IfErr r (λ fault. IsSomeAnd (slice_get catalog.schema.cubes cube) (λ c. Comes (fitting c.fact held batch.rows) [] (Err fault)))
        → IfErr r (λ fault. IsSomeAnd (slice_get catalog.schema.cubes cube) (λ c. Leads files before after (batch_from catalog cube held c) (Err fault)))
    unfolding batch_from
    base_refused (Ok u) is = tt
    base_refused (Err fault) is = by (slice_get catalog.schema.cubes cube) (rw same at read) is
      where
        by : (o : Option SchemaCube) → IsSomeAnd o (λ c. Leads files before after (facts_from catalog cube c) (Ok batch)) → IsSomeAnd o (λ c. Comes (fitting c.fact held batch.rows) [] (Err fault)) → IsSomeAnd o (λ c. Leads files before after (facts_from catalog cube c >>= then c) (Err fault))
        by None h k = absurd h
        by (Some c) h k = leads_then (facts_from catalog cube c) (then c) files before after batch (Err fault) h k
