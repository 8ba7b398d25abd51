-- The files of a schema's aggregate tables, one after another.
use Rattle.std.proofs.Common.{◌≡◌, refl, sym, ap, ◌∙◌, subst, ℕ, suc, ◌+◌, ◌≤◌, List, [], ◌∷◌, ◌++◌, length, drop, map, Option, Some, None, Result, Ok, Err, arith, append-nil, append_assoc, slice_get}
use Rattle.std.specs.Option.{IsSomeAnd}
use Rattle.std.proofs.lemmas.List.{drop_all, length-map}
use Rattle.olap_meaning.specs.declared.schema.TheConstants.{CUBE_LIMIT}
use Rattle.olap_meaning.specs.declared.schema.SchemaAggregate.{SchemaAggregate}
use Rattle.olap_meaning.specs.declared.tables.Catalog.{Catalog}
use Rattle.olap_meaning.specs.declared.tables.Row.{Row}
use Rattle.olap_meaning.specs.History.{Entry, Agg}
use Rattle.olap_meaning.specs.Schema.{cube_over}
use Rattle.olap_meaning.specs.Whole.{IsWhole}
use Rattle.csv_records.proofs.FieldFacts.{drop_at}
use Rattle.history_core.specs.Cache.{CacheOf}
use Rattle.outside.specs.Fetched.{Fetched}
use Rattle.outside.specs.Told.{Files}
use Rattle.cache_opening.specs.declared.fault.OpenFault.{OpenFault}
use Rattle.cache_opening.specs.declared.fault.OpenFault.TheVariants.{OutOfMemory}
use Rattle.cache_opening.specs.Asking.{Asking, made, ◌>>=◌, value, Leads}
use Rattle.cache_opening.specs.Opening.{Base, agg_entries, base_entries, check_from, checked_from, checks_from, files_came, opened_entries, rows_come, rows_for}
use Rattle.cache_opening.specs.Steps.{AreInstalled, FilesCame, IsBased, ReadsCame, ReadsFew, batches_in, files_for}
use Rattle.cache_opening.proofs.CameFacts.{came_more, reads_most, rows_fail, rows_on}
use Rattle.cache_opening.proofs.EntryFacts.{base_length, opened_batches, opened_length, opened_more}
use Rattle.cache_opening.proofs.LeadFacts.{leads_first, leads_here, leads_on, leads_short, leads_then}
use Rattle.cache_opening.proofs.TableSteps.{behind, behind_none}

behind_some : {A : Type 0} (front items : List A) (outcome : Result (List A) OpenFault) → behind front (behind items outcome) ≡ behind (front ++ items) outcome
behind_some front items (Ok more) = ap Ok (sym (append_assoc front items more))
behind_some front items (Err fault) = refl

-- some items are made, and then the others: what they lead to, both lead to
leads_some : {A : Type 0} (first others : Asking (List A)) (files : Option Files) (before middle after : List Fetched) (items : List A) (outcome : Result (List A) OpenFault)
    → Leads files before middle first (Ok items) → Leads files middle after others outcome → Leads files before after (first >>= λ xs. others >>= λ ys. made (xs ++ ys)) (behind items outcome)
leads_some first others files before middle after items (Ok more) h k =
    leads_on first (λ xs. others >>= λ ys. made (xs ++ ys)) files before middle after items (Ok (items ++ more)) h (leads_then others (λ ys. made (items ++ ys)) files middle after more (Ok (items ++ more)) k value)
leads_some first others files before middle after items (Err fault) h k =
    leads_on first (λ xs. others >>= λ ys. made (xs ++ ys)) files before middle after items (Err fault) h (leads_first others (λ ys. made (items ++ ys)) files middle after fault k)

-- one aggregate table
module _ (files : Option Files) (before : List Fetched) (base : Base) (table : ℕ) (entries : List Entry) where
  -- it has no file
  pub none_installed : (o : Option SchemaAggregate) → IsSomeAnd o (λ own. ◌≡◌ {A = Option (List ℕ)} None own.file) → IsSomeAnd o (λ own. AreInstalled files before before (checked_from base table own.file) entries entries)
  none_installed None is = absurd is
  none_installed (Some own) is =
      let P : Option (List ℕ) → Type 0 = λ file. AreInstalled files before before (checked_from base table file) entries entries in
      subst P is (record { tables = []; read = leads_here files before (made []) (Ok []) value; entry = sym (append-nil entries) })

  module _ (after : List Fetched) (file : List ℕ) where
    -- it has one, and is installed
    pub one_installed : (o : Option SchemaAggregate) (place version : ℕ) (more : List Entry) → IsSomeAnd o (λ own. Some file ≡ own.file) → Leads files before after (check_from base table file) (Ok (table ∷ [])) → place ≡ table → version ≡ 1
        → more ≡ entries ++ Agg (record { seat = 0; call = length entries + 1 }) place version ∷ [] → IsSomeAnd o (λ own. AreInstalled files before after (checked_from base table own.file) entries more)
    one_installed None place version more is read same first entry = absurd is
    one_installed (Some own) place version more is read same first entry =
        let P : Option (List ℕ) → Type 0 = λ f. AreInstalled files before after (checked_from base table f) entries more in
        let one : length entries + 1 ≡ suc (length entries) = omega arith in
        let call_is : more ≡ entries ++ Agg (record { seat = 0; call = suc (length entries) }) place version ∷ [] = entry ∙ ap (λ (n : ℕ). entries ++ Agg (record { seat = 0; call = n }) place version ∷ []) one in
        let table_is = ap (λ (t : ℕ). entries ++ Agg (record { seat = 0; call = suc (length entries) }) t version ∷ []) same in
        let version_is = ap (λ (v : ℕ). entries ++ Agg (record { seat = 0; call = suc (length entries) }) table v ∷ []) first in
        subst P is (record { tables = table ∷ []; read = read; entry = call_is ∙ table_is ∙ version_is })

    -- it was not read, or its file is not right
    pub one_fails : (o : Option SchemaAggregate) (fault : OpenFault) → IsSomeAnd o (λ own. Some file ≡ own.file) → Leads files before after (check_from base table file) (Err fault) → IsSomeAnd o (λ own. Leads files before after (checked_from base table own.file) (Err fault))
    one_fails None fault is h = absurd is
    one_fails (Some own) fault is h = let P : Option (List ℕ) → Type 0 = λ f. Leads files before after (checked_from base table f) (Err fault) in subst P is h

    -- there was no memory to install it
    pub one_stops : (o : Option SchemaAggregate) → IsSomeAnd o (λ own. Some file ≡ own.file) → Leads files before after (check_from base table file) (Ok (table ∷ [])) → IsSomeAnd o (λ own. Leads files before after (checked_from base table own.file) (Err OutOfMemory))
    one_stops o is h = one_fails o OutOfMemory is (leads_short files before after (check_from base table file) (table ∷ []) h)

-- the first aggregate tables are checked, and whatever those of the other places lead to, those of all lead to it, after
-- the first ones; and for each file of the others that comes its rows may still be read
pub record AreChecked (files : Option Files) (before now : List Fetched) (base : Base) (n : ℕ) (entries : List Entry) (start steps : ℕ) : Type 0 where
  pub tables : List ℕ
  pub entries_are : entries ≡ opened_entries base.batches tables
  pub read : (after : List Fetched) (outcome : Result (List ℕ) OpenFault) → Leads files now after (checks_from base n (drop n base.catalog.schema.aggregates)) outcome
      → Leads files before after (checks_from base 0 base.catalog.schema.aggregates) (behind tables outcome)
  pub more : List Fetched
  pub behind : now ≡ before ++ more
  pub few : (came : ℕ) → steps + rows_come base.catalog base.batches n (drop n base.catalog.schema.aggregates) came ≤ start + rows_come base.catalog base.batches 0 base.catalog.schema.aggregates (files_came more + came)

pub none_checked : (files : Option Files) (before : List Fetched) (base : Base) (entries : List Entry) (start : ℕ) → entries ≡ base_entries 0 base.batches → AreChecked files before before base 0 entries start start
none_checked files before base entries start first = record {
  tables = [];
  entries_are = first ∙ sym (append-nil (base_entries 0 base.batches));
  read = λ after outcome h. rw (behind_none outcome) h;
  more = [];
  behind = sym (append-nil before);
  few = λ came.
      let P : ℕ → Type 0 = λ n. start + rows_come base.catalog base.batches 0 base.catalog.schema.aggregates came ≤ start + rows_come base.catalog base.batches 0 base.catalog.schema.aggregates n in
      subst P (let none : came ≡ 0 + came = omega arith in none) (omega arith);
}

module _ (files : Option Files) (before now after : List Fetched) (base : Base) (n : ℕ) (entries : List Entry) (start steps : ℕ) (are : AreChecked files before now base n entries start steps) where
  abbrev others : List SchemaAggregate
  others = drop (n + 1) base.catalog.schema.aggregates

  -- how many rows all have, where this many files come
  abbrev all_rows : ℕ → ℕ
  all_rows came = rows_come base.catalog base.batches 0 base.catalog.schema.aggregates came

  -- how many rows the next and the others have, where this many files come
  abbrev rows_left : List SchemaAggregate → ℕ → ℕ
  rows_left owns came = rows_come base.catalog base.batches n owns came

  few_left : (own : SchemaAggregate) → slice_get base.catalog.schema.aggregates n ≡ Some own → (came : ℕ) → steps + rows_left (own ∷ others) came ≤ start + all_rows (files_came are.more + came)
  few_left own at came =
      let P : List SchemaAggregate → Type 0 = λ owns. steps + rows_left owns came ≤ start + all_rows (files_came are.more + came) in
      subst P (drop_at base.catalog.schema.aggregates n own at) (are.few came)

  behind_both : (more : List Fetched) → after ≡ now ++ more → after ≡ before ++ (are.more ++ more)
  behind_both more added = added ∙ ap (λ (seen : List Fetched). seen ++ more) are.behind ∙ append_assoc before are.more more

  pub more_checked : (more : List Entry) (later : ℕ) → IsSomeAnd (slice_get base.catalog.schema.aggregates n) (λ own. AreInstalled files now after (checked_from base n own.file) entries more)
      → IsSomeAnd (slice_get base.catalog.schema.aggregates n) (λ own. FilesCame now after (files_for own))
      → IsSomeAnd (slice_get base.catalog.schema.aggregates n) (λ own. ReadsFew now after (rows_for base.catalog base.batches n own) steps later) → AreChecked files before after base (n + 1) more start later
  unfolding checks_from
  more_checked more later one came few = by (slice_get base.catalog.schema.aggregates n) refl one came few
    where
      by : (o : Option SchemaAggregate) → slice_get base.catalog.schema.aggregates n ≡ o → IsSomeAnd o (λ own. AreInstalled files now after (checked_from base n own.file) entries more)
          → IsSomeAnd o (λ own. FilesCame now after (files_for own)) → IsSomeAnd o (λ own. ReadsFew now after (rows_for base.catalog base.batches n own) steps later) → AreChecked files before after base (n + 1) more start later
      by None at k f l = absurd k
      by (Some own) at k f l = record {
        tables = are.tables ++ k.tables;
        entries_are = k.entry ∙ ap (λ (es : List Entry). es ++ agg_entries (length es) k.tables) are.entries_are ∙ opened_more base.batches are.tables k.tables;
        read = λ last outcome rest.
            let P : List SchemaAggregate → Type 0 = λ owns. Leads files now last (checks_from base n owns) (behind k.tables outcome) in
            let Q : Result (List ℕ) OpenFault → Type 0 = λ r. Leads files before last (checks_from base 0 base.catalog.schema.aggregates) r in
            let R : ℕ → Type 0 = λ m. Leads files after last (checks_from base m others) outcome in
            let behind_it : R (suc n) = subst R (let next : n + 1 ≡ suc n = omega arith in next) rest in
            let both : Leads files now last (checks_from base n (own ∷ others)) (behind k.tables outcome) = leads_some (checked_from base n own.file) (checks_from base (suc n) others) files now after last k.tables outcome k.read behind_it in
            subst Q (behind_some are.tables k.tables outcome) (are.read last (behind k.tables outcome) (subst P (sym (drop_at base.catalog.schema.aggregates n own at)) both));
        more = are.more ++ f.more;
        behind = behind_both f.more f.behind;
        few = λ came.
            let most = reads_most now after (rows_for base.catalog base.batches n own) steps later l in
            let on = rows_on base.catalog base.batches n own others came in
            let left = few_left own at (files_for own + came) in
            let next : suc n ≡ n + 1 = omega arith in
            let here = ap (λ (m : ℕ). rows_come base.catalog base.batches m others came) next in
            let count : files_came are.more + (files_for own + came) ≡ files_came (are.more ++ f.more) + came = let both = came_more are.more f.more in let own_came = f.count in omega (arith, both, own_came) in
            let all = ap all_rows count in
            omega (arith, most, on, left, here, all);
      }

  -- the next aggregate table has failed
  pub check_fails : (fault : OpenFault) → IsSomeAnd (slice_get base.catalog.schema.aggregates n) (λ own. Leads files now after (checked_from base n own.file) (Err fault)) → Leads files before after (checks_from base 0 base.catalog.schema.aggregates) (Err fault)
  unfolding checks_from
  check_fails fault failed = by (slice_get base.catalog.schema.aggregates n) refl failed
    where
      by : (o : Option SchemaAggregate) → slice_get base.catalog.schema.aggregates n ≡ o → IsSomeAnd o (λ own. Leads files now after (checked_from base n own.file) (Err fault)) → Leads files before after (checks_from base 0 base.catalog.schema.aggregates) (Err fault)
      by None at k = absurd k
      by (Some own) at k =
          let P : List SchemaAggregate → Type 0 = λ owns. Leads files now after (checks_from base n owns) (Err fault) in
          let one : Leads files now after (checks_from base n (own ∷ others)) (Err fault) = leads_first (checked_from base n own.file) (λ xs. checks_from base (suc n) others >>= λ ys. made (xs ++ ys)) files now after fault k in
          are.read after (Err fault) (subst P (sym (drop_at base.catalog.schema.aggregates n own at)) one)

  -- until then at most the rows were read for which files came
  pub few_then : (later : ℕ) → IsSomeAnd (slice_get base.catalog.schema.aggregates n) (λ own. ReadsFew now after (rows_for base.catalog base.batches n own) steps later) → ReadsCame before after base start later
  few_then later few = by (slice_get base.catalog.schema.aggregates n) refl few
    where
      by : (o : Option SchemaAggregate) → slice_get base.catalog.schema.aggregates n ≡ o → IsSomeAnd o (λ own. ReadsFew now after (rows_for base.catalog base.batches n own) steps later) → ReadsCame before after base start later
      by None at k = absurd k
      by (Some own) at k = record {
        more = are.more ++ k.more;
        behind = behind_both k.more k.behind;
        steps =
            let fails = rows_fail base.catalog base.batches n own others (files_came k.more) in
            let left = few_left own at (files_came k.more) in
            let all = ap all_rows (sym (came_more are.more k.more)) in
            let few = k.steps in
            omega (arith, few, fails, left, all);
      }

-- before the first one there are few entries
pub few_first : (cache : CacheOf) (catalog : Catalog) → catalog ≡ cache.setting.catalog → IsBased cache → cache.entries ≡ base_entries 0 (batches_in cache.entries) → IsWhole catalog.schema → catalog.cubes ≡ map (cube_over catalog.schema.dimensions) catalog.schema.cubes
    → length cache.entries ≤ CUBE_LIMIT
few_first cache catalog same based first whole cubes =
    let many = ap length first ∙ base_length 0 (batches_in cache.entries) ∙ based.count ∙ ap (λ (c : Catalog). length c.cubes) (sym same) ∙ ap length cubes ∙ length-map catalog.schema.cubes (cube_over catalog.schema.dimensions) in
    omega (arith, many, whole.limits.cubes)

module _ (files : Option Files) (before now : List Fetched) (base : Base) (n : ℕ) (entries : List Entry) (start steps : ℕ) (are : AreChecked files before now base n entries start steps) where
  batches_are : batches_in entries ≡ base.batches
  batches_are = ap batches_in are.entries_are ∙ opened_batches base.batches are.tables

  -- the base stays
  pub base_stays : (catalog : Catalog) → catalog ≡ base.catalog → ◌≡◌ {A = Base} (record { catalog = catalog; batches = batches_in entries }) base
  base_stays catalog same = ap (λ (c : Catalog). record { catalog = c; batches = batches_in entries }) same ∙ ap (λ (bs : List (List Row)). record { catalog = base.catalog; batches = bs }) batches_are

  -- the next table may be installed
  pub still_based : (cache : CacheOf) → cache.entries ≡ entries → cache.setting.catalog ≡ base.catalog → length base.batches ≡ length base.catalog.cubes → IsBased cache
  still_based cache here same count =
      let batches : batches_in cache.entries ≡ base.batches = ap batches_in here ∙ batches_are in
      record {
        count = ap length batches ∙ count ∙ ap (λ (c : Catalog). length c.cubes) (sym same);
        tables = are.tables;
        entries = here ∙ are.entries_are ∙ ap (λ (bs : List (List Row)). opened_entries bs are.tables) (sym batches);
      }

  -- all aggregate tables are checked
  pub all_checked : (first : List Entry) → first ≡ base_entries 0 base.batches → length base.catalog.schema.aggregates ≤ n → AreInstalled files before now (checks_from base 0 base.catalog.schema.aggregates) first entries
  unfolding checks_from
  all_checked first is end =
      let past : drop n base.catalog.schema.aggregates ≡ [] = drop_all n base.catalog.schema.aggregates end in
      let P : List SchemaAggregate → Type 0 = λ owns. Leads files now now (checks_from base n owns) (Ok []) in
      let Q : List ℕ → Type 0 = λ ts. Leads files before now (checks_from base 0 base.catalog.schema.aggregates) (Ok ts) in
      let opened : first ≡ opened_entries base.batches [] = is ∙ sym (append-nil (base_entries 0 base.batches)) in
      let many : length first ≡ length base.batches = ap length opened ∙ opened_length base.batches [] ∙ omega arith in
      record {
        tables = are.tables;
        read = subst Q (append-nil are.tables) (are.read now (Ok []) (subst P (sym past) (leads_here files now (made []) (Ok []) value)));
        entry = are.entries_are ∙ ap (λ (es : List Entry). es ++ agg_entries (length base.batches) are.tables) (sym is) ∙ ap (λ (m : ℕ). first ++ agg_entries m are.tables) (sym many);
      }

  -- until now at most the rows were read for which files came
  pub few_now : ReadsCame before now base start steps
  few_now = record {
    more = are.more;
    behind = are.behind;
    steps =
        let few = are.few 0 in
        let none : files_came are.more + 0 ≡ files_came are.more = omega arith in
        let all = ap (rows_come base.catalog base.batches 0 base.catalog.schema.aggregates) none in
        omega (arith, few, all);
  }
