-- The whole opening: first its base is asked for, the catalog and then the base batches; and then the files of the
-- aggregate tables.
use Rattle.std.proofs.Common.{◌≡◌, ◌+◌, refl, sym, ap, subst, ◌∙◌, ◌++◌, ℕ, List, [], Option, Ok, Err, append-nil, arith, length}
use Rattle.olap_meaning.specs.declared.tables.Catalog.{Catalog}
use Rattle.olap_meaning.specs.declared.tables.Row.{Row}
use Rattle.olap_meaning.specs.declared.tables.Setting.{Setting}
use Rattle.olap_meaning.specs.History.{Entry}
use Rattle.olap_meaning.specs.Limits.{row_limit}
use Rattle.history_core.specs.History.{setting_of}
use Rattle.history_core.specs.Cache.{CacheOf}
use Rattle.outside.specs.Fetched.{Fetched}
use Rattle.outside.specs.Told.{Files}
use Rattle.cache_opening.specs.declared.fault.OpenFault.{OpenFault}
use Rattle.cache_opening.specs.declared.fault.OpenFault.TheVariants.{OutOfMemory}
use Rattle.cache_opening.specs.Asking.{Asking, made, ◌>>=◌, value, stopped, Leads}
use Rattle.cache_opening.specs.Opening.{Base, HasBase, IsOpened, Opening, agg_entries, base_entries, base_from, batches_from, catalog_from, checks_from, opened_entries, opening_from, rows_checked}
use Rattle.cache_opening.specs.Steps.{AreInstalled, AreOpened, HasCubes, HasJustBase, IsBased, IsBegun, ReadsCame, base_in, batches_in}
use Rattle.cache_opening.proofs.EntryFacts.{opened_batches, opened_length}
use Rattle.cache_opening.proofs.LeadFacts.{leads_first, leads_on, leads_then}

module _ (file : List ℕ) (files : Option Files) (before : List Fetched) where
  abbrev pub then_batches : Catalog → Asking Base
  then_batches catalog = batches_from catalog 0 0 catalog.schema.cubes >>= λ batches. made (record { catalog = catalog; batches = batches })

  pub catalog_unread : (after : List Fetched) (fault : OpenFault) → Leads files before after (catalog_from file) (Err fault) → Leads files before after (base_from file) (Err fault)
  unfolding base_from
  catalog_unread after fault h = leads_first (catalog_from file) then_batches files before after fault h

  -- there was no memory for the manager
  pub manager_stops : (after : List Fetched) (catalog : Catalog) → Leads files before after (catalog_from file) (Ok catalog) → Leads files before after (base_from file) (Err OutOfMemory)
  unfolding base_from
  manager_stops after catalog h = leads_then (catalog_from file) then_batches files before after catalog (Err OutOfMemory) h stopped

  module _ (middle after : List Fetched) (catalog : Catalog) (read : Leads files before middle (catalog_from file) (Ok catalog)) (budget : ℕ) (begun : CacheOf) (is : begun ≡ record { setting = setting_of catalog row_limit budget; entries = [] }) where
    pub batches_unread : (fault : OpenFault) → Leads files middle after (batches_from begun.setting.catalog 0 0 begun.setting.catalog.schema.cubes) (Err fault) → Leads files before after (base_from file) (Err fault)
    unfolding base_from
    batches_unread fault h =
        let P : CacheOf → Type 0 = λ cache. Leads files middle after (batches_from cache.setting.catalog 0 0 cache.setting.catalog.schema.cubes) (Err fault) in
        leads_on (catalog_from file) then_batches files before middle after catalog (Err fault) read (leads_first (batches_from catalog 0 0 catalog.schema.cubes) (λ batches. made (record { catalog = catalog; batches = batches })) files middle after fault (subst P is h))

    pub has_base : (cache : CacheOf) → cache.setting ≡ begun.setting → AreOpened files middle after cache → HasJustBase files before after file budget cache
    unfolding base_from
    has_base cache kept are = record {
      base = base;
      read = leads_on (catalog_from file) then_batches files before middle after catalog (Ok base) read (leads_then (batches_from catalog 0 0 catalog.schema.cubes) (λ batches. made (record { catalog = catalog; batches = batches })) files middle after are.batches (Ok base) here value);
      count = are.count ∙ ap (λ (s : Setting). length s.catalog.cubes) set;
      setting = set;
      entries = are.entries;
    }
      where
        base : Base
        base = record { catalog = catalog; batches = are.batches }

        set : cache.setting ≡ setting_of catalog row_limit budget
        set = kept ∙ ap (λ (c : CacheOf). c.setting) is

        here : Leads files middle after (batches_from catalog 0 0 catalog.schema.cubes) (Ok are.batches)
        here =
            let P : Catalog → Type 0 = λ c. Leads files middle after (batches_from c 0 0 c.schema.cubes) (Ok are.batches) in
            subst P (ap (λ (s : Setting). s.catalog) set) are.read

  abbrev pub then_checks : Base → Asking Opening
  then_checks base = checks_from base 0 base.catalog.schema.aggregates >>= λ tables. made (record { catalog = base.catalog; batches = base.batches; tables = tables })

  pub base_unread : (after : List Fetched) (fault : OpenFault) → Leads files before after (base_from file) (Err fault) → Leads files before after (opening_from file) (Err fault)
  unfolding opening_from
  base_unread after fault h = leads_first (base_from file) then_checks files before after fault h

  module _ (middle after : List Fetched) (budget : ℕ) (cache : CacheOf) (just : HasJustBase files before middle file budget cache) where
    -- there are no tables yet
    entries_are : cache.entries ≡ opened_entries just.base.batches []
    entries_are = just.entries ∙ sym (append-nil (base_entries 0 just.base.batches))

    batches_are : batches_in cache.entries ≡ just.base.batches
    batches_are = ap batches_in entries_are ∙ opened_batches just.base.batches []

    catalog_is : cache.setting.catalog ≡ just.base.catalog
    catalog_is = ap (λ (s : Setting). s.catalog) just.setting

    base_is : base_in cache ≡ just.base
    base_is = ap (λ (c : Catalog). record { catalog = c; batches = batches_in cache.entries }) catalog_is ∙ ap (λ (bs : List (List Row)). record { catalog = just.base.catalog; batches = bs }) batches_are

    pub is_based : IsBased cache
    is_based = record {
      count = ap length batches_are ∙ just.count ∙ ap (λ (c : Catalog). length c.cubes) (sym catalog_is);
      tables = [];
      entries = entries_are ∙ ap (λ (bs : List (List Row)). opened_entries bs []) (sym batches_are);
    }

    pub base_first : cache.entries ≡ base_entries 0 (batches_in cache.entries)
    base_first = just.entries ∙ ap (base_entries 0) (sym batches_are)

    module _ (start steps : ℕ) (few : ReadsCame middle after (base_in cache) start steps) where
      few_here : ReadsCame middle after just.base start steps
      few_here = let P : Base → Type 0 = λ base. ReadsCame middle after base start steps in subst P base_is few

      pub checks_unread : (fault : OpenFault) → Leads files middle after (checks_from (base_in cache) 0 cache.setting.catalog.schema.aggregates) (Err fault) → Leads files before after (opening_from file) (Err fault)
      unfolding opening_from
      checks_unread fault h =
          let P : Base → Type 0 = λ base. Leads files middle after (checks_from base 0 base.catalog.schema.aggregates) (Err fault) in
          leads_on (base_from file) then_checks files before middle after just.base (Err fault) just.read
          (leads_first (checks_from just.base 0 just.base.catalog.schema.aggregates) (λ tables. made (record { catalog = just.base.catalog; batches = just.base.batches; tables = tables })) files middle after fault (subst P base_is h))

      pub few_steps : HasBase files before after file start steps
      few_steps = record {
        base = just.base;
        middle = middle;
        read = just.read;
        more = few_here.more;
        behind = few_here.behind;
        steps = few_here.steps;
      }

      pub is_opened : (done : CacheOf) → done.setting ≡ cache.setting → AreInstalled files middle after (checks_from (base_in cache) 0 cache.setting.catalog.schema.aggregates) cache.entries done.entries → steps ≡ start + rows_checked cache.setting.catalog (batches_in cache.entries) → (opened : IsOpened files before after file budget done) × (steps ≡ start + rows_checked opened.opening.catalog opened.opening.batches)
      unfolding opening_from
      is_opened done kept are cost = (
        record {
          opening = opening;
          read = leads_on (base_from file) then_checks files before middle after just.base (Ok opening) just.read (leads_then (checks_from just.base 0 just.base.catalog.schema.aggregates) (λ tables. made (record { catalog = just.base.catalog; batches = just.base.batches; tables = tables })) files middle after are.tables (Ok opening) here value);
          setting = kept ∙ just.setting;
          entries = entry;
        },
        let P : Base → Type 0 = λ base. steps ≡ start + rows_checked base.catalog base.batches in subst P base_is cost,
      )
        where
          opening : Opening
          opening = record { catalog = just.base.catalog; batches = just.base.batches; tables = are.tables }

          here : Leads files middle after (checks_from just.base 0 just.base.catalog.schema.aggregates) (Ok are.tables)
          here =
              let P : Base → Type 0 = λ base. Leads files middle after (checks_from base 0 base.catalog.schema.aggregates) (Ok are.tables) in
              subst P base_is are.read

          many : length cache.entries ≡ length just.base.batches
          many = ap length entries_are ∙ opened_length just.base.batches [] ∙ omega arith

          entry : done.entries ≡ opened_entries just.base.batches are.tables
          entry = are.entry ∙ ap (λ (n : ℕ). cache.entries ++ agg_entries n are.tables) many ∙ ap (λ (es : List Entry). es ++ agg_entries (length just.base.batches) are.tables) just.entries

-- nothing has happened in a new cache
pub begun : (catalog : Catalog) (budget : ℕ) (cache : CacheOf) → HasCubes catalog → cache ≡ record { setting = setting_of catalog row_limit budget; entries = [] } → IsBegun cache
begun catalog budget cache whole is = subst IsBegun (sym is) (record { whole = whole; limit = refl; entries = refl })
