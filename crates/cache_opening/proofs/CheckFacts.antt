-- A table that is checked over the present version of its cube is checked over the base batch.
use Rattle.std.proofs.Common.{◌≡◌, sym, ap, ◌∙◌, ℕ, ◌<◌, List, [], ◌∷◌, length, get_or, Option, Some, None, Ok, Err, ◌⊎◌, inl, inr, arith}
use Rattle.std.specs.Option.{option_map_or}
use Rattle.olap_meaning.specs.declared.tables.Catalog.{Catalog}
use Rattle.olap_meaning.specs.Catalog.{table_cube}
use Rattle.olap_meaning.specs.History.{Entry, rows_of, version}
use Rattle.olap_meaning.proofs.Lists.{mapped_from}
use Rattle.fact_versions.specs.FactRows.{FactRows}
use Rattle.fact_reader.specs.BodyRows.{rows_in}
use Rattle.agg_tables.specs.declared.declared.Declared.{Declared}
use Rattle.agg_tables.specs.declared.fault.AggFault.{AggFault}
use Rattle.agg_tables.specs.Declarations.{declared_table}
use Rattle.agg_tables.specs.Files.{check_fault}
use Rattle.agg_tables.specs.Tables.{TableOf, built, built_over, table_over}
use Rattle.history_core.specs.Cache.{CacheOf}
use Rattle.cache_opening.specs.declared.fault.OpenFault.{OpenFault}
use Rattle.cache_opening.specs.declared.fault.OpenFault.TheVariants.{Aggregate}
use Rattle.cache_opening.specs.Asking.{Comes, read_by}
use Rattle.cache_opening.specs.Opening.{base_rows, table_in, unless_fault}
use Rattle.cache_opening.specs.Steps.{IsBased, IsBaseTable, IsOrMemory, base_in, batches_in}
use Rattle.cache_opening.proofs.EntryFacts.{opened_rows, opened_version}
use Rattle.cache_opening.proofs.LeadFacts.{refused_by_reader}

module _ (cache : CacheOf) (based : IsBased cache) (first : Catalog) (first_is : first ≡ cache.setting.catalog) (table cube : ℕ) (is : table_cube first table ≡ Some cube) (known : cube < length first.cubes)
    (snapshot : List FactRows) (version_is : length snapshot ≡ version cache.entries cube) (rows_are : rows_in snapshot ≡ rows_of cache.entries cube (version cache.entries cube)) where
  within : cube < length (batches_in cache.entries)
  within = let cubes = ap (λ (c : Catalog). length c.cubes) first_is in omega (arith, known, cubes, based.count)

  one : version cache.entries cube ≡ 1
  one = ap (λ (es : List Entry). version es cube) based.entries ∙ opened_version cube (batches_in cache.entries) based.tables within

  is_here : table_cube cache.setting.catalog table ≡ Some cube
  is_here = ap (λ (c : Catalog). table_cube c table) (sym first_is) ∙ is

  -- its rows are those of the base batch
  pub rows_here : rows_in snapshot ≡ base_rows cache.setting.catalog (batches_in cache.entries) table
  rows_here =
      rows_are ∙ ap (rows_of cache.entries cube) one ∙ ap (λ (es : List Entry). rows_of es cube 1) based.entries ∙ opened_rows cube (batches_in cache.entries) based.tables within
      ∙ sym (ap (λ (o : Option ℕ). option_map_or (λ c. get_or (batches_in cache.entries) c []) o []) is_here)

  module _ (catalog : Catalog) (same : catalog ≡ cache.setting.catalog) where
    -- a table that is built over it is one over the base batch
    pub base_table : (made : TableOf) → built catalog table snapshot ≡ Some made → IsBaseTable cache table made
    base_table made h = record {
      own = record {
        cube = cube;
        known = ap (table_cube cache.setting.catalog) place ∙ is_here;
        reached = omega (arith, counted);
        built = ap (built_over cache.setting.catalog made.table made.version) rows ∙ ap (λ (v : ℕ). built_over cache.setting.catalog made.table v (rows_in snapshot)) (sym many) ∙ ap (λ (t : ℕ). built_over cache.setting.catalog t (length snapshot) (rows_in snapshot)) place
            ∙ ap (λ (c : Catalog). built_over c table (length snapshot) (rows_in snapshot)) (sym same) ∙ h;
      };
      place = place;
      version = counted ∙ one;
    }
      where
        parts : (declared : Declared) × (declared_table catalog table ≡ Some declared) × (table_over catalog table (length snapshot) (rows_in snapshot) declared ≡ made)
        parts = mapped_from (table_over catalog table (length snapshot) (rows_in snapshot)) (declared_table catalog table) made h

        place : made.table ≡ table
        place = sym (ap (λ (t : TableOf). t.table) parts.2)

        many : length snapshot ≡ made.version
        many = ap (λ (t : TableOf). t.version) parts.2

        counted : made.version ≡ version cache.entries cube
        counted = sym many ∙ version_is

        rows : rows_of cache.entries cube made.version ≡ rows_in snapshot
        rows = ap (rows_of cache.entries cube) counted ∙ sym rows_are

    module _ (bytes : List ℕ) where
      fault_is : check_fault cache.setting.catalog table bytes (base_rows cache.setting.catalog (batches_in cache.entries) table) ≡ check_fault catalog table bytes (rows_in snapshot)
      fault_is = ap (check_fault cache.setting.catalog table bytes) (sym rows_here) ∙ ap (λ (c : Catalog). check_fault c table bytes (rows_in snapshot)) (sym same)

      -- its file is right
      pub table_right : check_fault catalog table bytes (rows_in snapshot) ≡ None → table_in (base_in cache) table bytes ≡ Ok (table ∷ [])
      table_right h = ap (unless_fault table) (fault_is ∙ h)

      -- its file has a fault, where there was memory to find it
      pub table_wrong : (file : List ℕ) (why : AggFault) (fault : OpenFault) → (why ≡ AggFault.OutOfMemory → ⊥) → (why ≡ AggFault.OutOfMemory) ⊎ (check_fault catalog table bytes (rows_in snapshot) ≡ Some why) → IsOrMemory (Aggregate file why) fault
          → Comes (read_by (Aggregate file) (table_in (base_in cache) table bytes)) [] (Err fault)
      table_wrong file why fault other h told = refused_by_reader (Aggregate file) (table_in (base_in cache) table bytes) AggFault.OutOfMemory why fault other (here h) told
        where
          here : (why ≡ AggFault.OutOfMemory) ⊎ (check_fault catalog table bytes (rows_in snapshot) ≡ Some why) → (why ≡ AggFault.OutOfMemory) ⊎ (table_in (base_in cache) table bytes ≡ Err why)
          here (inl memory) = inl memory
          here (inr found) = inr (ap (unless_fault table) (fault_is ∙ found))
