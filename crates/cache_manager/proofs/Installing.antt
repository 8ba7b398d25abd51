-- A table that is built from a version of its cube is the cache's own, and one that is installed is a legal step.
use Rattle.std.proofs.Common.{◌≡◌, ◌∙◌, ◌≤◌, ℕ, List, [], ◌∷◌, ◌++◌, Some, length, refl, sym, ap, subst, take, true, arith}
use Rattle.std.specs.Prelude.{IsTrue, filter_map}
use Rattle.std.specs.List.{range_with_len}
use Rattle.load_costs.specs.Costs.{table_built, tables_built, version_rows}
use Rattle.olap_meaning.specs.declared.cells.Who.{Who}
use Rattle.olap_meaning.specs.declared.tables.Catalog.{Catalog}
use Rattle.olap_meaning.specs.Catalog.{table_cube}
use Rattle.olap_meaning.specs.History.{Agg, rows_of, version}
use Rattle.olap_meaning.specs.Legal.{IsLegalAgg, Legal, is_next_call}
use Rattle.olap_meaning.proofs.Lists.{mapped_from}
use Rattle.fact_versions.specs.FactRows.{FactRows}
use Rattle.fact_versions.specs.Facts.{FactsOf, batches_of}
use Rattle.fact_reader.specs.BodyRows.{are_batches, rows_in}
use Rattle.agg_tables.specs.Declarations.{declared_table}
use Rattle.agg_tables.specs.Tables.{TableOf, built, built_over, groups_in, table_over}
use Rattle.installed_tables.specs.Installed.{groups_built, present_version}
use Rattle.installed_tables.proofs.BuiltFacts.{built_last}
use Rattle.history_core.specs.Cache.{CacheOf}
use Rattle.history_core.specs.History.{HistoryOf}
use Rattle.cache_manager.specs.Kept.{AreFactsOf}
use Rattle.cache_manager.proofs.Ends.{cache_of}
use Rattle.cache_manager.proofs.Facts.{earlier}
use Rattle.cache_manager.specs.Tables.{IsOwnTable}

-- where nothing has happened no table was built
pub no_tables : (catalog : Catalog) → [] ≡ tables_built catalog []
no_tables catalog = none (range_with_len 0 (length catalog.schema.aggregates))
  where
    none : (places : List ℕ) → [] ≡ filter_map (table_built catalog []) places
    none [] = refl
    none (table ∷ tables) = none tables

-- the cube of a table has its present version
pub cube_present : (cache : CacheOf) (catalog : Catalog) (table cube : ℕ) → catalog ≡ cache.setting.catalog → table_cube catalog table ≡ Some cube → present_version cache.setting.catalog cache.entries table ≡ version cache.entries cube
cube_present cache catalog table cube whole of =
    let known : table_cube cache.setting.catalog table ≡ Some cube = ap (λ (k : Catalog). table_cube k table) (sym whole) ∙ of in
    rw known refl

-- a snapshot of a version that the cube of a table has reached
pub record IsEarlier (cache : CacheOf) (table cube v : ℕ) (snapshot : List FactRows) : Type 0 where
  pub known : table_cube cache.setting.catalog table ≡ Some cube
  pub reached : v ≤ version cache.entries cube
  pub many : length snapshot ≡ v
  pub rows : rows_in snapshot ≡ rows_of cache.entries cube v
  pub fit : are_batches cache.setting.catalog cube snapshot ≡ true

pub is_earlier :
    (cache : CacheOf) (history : HistoryOf) (facts : FactsOf) (catalog : Catalog) (table cube v : ℕ) (snapshot : List FactRows) → cache_of history ≡ cache → AreFactsOf history.setting history.entries facts → catalog ≡ cache.setting.catalog
    → table_cube catalog table ≡ Some cube → v ≤ present_version cache.setting.catalog cache.entries table → snapshot ≡ take v (batches_of facts cube) → IsEarlier cache table cube v snapshot
is_earlier cache history facts catalog table cube v snapshot view are whole of few is =
    let reached : v ≤ version cache.entries cube = omega (arith, few, cube_present cache catalog table cube whole of) in
    let here : v ≤ version history.entries cube = subst (λ (k : CacheOf). v ≤ version k.entries cube) (sym view) reached in
    let own = earlier history.setting history.entries facts are cube snapshot v here is in
    record {
      known = ap (λ (k : Catalog). table_cube k table) (sym whole) ∙ of;
      reached = reached;
      many = own.0;
      rows = subst (λ (k : CacheOf). rows_in snapshot ≡ rows_of k.entries cube v) view own.1;
      fit = subst (λ (k : CacheOf). are_batches k.setting.catalog cube snapshot ≡ true) view own.2;
    }

-- what is built from a version that the cube of a table has reached
pub record IsMade (cache : CacheOf) (table v : ℕ) (made : TableOf) : Type 0 where
  pub own : IsOwnTable cache made
  pub place : made.table ≡ table
  pub version_is : made.version ≡ v

pub built_made :
    (cache : CacheOf) (catalog : Catalog) (table cube v : ℕ) (snapshot : List FactRows) (made : TableOf) → catalog ≡ cache.setting.catalog → table_cube cache.setting.catalog table ≡ Some cube → v ≤ version cache.entries cube → length snapshot ≡ v
    → rows_in snapshot ≡ rows_of cache.entries cube v → built catalog table snapshot ≡ Some made → IsMade cache table v made
built_made cache catalog table cube v snapshot made whole known reached many rows is =
    let found = mapped_from (table_over catalog table (length snapshot) (rows_in snapshot)) (declared_table catalog table) made is in
    let place : made.table ≡ table = ap (λ (t : TableOf). t.table) (sym found.2) in
    let newest : made.version ≡ v = ap (λ (t : TableOf). t.version) (sym found.2) ∙ many in
    record {
      own = record {
        cube = cube;
        known = ap (table_cube cache.setting.catalog) place ∙ known;
        reached = omega (arith, newest, reached);
        built =
            ap (λ (k : ℕ). built_over cache.setting.catalog k made.version (rows_of cache.entries cube made.version)) place
            ∙ ap (λ (n : ℕ). built_over cache.setting.catalog table n (rows_of cache.entries cube n)) newest
            ∙ ap (λ (c : Catalog). built_over c table v (rows_of cache.entries cube v)) (sym whole)
            ∙ ap (built_over catalog table v) (sym rows)
            ∙ ap (λ (n : ℕ). built_over catalog table n (rows_in snapshot)) (sym many)
            ∙ is;
      };
      place = place;
      version_is = newest;
    }

-- it has the rows of the version
pub rows_made : (cache : CacheOf) (table cube v : ℕ) (snapshot : List FactRows) → table_cube cache.setting.catalog table ≡ Some cube → rows_in snapshot ≡ rows_of cache.entries cube v
    → length (rows_in snapshot) ≡ version_rows cache.setting.catalog cache.entries table v
rows_made cache table cube v snapshot known rows = rw known (ap length rows)

-- a table of one's own may be installed
pub legal_agg : (cache : CacheOf) (who : Who) (table : TableOf) → IsTrue (is_next_call cache.entries who) → IsOwnTable cache table → IsLegalAgg cache.setting cache.entries who table.table table.version
legal_agg cache who table call own = record { call = call; cube = own.cube; known = own.known; reached = own.reached }

-- then it is the one that was built last
pub groups_last : (cache : CacheOf) (who : Who) (table : TableOf) → Legal cache.setting cache.entries → IsOwnTable cache table
    → length (groups_in table.bodies) ≡ groups_built cache.setting.catalog (cache.entries ++ Agg who table.table table.version ∷ []) table.table
groups_last cache who table legal own = rw (built_last cache.setting cache.entries who table own.cube legal own.known own.reached own.built) refl
