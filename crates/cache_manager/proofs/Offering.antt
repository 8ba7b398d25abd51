-- The tables that are installed may be offered to a load from the present version of a cube.
use Rattle.std.proofs.Common.{◌≡◌, sym, subst, List, length, map, take, ℕ, All}
use Rattle.olap_meaning.specs.declared.cells.Header.{Header}
use Rattle.olap_meaning.specs.declared.tables.Catalog.{Catalog}
use Rattle.olap_meaning.specs.History.{rows_of, version}
use Rattle.olap_meaning.specs.Legal.{Legal}
use Rattle.olap_meaning.proofs.Lists.{all_of_map}
use Rattle.fact_versions.specs.FactRows.{FactRows}
use Rattle.fact_reader.specs.BodyRows.{rows_in}
use Rattle.agg_tables.specs.Tables.{TableOf}
use Rattle.load_costs.specs.Costs.{tables_built}
use Rattle.segment_load.specs.Loads.{IsOffered}
use Rattle.installed_tables.proofs.OfferFacts.{IsPresent, all_offered}
use Rattle.history_core.specs.Cache.{CacheOf}

pub offered_tables :
    {X : Type 0} (value : X → TableOf) (cache : CacheOf) (catalog : Catalog) (header : Header) (snapshot : List FactRows) (cube : ℕ) (xs : List X) → Legal cache.setting cache.entries → catalog ≡ cache.setting.catalog
    → map value xs ≡ tables_built cache.setting.catalog cache.entries → header.cube ≡ cube → length snapshot ≡ version cache.entries cube → ((n : ℕ) → rows_in (take n snapshot) ≡ rows_of cache.entries cube n)
    → All (λ (x : X). IsOffered catalog header snapshot (value x)) xs
offered_tables {X = X} value cache catalog header snapshot cube xs legal whole are same present rows =
    all_of_map (IsOffered catalog header snapshot) value xs
    (subst (λ (tables : List TableOf). All (IsOffered catalog header snapshot) tables) (sym are)
    (subst (λ (k : Catalog). All (IsOffered k header snapshot) (tables_built cache.setting.catalog cache.entries)) (sym whole)
    (all_offered cache.setting cache.entries header snapshot legal
    (subst (λ (c : ℕ). IsPresent cache.entries c snapshot) (sym same) (record { version_is = present; first = rows })))))
