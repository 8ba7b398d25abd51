-- The catalog: first the schema is asked for, and then the tables.
use Rattle.std.proofs.Common.{◌≡◌, sym, subst, List, ℕ, [], Option, Result, Ok, Err}
use Rattle.std.proofs.lemmas.List.{length-map}
use Rattle.olap_meaning.specs.declared.schema.Schema.{Schema}
use Rattle.olap_meaning.specs.declared.tables.Catalog.{Catalog}
use Rattle.olap_meaning.specs.declared.tables.Record.{Record}
use Rattle.olap_meaning.specs.Schema.{catalog_of, cube_over}
use Rattle.outside.specs.Fetched.{Fetched}
use Rattle.outside.specs.Told.{Files}
use Rattle.cache_opening.specs.declared.fault.OpenFault.{OpenFault}
use Rattle.cache_opening.specs.declared.fault.OpenFault.TheVariants.{OutOfMemory}
use Rattle.cache_opening.specs.Asking.{Asking, made, ◌>>=◌, Comes, value, stopped, Leads}
use Rattle.cache_opening.specs.Opening.{catalog_from, schema_from, tables_from}
use Rattle.cache_opening.specs.Steps.{HasCubes}
use Rattle.cache_opening.proofs.LeadFacts.{leads_first, leads_on, leads_then}

module _ (file : List ℕ) (files : Option Files) (before : List Fetched) where
  abbrev pub then_tables : Schema → Asking Catalog
  then_tables schema = tables_from schema.dimensions >>= λ tables. made (catalog_of schema tables)

  pub schema_unread : (after : List Fetched) (fault : OpenFault) → Leads files before after (schema_from file) (Err fault) → Leads files before after (catalog_from file) (Err fault)
  unfolding catalog_from
  schema_unread after fault h = leads_first (schema_from file) then_tables files before after fault h

  module _ (middle after : List Fetched) (schema : Schema) (read : Leads files before middle (schema_from file) (Ok schema)) where
    -- what the tables lead to, the catalog leads to
    of_tables : (outcome : Result Catalog OpenFault) → Leads files middle after (then_tables schema) outcome → Leads files before after (catalog_from file) outcome
    unfolding catalog_from
    of_tables outcome h = leads_on (schema_from file) then_tables files before middle after schema outcome read h

    pub tables_unread : (fault : OpenFault) → Leads files middle after (tables_from schema.dimensions) (Err fault) → Leads files before after (catalog_from file) (Err fault)
    tables_unread fault h = of_tables (Err fault) (leads_first (tables_from schema.dimensions) (λ tables. made (catalog_of schema tables)) files middle after fault h)

    module _ (tables : List (List Record)) (tables_read : Leads files middle after (tables_from schema.dimensions) (Ok tables)) where
      both_read : (outcome : Result Catalog OpenFault) → Comes (made (catalog_of schema tables)) [] outcome → Leads files before after (catalog_from file) outcome
      both_read outcome h = of_tables outcome (leads_then (tables_from schema.dimensions) (λ ts. made (catalog_of schema ts)) files middle after tables outcome tables_read h)

      pub catalog_read : (catalog : Catalog) → catalog ≡ catalog_of schema tables → Leads files before after (catalog_from file) (Ok catalog)
      catalog_read catalog is = let P : Catalog → Type 0 = λ c. Leads files before after (catalog_from file) (Ok c) in subst P (sym is) (both_read (Ok (catalog_of schema tables)) value)

      -- there was no memory for the catalog
      pub catalog_stops : Leads files before after (catalog_from file) (Err OutOfMemory)
      catalog_stops = both_read (Err OutOfMemory) stopped

-- the catalog of a schema has its cubes
pub has_cubes : (schema : Schema) (tables : List (List Record)) → HasCubes (catalog_of schema tables)
has_cubes schema tables = record { cubes = length-map schema.cubes (cube_over schema.dimensions) }
