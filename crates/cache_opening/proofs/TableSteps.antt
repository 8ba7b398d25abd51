-- The tables of a schema's dimensions, one after another.
use Rattle.std.proofs.Common.{◌≡◌, refl, sym, ap, subst, ◌∙◌, ℕ, ◌+◌, ◌≤◌, List, [], ◌∷◌, ◌++◌, length, take, drop, map, Option, Some, None, Result, Ok, Err, append-nil, add-one, append_assoc, slice_get}
use Rattle.std.specs.Option.{IsSomeAnd}
use Rattle.std.proofs.lemmas.List.{drop_all, map-append, take_all}
use Rattle.olap_meaning.specs.declared.schema.SchemaDimension.{SchemaDimension}
use Rattle.olap_meaning.specs.declared.tables.Record.{Record}
use Rattle.olap_meaning.specs.Schema.{levels_of}
use Rattle.olap_meaning.proofs.Positions.{take-push}
use Rattle.olap_catalog.specs.Parts.{records_in}
use Rattle.catalog_tables.specs.Tables.{TableOf}
use Rattle.csv_records.proofs.FieldFacts.{drop_at}
use Rattle.outside.specs.Fetched.{Fetched}
use Rattle.outside.specs.Told.{Files}
use Rattle.cache_opening.specs.declared.fault.OpenFault.{OpenFault}
use Rattle.cache_opening.specs.declared.fault.OpenFault.TheVariants.{OutOfMemory}
use Rattle.cache_opening.specs.Asking.{Asking, made, ◌>>=◌, value, Leads}
use Rattle.cache_opening.specs.Opening.{table_from, tables_from}
use Rattle.cache_opening.proofs.LeadFacts.{leads_first, leads_here, leads_on, leads_stopped, leads_then}

-- an outcome, with some items before those that it has
abbrev pub behind : {A : Type 0} → List A → Result (List A) OpenFault → Result (List A) OpenFault
behind front (Ok more) = Ok (front ++ more)
behind front (Err fault) = Err fault

pub behind_none : {A : Type 0} (outcome : Result (List A) OpenFault) → behind [] outcome ≡ outcome
behind_none (Ok more) = refl
behind_none (Err fault) = refl

pub behind_one : {A : Type 0} (front : List A) (x : A) (outcome : Result (List A) OpenFault) → behind front (behind (x ∷ []) outcome) ≡ behind (front ++ x ∷ []) outcome
behind_one front x (Ok more) = ap Ok (sym (append_assoc front (x ∷ []) more))
behind_one front x (Err fault) = refl

-- a first item is made, and then the others: what they lead to, both lead to
pub leads_item : {A : Type 0} (first : Asking A) (others : A → Asking (List A)) (files : Option Files) (before middle after : List Fetched) (x : A) (outcome : Result (List A) OpenFault)
    → Leads files before middle first (Ok x) → Leads files middle after (others x) outcome → Leads files before after (first >>= λ y. others y >>= λ ys. made (y ∷ ys)) (behind (x ∷ []) outcome)
leads_item first others files before middle after x (Ok more) h k =
    leads_on first (λ y. others y >>= λ ys. made (y ∷ ys)) files before middle after x (Ok (x ∷ more)) h (leads_then (others x) (λ ys. made (x ∷ ys)) files middle after more (Ok (x ∷ more)) k value)
leads_item first others files before middle after x (Err fault) h k =
    leads_on first (λ y. others y >>= λ ys. made (y ∷ ys)) files before middle after x (Err fault) h (leads_first (others x) (λ ys. made (x ∷ ys)) files middle after fault k)

-- whatever the tables of the other dimensions lead to, those of all lead to it, after the first ones
pub record AreTables (files : Option Files) (before now : List Fetched) (dimensions : List SchemaDimension) (n : ℕ) (tables : List TableOf) : Type 0 where
  pub levels : map (λ t. t.levels) tables ≡ map (λ d. length (levels_of d)) (take n dimensions)
  pub read : (after : List Fetched) (outcome : Result (List (List Record)) OpenFault) → Leads files now after (tables_from (drop n dimensions)) outcome
      → Leads files before after (tables_from dimensions) (behind (records_in tables) outcome)

pub no_tables : (files : Option Files) (before : List Fetched) (dimensions : List SchemaDimension) → AreTables files before before dimensions 0 []
no_tables files before dimensions = record {
  levels = refl;
  read = λ after outcome h. rw (behind_none outcome) h;
}

module _ (files : Option Files) (before now after : List Fetched) (dimensions : List SchemaDimension) (n : ℕ) (tables : List TableOf) (are : AreTables files before now dimensions n tables) where
  pub more_tables : (t : TableOf) → IsSomeAnd (slice_get dimensions n) (λ d. Leads files now after (table_from d) (Ok t.records)) → IsSomeAnd (slice_get dimensions n) (λ d. t.levels ≡ length (levels_of d))
      → AreTables files before after dimensions (n + 1) (tables ++ t ∷ [])
  unfolding tables_from
  more_tables t read levels = by (slice_get dimensions n) refl read levels
    where
      by : (o : Option SchemaDimension) → slice_get dimensions n ≡ o → IsSomeAnd o (λ d. Leads files now after (table_from d) (Ok t.records)) → IsSomeAnd o (λ d. t.levels ≡ length (levels_of d)) → AreTables files before after dimensions (n + 1) (tables ++ t ∷ [])
      by None at h k = absurd h
      by (Some d) at h k = record {
        levels =
            map-append (λ (x : TableOf). x.levels) tables (t ∷ []) ∙ ap (λ ns. ns ++ t.levels ∷ []) are.levels ∙ ap (λ m. map (λ (x : SchemaDimension). length (levels_of x)) (take n dimensions) ++ m ∷ []) k
            ∙ sym (rw add-one (ap (map (λ (x : SchemaDimension). length (levels_of x))) (take-push dimensions n d at)) ∙ map-append (λ (x : SchemaDimension). length (levels_of x)) (take n dimensions) (d ∷ []));
        read = λ later outcome rest.
            let P : List SchemaDimension → Type 0 = λ ds. Leads files now later (tables_from ds) (behind (t.records ∷ []) outcome) in
            let Q : Result (List (List Record)) OpenFault → Type 0 = λ r. Leads files before later (tables_from dimensions) r in
            let one : Leads files now later (tables_from (d ∷ drop (n + 1) dimensions)) (behind (t.records ∷ []) outcome) = leads_item (table_from d) (λ _. tables_from (drop (n + 1) dimensions)) files now after later t.records outcome h rest in
            let whole = are.read later (behind (t.records ∷ []) outcome) (subst P (sym (drop_at dimensions n d at)) one) in
            let same : behind (records_in tables) (behind (t.records ∷ []) outcome) ≡ behind (records_in (tables ++ t ∷ [])) outcome =
            behind_one (records_in tables) t.records outcome ∙ ap (λ (rs : List (List Record)). behind rs outcome) (sym (map-append (λ (x : TableOf). x.records) tables (t ∷ []))) in
            subst Q same whole;
      }

  -- the table of the next dimension has failed
  pub table_fails : (fault : OpenFault) → IsSomeAnd (slice_get dimensions n) (λ d. Leads files now after (table_from d) (Err fault)) → Leads files before after (tables_from dimensions) (Err fault)
  unfolding tables_from
  table_fails fault failed = by (slice_get dimensions n) refl failed
    where
      by : (o : Option SchemaDimension) → slice_get dimensions n ≡ o → IsSomeAnd o (λ d. Leads files now after (table_from d) (Err fault)) → Leads files before after (tables_from dimensions) (Err fault)
      by None at h = absurd h
      by (Some d) at h =
          let P : List SchemaDimension → Type 0 = λ ds. Leads files now after (tables_from ds) (Err fault) in
          let one : Leads files now after (tables_from (d ∷ drop (n + 1) dimensions)) (Err fault) = leads_first (table_from d) (λ table. tables_from (drop (n + 1) dimensions) >>= λ tables. made (table ∷ tables)) files now after fault h in
          are.read after (Err fault) (subst P (sym (drop_at dimensions n d at)) one)

module _ (files : Option Files) (before now : List Fetched) (dimensions : List SchemaDimension) (n : ℕ) (tables : List TableOf) (are : AreTables files before now dimensions n tables) where
  -- there is no memory for the other tables
  pub tables_stop : Leads files before now (tables_from dimensions) (Err OutOfMemory)
  tables_stop = are.read now (Err OutOfMemory) (leads_stopped files now (tables_from (drop n dimensions)))

  pub all_tables : length dimensions ≤ n → Leads files before now (tables_from dimensions) (Ok (records_in tables))
  unfolding tables_from
  all_tables end =
      let P : List SchemaDimension → Type 0 = λ ds. Leads files now now (tables_from ds) (Ok []) in
      let Q : List (List Record) → Type 0 = λ rs. Leads files before now (tables_from dimensions) (Ok rs) in
      subst Q (append-nil (records_in tables)) (are.read now (Ok []) (subst P (sym (drop_all n dimensions end)) (leads_here files now (made []) (Ok []) value)))

  pub whole_tables : length dimensions ≤ n → map (λ t. t.levels) tables ≡ map (λ d. length (levels_of d)) dimensions
  whole_tables end = are.levels ∙ ap (map (λ (d : SchemaDimension). length (levels_of d))) (take_all n dimensions end)
