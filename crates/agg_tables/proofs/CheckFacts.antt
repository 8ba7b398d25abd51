-- The faults of records, one after another.
use Rattle.std.proofs.Common.{◌≡◌, ◌∙◌, ◌⊎◌, ◌+◌, ◌==◌, ℕ, ℤ, suc, true, false, List, [], ◌∷◌, ◌++◌, Option, None, Some, Result, Ok, Err, length, map, bytes_eq, refl, sym, ap, arith, inl, inr}
use Rattle.std.specs.Prelude.{IfErr, IsTrue, OnOk}
use Rattle.std.specs.List.{list_all, list_any, zip}
use Rattle.std.specs.Option.{option_or}
use Rattle.std.proofs.lemmas.Bool.{and_from, eq-eqb}
use Rattle.std.proofs.lemmas.List.{length-map, map-append}
use Rattle.catalog_tables.proofs.SeenFacts.{list_any-map}
use Rattle.olap_meaning.specs.declared.cells.Allowed.{Allowed}
use Rattle.olap_meaning.specs.declared.cells.Allowed.TheVariants.{Any}
use Rattle.olap_meaning.specs.declared.tables.Catalog.{Catalog}
use Rattle.olap_meaning.specs.declared.tables.Row.{Row}
use Rattle.olap_meaning.specs.Covering.{allows}
use Rattle.olap_meaning.specs.Records.{is_csv}
use Rattle.segment_body.specs.BodyOf.{BodyOf, has_row}
use Rattle.segment_header.specs.Headers.{are_allowed}
use Rattle.agg_tables.specs.declared.declared.Declared.{Declared}
use Rattle.agg_tables.specs.declared.fault.AggFault.{AggFault}
use Rattle.agg_tables.specs.declared.fault.AggFault.TheVariants.{GroupTwice, OutOfMemory as NoMemory}
use Rattle.agg_tables.specs.Declarations.{columns_below}
use Rattle.agg_tables.specs.Files.{fault_among, header_fault, group_fault, group_rows, level_fault, record_values, records_fault, row_fault}
use Rattle.fact_reader.specs.BodyRows.{values_in}
use Rattle.agg_tables.specs.Tables.{table_columns}

pub on_ok : {T E : Type 0} (r : Result T E) (P Q : Type 0) → (P → Q) → OnOk r P → OnOk r Q
on_ok (Ok x) P Q f h = f h
on_ok (Err e) P Q f h = h

pub if_err : {T E : Type 0} (r : Result T E) (P Q : E → Type 0) → ((e : E) → P e → Q e) → IfErr r P → IfErr r Q
if_err (Ok x) P Q f h = h
if_err (Err e) P Q f h = f e h

-- the first fault is the whole's
pub first_told : (whole first rest : Option AggFault) (e : AggFault) → whole ≡ option_or first rest → (e ≡ NoMemory) ⊎ (first ≡ Some e) → (e ≡ NoMemory) ⊎ (whole ≡ Some e)
first_told whole first rest e is (inl none) = inl none
first_told whole first rest e is (inr told) = inr (rw told at is)

pub same_told : (whole first : Option AggFault) (e : AggFault) → whole ≡ first → (e ≡ NoMemory) ⊎ (first ≡ Some e) → (e ≡ NoMemory) ⊎ (whole ≡ Some e)
same_told whole first e is (inl none) = inl none
same_told whole first e is (inr told) = inr (is ∙ told)

-- some row has values where these are among those of the rows
pub was_seen : (seen : BodyOf) (values : List ℕ) → has_row seen.rows values ≡ list_any (bytes_eq values) (values_in seen)
was_seen seen values = sym (list_any-map (λ (row : List ℕ × Option ℤ). row.0) (bytes_eq values) seen.rows)

module _ (catalog : Catalog) (declared : Declared) (header : List (List ℕ)) (rows : List Row) (n : ℕ) (seen : List (List ℕ)) (row : List (List ℕ)) where
  pub row_twice : is_csv header row ≡ true → level_fault catalog header n row declared.levels ≡ None → list_any (bytes_eq (record_values catalog declared header row)) seen ≡ true
      → row_fault catalog declared header rows n seen row ≡ Some (GroupTwice n)
  row_twice csv levels twice = rw (csv, levels, twice) refl

  pub row_on : is_csv header row ≡ true → level_fault catalog header n row declared.levels ≡ None → list_any (bytes_eq (record_values catalog declared header row)) seen ≡ false
      → row_fault catalog declared header rows n seen row ≡ group_fault catalog declared header n row (group_rows catalog declared rows (record_values catalog declared header row))
  row_on csv levels once = rw (csv, levels, once) refl

-- values of a row are allowed on columns that hold any value
any_allowed : (columns values : List ℕ) → list_all (λ (own : (ℕ × Allowed) × ℕ). allows own.0.1 own.1) (zip (map (λ column. (column, Any)) columns) values) ≡ true
any_allowed [] values = refl
any_allowed (c ∷ cs) [] = refl
any_allowed (c ∷ cs) (v ∷ vs) = any_allowed cs vs

pub row_allowed : (catalog : Catalog) (declared : Declared) (seen : BodyOf) (values : List ℕ) → seen.header.columns ≡ table_columns catalog declared → length values ≡ length (table_columns catalog declared)
    → IsTrue (are_allowed seen.header values)
row_allowed catalog declared seen values columns each =
    let length_told : (length values == length seen.header.columns) ≡ true = eq-eqb _ _ (each ∙ sym (ap length columns)) in
    let all : list_all (λ (own : (ℕ × Allowed) × ℕ). allows own.0.1 own.1) (zip seen.header.columns values) ≡ true = rw columns (any_allowed (columns_below declared.levels (length catalog.columns)) values) in
    and_from _ _ length_told all

-- the number of the next record
pub next_number : (seen : BodyOf) (count n : ℕ) → count ≡ length seen.rows → n ≡ count + 1 → n ≡ suc (length (values_in seen))
next_number seen count n counted is = let same = length-map seen.rows (λ (row : List ℕ × Option ℤ). row.0) in omega arith

-- with the values of one more record
pub values_more : (seen new : BodyOf) (values : List ℕ) → new ≡ record seen { rows = seen.rows ++ (values, None) ∷ [] } → values_in new ≡ values_in seen ++ values ∷ []
values_more seen new values is =
    ap values_in is ∙ map-append (λ (row : List ℕ × Option ℤ). row.0) seen.rows ((values, None) ∷ [])

-- the faults of records that are left, with the first of them
pub records_step : (catalog : Catalog) (declared : Declared) (header : List (List ℕ)) (rows : List Row) (seen : List (List ℕ)) (left more : List (List (List ℕ))) (row : List (List ℕ)) (n : ℕ) (whole : Option AggFault)
    → records_fault catalog declared header rows seen left ≡ whole → left ≡ row ∷ more → n ≡ suc (length seen)
    → whole ≡ option_or (row_fault catalog declared header rows n seen row) (records_fault catalog declared header rows (seen ++ record_values catalog declared header row ∷ []) more)
records_step catalog declared header rows seen left more row n whole rest taken number = rw number (sym (rw taken at rest))

pub no_fault : (whole first rest : Option AggFault) → whole ≡ option_or first rest → first ≡ None → rest ≡ whole
no_fault whole first rest is none = sym (rw none at is)

-- the faults of a file whose header has none are those of its records
pub records_told : (catalog : Catalog) (file : List (List (List ℕ))) (rows : List Row) (declared : Declared) (header : List (List ℕ)) (left : List (List (List ℕ))) → file ≡ header ∷ left → header_fault declared header ≡ None
    → fault_among catalog file rows declared ≡ records_fault catalog declared header rows [] left
records_told catalog file rows declared header left is none = rw (is, none) refl
