-- Where columns stand, and what stands there.
use Rattle.std.proofs.Common.{◌≡◌, ◌<◌, ◌+◌, ◌∙◌, ℕ, true, false, List, [], ◌∷◌, ◌++◌, Option, Some, None, map, length, slice_get, get_or, refl, sym, ap, bytes_eq, drop, take, inl, inr, option_map, ◌⊎◌}
use Rattle.std.proofs.lemmas.List.{map-append}
use Rattle.std.specs.List.{list_any, zip}
use Rattle.std.specs.Option.{option_or}
use Rattle.olap_meaning.specs.Catalog.{first_appearances}
use Rattle.csv_records.proofs.PlaceFacts.{missing_append}
use Rattle.olap_meaning.specs.Records.{column_place, is_csv, missing_column}
use Rattle.catalog_tables.proofs.FieldFacts.{seen_is}
use Rattle.olap_meaning.specs.declared.schema.SchemaUse.{SchemaUse}
use Rattle.olap_meaning.specs.declared.tables.Catalog.{Catalog}
use Rattle.olap_meaning.specs.declared.tables.Cube.{Cube}
use Rattle.olap_meaning.specs.declared.tables.Measure.{Measure}
use Rattle.olap_meaning.proofs.Lists.{drop_step, take_step}
use Rattle.fact_rows.specs.BatchFiles.{header_fault, uses_of}
use Rattle.fact_rows.specs.Bound.{AreNumbersPlaced}
use Rattle.fact_rows.specs.declared.columns.NumberColumn.{NumberColumn}
use Rattle.fact_rows.specs.declared.fault.BatchFault.{BatchFault}
use Rattle.fact_rows.specs.declared.fault.BatchFault.TheVariants.{NoColumn, OutOfMemory as NoMemory}

-- the answer to a missing column tells it, where there was memory for its name
pub missed_or_not : (answer : BatchFault) (missing : Option (List ℕ)) (name : List ℕ) → missing ≡ Some name → (answer ≡ NoColumn name) ⊎ (answer ≡ NoMemory) → (answer ≡ NoMemory) ⊎ (option_map NoColumn missing ≡ Some answer)
missed_or_not answer missing name found (inl told) = inr (rw (found, told) refl)
missed_or_not answer missing name found (inr none) = inl none

-- the foreign keys from a place on begin with the one there
pub zip_from : {A B C : Type 0} (f : A → B) (items : List A) (others : List C) (i : ℕ) (item : A) (other : C) → i < length items → item ≡ get_or items i item → i < length others → other ≡ get_or others i other
    → zip (map f (drop i items)) (drop i others) ≡ (f item, other) ∷ zip (map f (drop (i + 1) items)) (drop (i + 1) others)
zip_from f items others i item other h is k at = rw (drop_step items i item h is, drop_step others i other k at) refl

-- the texts seen so far, where the next is among them
pub seen_again : {A : Type 0} (f : A → List ℕ) (items : List A) (i : ℕ) (item : A) (names : List (List ℕ)) → i < length items → item ≡ get_or items i item → names ≡ first_appearances (map f (take i items))
    → list_any (bytes_eq (f item)) names ≡ true → names ≡ first_appearances (map f (take (i + 1) items))
seen_again f items i item names h is seen among =
    let more = seen_is (map f (take i items)) (f item) in
    let last : first_appearances (map f (take (i + 1) items)) ≡ first_appearances (map f (take i items) ++ f item ∷ []) = rw (take_step items i item h is, map-append) refl in
    let kept = rw (← seen, among) at more in
    kept ∙ sym last

-- the texts seen so far and the next, where it is not among them
pub seen_first : {A : Type 0} (f : A → List ℕ) (items : List A) (i : ℕ) (item : A) (names : List (List ℕ)) → i < length items → item ≡ get_or items i item → names ≡ first_appearances (map f (take i items))
    → list_any (bytes_eq (f item)) names ≡ false → names ++ f item ∷ [] ≡ first_appearances (map f (take (i + 1) items))
seen_first f items i item names h is seen among =
    let more = seen_is (map f (take i items)) (f item) in
    let last : first_appearances (map f (take (i + 1) items)) ≡ first_appearances (map f (take i items) ++ f item ∷ []) = rw (take_step items i item h is, map-append) refl in
    let added = rw (← seen, among) at more in
    added ∙ sym last

-- one column more that stands where it is placed
pub placed_more : (header : List (List ℕ)) (numbers : List NumberColumn) (column : NumberColumn) → AreNumbersPlaced header numbers → column_place column.name header ≡ Some column.place → AreNumbersPlaced header (numbers ++ column ∷ [])
placed_more header numbers column placed found =
    let named = map-append (λ (c : NumberColumn). column_place c.name header) numbers (column ∷ []) in
    let there = map-append (λ (c : NumberColumn). Some c.place) numbers (column ∷ []) in
    named ∙ ap (λ places. places ++ column_place column.name header ∷ []) placed ∙ ap (λ place. map (λ (c : NumberColumn). Some c.place) numbers ++ place ∷ []) found ∙ sym there

-- what is wrong with a header of records
pub header_told : (catalog : Catalog) (cube : ℕ) (header : List (List ℕ)) (parts : Cube) → is_csv header header ≡ true → slice_get catalog.cubes cube ≡ Some parts
    → header_fault catalog cube header ≡ option_map NoColumn (option_or (missing_column (map (λ used. used.foreign_key) (uses_of catalog cube)) header) (missing_column (map (λ measure. measure.column) parts.measures) header))
header_told catalog cube header parts csv is = rw (csv, is) (ap (option_map NoColumn) (missing_append (map (λ (used : SchemaUse). used.foreign_key) (uses_of catalog cube)) (map (λ (measure : Measure). measure.column) parts.measures) header))

-- a column that is missing among the first is the fault
pub first_missing : (whole : Option BatchFault) (first others : Option (List ℕ)) (fault : BatchFault) → whole ≡ option_map NoColumn (option_or first others) → (fault ≡ NoMemory) ⊎ (option_map NoColumn first ≡ Some fault)
    → (fault ≡ NoMemory) ⊎ (whole ≡ Some fault)
first_missing whole first others fault is (inl none) = inl none
first_missing whole None others fault is (inr told) = absurd (cc)
first_missing whole (Some name) others fault is (inr told) = inr (is ∙ told)

-- a column that is missing among the others is the fault, where none of the first is
pub other_missing : (whole : Option BatchFault) (first others : Option (List ℕ)) (fault : BatchFault) → whole ≡ option_map NoColumn (option_or first others) → first ≡ None → (fault ≡ NoMemory) ⊎ (option_map NoColumn others ≡ Some fault)
    → (fault ≡ NoMemory) ⊎ (whole ≡ Some fault)
other_missing whole first others fault is none (inl memory) = inl memory
other_missing whole first others fault is none (inr told) = inr (rw none at is ∙ told)

pub none_missing : (whole : Option BatchFault) (first others : Option (List ℕ)) → whole ≡ option_map NoColumn (option_or first others) → first ≡ None → others ≡ None → whole ≡ None
none_missing whole first others is none last = rw (none, last) at is
