-- Where columns stand, and what stands there.
use Rattle.std.proofs.Common.{◌≡◌, ◌<◌, ◌+◌, ◌∙◌, ℕ, zero, suc, true, false, List, [], ◌∷◌, ◌++◌, Option, Some, None, map, length, slice_get, get_or, refl, sym, ap, arith, drop, inl, inr, nat_lt, option_map, ◌⊎◌}
use Rattle.std.proofs.lemmas.List.{map-append}
use Rattle.std.proofs.lemmas.Bool.{cases_Bool, lt-ltb}
use Rattle.std.specs.List.{flat_map}
use Rattle.std.specs.Option.{option_or}
use Rattle.csv_records.proofs.PlaceFacts.{missing_append, place_within}
use Rattle.olap_meaning.specs.Records.{column_place, missing_column}
use Rattle.olap_meaning.specs.declared.schema.SchemaHierarchy.{SchemaHierarchy}
use Rattle.olap_meaning.specs.declared.schema.SchemaLevel.{SchemaLevel}
use Rattle.olap_meaning.proofs.Lists.{drop_step}
use Rattle.dim_tables.specs.declared.fault.TableFault.{TableFault}
use Rattle.dim_tables.specs.declared.fault.TableFault.TheVariants.{NoColumn, OutOfMemory as NoMemory}
use Rattle.dim_tables.specs.Bound.{are_within, fields_at}
use Rattle.dim_tables.specs.TableFiles.{fields_in}

-- places of columns of the header are those of fields of a record
pub all_within : (header row : List (List ℕ)) (places : List ℕ) (columns : List (List ℕ)) → map (λ place. Some place) places ≡ map (λ column. column_place column header) columns
    → length row ≡ length header → are_within places row ≡ true
all_within header row [] columns same width = refl
all_within header row (place ∷ places) [] same width = absurd (cc)
all_within header row (place ∷ places) (column ∷ columns) same width =
    let here : Some place ≡ column_place column header = cc in
    let rest : map (λ place. Some place) places ≡ map (λ column. column_place column header) columns = cc in
    let within = place_within column header place (sym here) in
    rw (lt-ltb place (length row) (omega arith)) (all_within header row places columns rest width)

-- the fields at the places of columns are the fields in the columns
pub fields_there : (header row : List (List ℕ)) (places : List ℕ) (columns : List (List ℕ)) → map (λ place. Some place) places ≡ map (λ column. column_place column header) columns
    → fields_at places row ≡ fields_in header columns row
fields_there header row [] [] same = refl
fields_there header row [] (column ∷ columns) same = absurd (cc)
fields_there header row (place ∷ places) [] same = absurd (cc)
fields_there header row (place ∷ places) (column ∷ columns) same =
    let here : Some place ≡ column_place column header = cc in
    let rest : map (λ place. Some place) places ≡ map (λ column. column_place column header) columns = cc in
    rw (← here, fields_there header row places columns rest) refl

-- a place of places that are all within
pub within_at : (places : List ℕ) (row : List (List ℕ)) (i place : ℕ) → are_within places row ≡ true → i < length places → place ≡ get_or places i place → place < length row
within_at [] row i place within h is = absurd (omega arith)
within_at (p ∷ ps) row zero place within h is = elim (cases_Bool (nat_lt p (length row))) [
  | inl below ↦ let same : place ≡ p = is in let less : p < length row = grind arith in omega arith
  | inr above ↦ absurd (let none : false ≡ true = rw above at within in cc)
]
within_at (p ∷ ps) row (suc i) place within h is = elim (cases_Bool (nat_lt p (length row))) [
  | inl below ↦ within_at ps row i place (rw below at within) (omega arith) is
  | inr above ↦ absurd (let none : false ≡ true = rw above at within in cc)
]

-- the fields at the places from one on
pub fields_from : (places : List ℕ) (row : List (List ℕ)) (i place : ℕ) (field : List ℕ) → i < length places → place ≡ get_or places i place → slice_get row place ≡ Some field
    → fields_at (drop i places) row ≡ field ∷ fields_at (drop (i + 1) places) row
fields_from places row i place field h is there = rw (drop_step places i place h is, there) refl

-- as many places as items
pub as_many : {A : Type 0} (places : List ℕ) (items : List A) (g : A → Option ℕ) → map (λ place. Some place) places ≡ map g items → length places ≡ length items
as_many [] [] g same = refl
as_many [] (x ∷ xs) g same = absurd (cc)
as_many (place ∷ places) [] g same = absurd (cc)
as_many (place ∷ places) (x ∷ xs) g same =
    let rest : map (λ place. Some place) places ≡ map g xs = cc in
    let more = as_many places xs g rest in
    omega arith

-- the places of levels are those of their columns
pub placed_columns : (header : List (List ℕ)) (levels : List SchemaLevel) → map (λ level. column_place level.column header) levels ≡ map (λ column. column_place column header) (map (λ level. level.column) levels)
placed_columns header [] = refl
placed_columns header (level ∷ levels) = ap (λ rest. column_place level.column header ∷ rest) (placed_columns header levels)

-- the levels from a hierarchy on are its own and those of the others
flat_from : (hierarchies : List SchemaHierarchy) (i : ℕ) (h : SchemaHierarchy) → i < length hierarchies → h ≡ get_or hierarchies i h
    → flat_map (λ hierarchy. hierarchy.levels) (drop i hierarchies) ≡ h.levels ++ flat_map (λ hierarchy. hierarchy.levels) (drop (i + 1) hierarchies)
flat_from hierarchies i h below is = ap (flat_map (λ hierarchy. hierarchy.levels)) (drop_step hierarchies i h below is)

pub flat_placed : {B : Type 0} (g : SchemaLevel → B) (hierarchies : List SchemaHierarchy) (i : ℕ) (h : SchemaHierarchy) → i < length hierarchies → h ≡ get_or hierarchies i h
    → map g (flat_map (λ hierarchy. hierarchy.levels) (drop i hierarchies)) ≡ map g h.levels ++ map g (flat_map (λ hierarchy. hierarchy.levels) (drop (i + 1) hierarchies))
flat_placed g hierarchies i h below is = ap (map g) (flat_from hierarchies i h below is) ∙ map-append g h.levels (flat_map (λ hierarchy. hierarchy.levels) (drop (i + 1) hierarchies))

pub flat_missing : (header : List (List ℕ)) (hierarchies : List SchemaHierarchy) (i : ℕ) (h : SchemaHierarchy) → i < length hierarchies → h ≡ get_or hierarchies i h
    → missing_column (map (λ level. level.column) (flat_map (λ hierarchy. hierarchy.levels) (drop i hierarchies))) header
    ≡ option_or (missing_column (map (λ level. level.column) h.levels) header) (missing_column (map (λ level. level.column) (flat_map (λ hierarchy. hierarchy.levels) (drop (i + 1) hierarchies))) header)
flat_missing header hierarchies i h below is =
    ap (λ columns. missing_column columns header) (flat_placed (λ level. level.column) hierarchies i h below is)
    ∙ missing_append (map (λ level. level.column) h.levels) (map (λ level. level.column) (flat_map (λ hierarchy. hierarchy.levels) (drop (i + 1) hierarchies))) header

-- the first column that is missing is the fault
pub first_missing : (whole first others : Option (List ℕ)) (fault : TableFault) → whole ≡ option_or first others → (fault ≡ NoMemory) ⊎ (option_map NoColumn first ≡ Some fault)
    → (fault ≡ NoMemory) ⊎ (option_map NoColumn whole ≡ Some fault)
first_missing whole None others fault is (inl none) = inl none
first_missing whole None others fault is (inr told) = absurd (cc)
first_missing whole (Some name) others fault is (inl none) = inl none
first_missing whole (Some name) others fault is (inr told) = inr (rw is told)

pub none_missing : (whole first others : Option (List ℕ)) → whole ≡ option_or first others → first ≡ None → whole ≡ others
none_missing whole first others is none = rw none at is
