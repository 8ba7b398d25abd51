-- The tables of dimensions, and how the values of their fields are numbered.
use Rattle.std.specs.Prelude.{ℕ, zero, suc, filter_map, ◌≡◌, ◌≤◌, List, Bool, ◌==◌, [], ◌∷◌, ◌++◌, Option, Some, None, length, map, not, position, bytes_eq, true, slice_get, nat_lt, if◌then◌else◌}
use Rattle.std.specs.List.{list_any, list_all}
use Rattle.olap_meaning.specs.declared.tables.Record.{Record}
use Rattle.olap_meaning.specs.declared.schema.TheConstants.{RECORD_LIMIT}
use Rattle.olap_meaning.specs.Catalog.{first_appearances, field_texts}
use Rattle.olap_meaning.specs.Records.{is_null}

-- a dimension's table: how many fields a record has, and the records
pub record TableOf : Type 0 where
  pub levels : ℕ
  pub records : List Record

-- a record has this key
abbrev pub has_key : List Record → List ℕ → Bool
has_key records key = list_any (λ record_there. bytes_eq key record_there.key) records

-- the names seen, with one more at the end where it is new
abbrev pub seen_with : List (List ℕ) → List ℕ → List (List ℕ)
seen_with seen name = if list_any (bytes_eq name) seen then seen else seen ++ name ∷ []

-- the number of a text among some texts: they are numbered from 0 by first appearance
abbrev pub number_of : List (List ℕ) → List ℕ → Option ℕ
number_of texts text = position (bytes_eq text) (first_appearances texts)

-- each record has this many fields
abbrev pub have_fields : ℕ → List Record → Bool
have_fields levels records = list_all (λ record_there. length record_there.fields == levels) records

-- no record has an empty field
abbrev pub are_filled : List Record → Bool
are_filled records = list_all (λ record_there. not (list_any is_null record_there.fields)) records

-- the columns of a table: one for each field, with its texts record by record
abbrev pub column_of : ℕ → List Record → ℕ → Option (List (List ℕ))
column_of levels records field =
    if nat_lt field levels then Some (field_texts field records) else None

-- how a field's names and numbers are kept: each name once by first appearance, and the number of each record's text
pub record AreNumbered (names : List (List ℕ)) (numbers : List ℕ)
    (texts : List (List ℕ)) : Type 0 where
  pub named : names ≡ first_appearances texts
  pub numbered : map Some numbers ≡ map (number_of texts) texts
  pub room : length texts ≤ RECORD_LIMIT

-- what a table keeps of its records
pub record AreRecords (levels : ℕ) (keys : List (List ℕ)) (fields : List (List (List ℕ)))
    (records : List Record) : Type 0 where
  pub keyed : keys ≡ map (λ record_there. record_there.key) records
  pub rows : fields ≡ map (λ record_there. record_there.fields) records
  pub even : have_fields levels records ≡ true
  pub filled : are_filled records ≡ true
  pub room : length records ≤ RECORD_LIMIT

-- the record with a key
abbrev pub find_key : List Record → List ℕ → Option ℕ
find_key records key = position (λ record_there. bytes_eq key record_there.key) records

-- the texts of one field of some rows
abbrev pub texts_at : ℕ → List (List (List ℕ)) → List (List ℕ)
texts_at field rows = filter_map (λ row. slice_get row field) rows

-- the columns of this many fields of some rows, from one on
abbrev pub columns_from : List (List (List ℕ)) → ℕ → ℕ → List (List (List ℕ))
columns_from rows field zero = []
columns_from rows field (suc more) = texts_at field rows ∷ columns_from rows (suc field) more

-- what a numbered table keeps of its records
pub record AreColumns (levels : ℕ) (keys : List (List ℕ)) (columns : List (List (List ℕ)))
    (records : List Record) : Type 0 where
  pub keyed : keys ≡ map (λ record_there. record_there.key) records
  pub filled : columns ≡ columns_from (map (λ record_there. record_there.fields) records) 0 levels
  pub even : have_fields levels records ≡ true
  pub room : length records ≤ RECORD_LIMIT
