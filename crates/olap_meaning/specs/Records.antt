-- Records of a CSV file. A record is a list of fields, a field is the list of its bytes, and the first record of a
-- file
-- is its header. Which records a file has, its reader says.
use Rattle.std.specs.Prelude.{ℕ, ◌+◌, ◌==◌, ◌&&◌, ◌^◌, List, [], ◌∷◌, Bool, Option, Some, None, ℤ, pos, neg_ℤ, nat_lt, length, bytes_eq, option_map, slice_get, unwrap_or, is_some, if◌then◌else◌}
use Rattle.std.specs.List.{list_all, position_from}
use Rattle.std.specs.Option.{option_and_then}
use Rattle.std.specs.Str.{is_utf8, all_ascii_digits}
use Rattle.std.specs.Str.Parse.{digits_value}

-- the header of a file: no columns, where the file has no record
abbrev pub header_of : List (List (List ℕ)) → List (List ℕ)
header_of [] = []
header_of (header ∷ rows) = header

-- the records below the header
abbrev pub records_of : List (List (List ℕ)) → List (List (List ℕ))
records_of [] = []
records_of (header ∷ rows) = rows

-- the place of a column: the first field of the header with exactly this text
abbrev pub column_place : List ℕ → List (List ℕ) → Option ℕ
column_place name header = position_from (bytes_eq name) 0 header

-- the first of these columns that the header does not have
abbrev pub missing_column : List (List ℕ) → List (List ℕ) → Option (List ℕ)
missing_column [] header = None
missing_column (name ∷ names) header =
    if is_some (column_place name header) then missing_column names header else Some name

-- a record is CSV where it has as many fields as the header and each field is UTF-8
abbrev pub is_csv : List (List ℕ) → List (List ℕ) → Bool
is_csv header row = (length row == length header) && list_all is_utf8 row

-- the field of a record in a column
abbrev pub field_in : List (List ℕ) → List ℕ → List (List ℕ) → List ℕ
field_in header name row = unwrap_or (option_and_then (slice_get row) (column_place name header)) []

-- what one or more ASCII digits spell, where that is below a limit
abbrev pub digits_below : ℕ → List ℕ → Option ℕ
digits_below limit [] = None
digits_below limit (d ∷ ds) =
    if all_ascii_digits (d ∷ ds) && nat_lt (digits_value 10 (d ∷ ds)) limit
    then Some (digits_value 10 (d ∷ ds)) else None

-- the number of a field: a minus sign or none, and one or more ASCII digits, within 64 bits
abbrev pub number : List ℕ → Option ℤ
number [] = None
number (c ∷ cs) =
    if c == 45 then option_map (λ n. neg_ℤ (pos n)) (digits_below (2 ^ 63 + 1) cs)
    else option_map pos (digits_below (2 ^ 63) (c ∷ cs))

-- a field is NULL where it is empty
abbrev pub is_null : List ℕ → Bool
is_null field = length field == 0
