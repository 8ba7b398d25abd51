-- Keys by which loads with few cells are found by a cell's values: a header has the key of each of its cells where they are
-- few, and else one key, of its columns.
use Rattle.std.specs.Prelude.{ℕ, zero, suc, ◌+◌, ◌*◌, ◌/◌, ◌%◌, ◌^◌, List, [], ◌∷◌, Bool, if◌then◌else◌, fold, length, map, nat_eq, nat_le, nat_lt, slice_index}
use Rattle.olap_meaning.specs.declared.cells.Allowed.{Allowed}
use Rattle.olap_meaning.specs.declared.cells.Cell.{Cell}
use Rattle.olap_meaning.specs.declared.cells.Header.{Header}
use Rattle.olap_meaning.specs.Covering.{columns_of}
use Rattle.cache_flush.specs.Formed.{values_of}
use Rattle.segment_index.specs.declared.keys.TheConstants.{MOST_CELLS, FACTOR, CELL_SEED, COLUMNS_SEED}

-- a key with a number more
unfoldable pub with_number : ℕ → ℕ → ℕ
with_number key number = (key * FACTOR + number) % 2 ^ 64

-- a key with a column and a value more
abbrev pub with_pair : ℕ → ℕ → ℕ → ℕ
with_pair key column value = with_number (with_number key column) value

-- the key of a cell: its cube and measure, then each column with its value, in order
abbrev pub cell_key : Cell → ℕ
cell_key cell = fold (λ key pair. with_pair key pair.0 pair.1) (with_pair CELL_SEED cell.cube cell.measure) cell.at

-- the key of a cube, a measure and columns, in order
abbrev pub columns_key : ℕ → ℕ → List ℕ → ℕ
columns_key cube measure columns = fold with_number (with_pair COLUMNS_SEED cube measure) columns

-- the key of a cell's columns: its cube and measure, then each column
abbrev pub cell_columns_key : Cell → ℕ
cell_columns_key cell = columns_key cell.cube cell.measure (columns_of cell)

-- the key of a header's columns: its cube and measure, then each column
abbrev pub header_columns_key : Header → ℕ
header_columns_key header = columns_key header.cube header.measure (map (λ own. own.0) header.columns)

-- how many cells have just these columns, at values that these allow: the product of the numbers of these. Here and below,
-- sizes tell how many values each column has
abbrev pub cell_count : (ℕ → ℕ) → List (ℕ × Allowed) → ℕ
cell_count sizes [] = 1
cell_count sizes (own ∷ columns) =
    length (values_of (sizes own.0) own.1) * cell_count sizes columns

-- these cells are few
abbrev pub are_few : (ℕ → ℕ) → List (ℕ × Allowed) → Bool
are_few sizes columns = nat_le (cell_count sizes columns) MOST_CELLS

-- the key of one of these cells, by its number: its remainder by how many values the first column allows picks that column's
-- value, and its quotient goes on to the columns after it
abbrev pub picked_key : (ℕ → ℕ) → ℕ → List (ℕ × Allowed) → ℕ → ℕ
picked_key sizes key [] number = key
picked_key sizes key (own ∷ columns) number =
    picked_key sizes
    (with_pair key own.0
    (slice_index (values_of (sizes own.0) own.1)
    (number % length (values_of (sizes own.0) own.1)))) columns
    (number / length (values_of (sizes own.0) own.1))

-- how many keys a header has: the number of its cells where they are few, else one
abbrev pub key_count : (ℕ → ℕ) → Header → ℕ
key_count sizes header =
    if are_few sizes header.columns then cell_count sizes header.columns else 1

-- the key of a header that has this number
abbrev pub key_at : (ℕ → ℕ) → Header → ℕ → ℕ
key_at sizes header number =
    if are_few sizes header.columns
    then picked_key sizes (with_pair CELL_SEED header.cube header.measure) header.columns number
    else header_columns_key header

-- how many of the first numbers have a key
abbrev pub tally : (ℕ → ℕ) → ℕ → Header → ℕ → ℕ
tally sizes key header zero = 0
tally sizes key header (suc number) =
    if nat_eq (key_at sizes header number) key then suc (tally sizes key header number)
    else tally sizes key header number

-- a header has a key
abbrev pub has_key : (ℕ → ℕ) → Header → ℕ → Bool
has_key sizes header key = nat_lt 0 (tally sizes key header (key_count sizes header))
