-- What keys a header has.
use Rattle.std.proofs.Common.{◌≡◌, ◌∙◌, ◌≤◌, ◌<◌, ◌+◌, ◌*◌, ◌%◌, ℕ, zero, suc, Bool, true, false, ◌⊎◌, inl, inr, List, [], ◌∷◌, fold, length, map, min, refl, sym, ap, arith, nat_eq, mul_assoc, subst}
use Rattle.std.specs.Prelude.{◌==◌, ◌&&◌, nat_lt, slice_index}
use Rattle.std.specs.List.{list_all, list_any, range_with_len}
use Rattle.std.proofs.lemmas.Bool.{and_from, and_parts, cases_Bool, cases_lt, eq-eqb, eqb-true, lt-ltb, ltb-true, true≢false}
use Rattle.std.proofs.lemmas.List.FromFn.{length-range_with_len}
use Rattle.std.proofs.lemmas.Nat.{div-mul-add, mod-mul-add, mod_below, mul-add-lt}
use Rattle.olap_meaning.specs.declared.cells.Allowed.{Allowed}
use Rattle.olap_meaning.specs.declared.cells.Allowed.TheVariants.{Any, Set}
use Rattle.olap_meaning.specs.declared.cells.Cell.{Cell}
use Rattle.olap_meaning.specs.declared.cells.Header.{Header}
use Rattle.olap_meaning.specs.Covering.{allows, among, columns_of, header_covers, just_covers, names_column}
use Rattle.olap_meaning.specs.Legal.{rise}
use Rattle.olap_meaning.proofs.Lists.{below_differs}
use Rattle.list_orders.proofs.Rising.{same_rising}
use Rattle.segment_header.specs.Headers.{is_header, is_set}
use Rattle.segment_header.proofs.RiseFacts.{found_at, key_told}
use Rattle.cache_flush.specs.Formed.{is_formed, values_of}
use Rattle.segment_index.specs.declared.keys.TheConstants.{CELL_SEED}
use Rattle.segment_index.specs.Keys.{are_few, cell_columns_key, cell_count, cell_key, has_key, key_at, key_count, picked_key, tally, with_pair}

-- ---- numbers of cells

-- a product that is cut off at a limit and goes on is the same below it
pub capped_more : (limit count more rest : ℕ) → min limit (min limit (count * more) * rest) ≡ min limit (count * (more * rest))
capped_more limit count more zero = omega (arith, mul_assoc count more 0)
capped_more limit count more (suc rest) =
    let whole : count * more * suc rest ≡ count * (more * suc rest) = mul_assoc count more (suc rest) in
    elim (cases_lt limit (count * more)) [
      | inl above ↦
          let cut : min limit (count * more) ≡ limit = omega arith in
          rw cut (omega arith)
      | inr below ↦
          let same : min limit (count * more) ≡ count * more = omega arith in
          rw same (ap (min limit) whole)
    ]

-- a column more
pub count_next : (sizes : ℕ → ℕ) (limit count : ℕ) (own : ℕ × Allowed) (columns : List (ℕ × Allowed)) (size more whole : ℕ) → size ≡ sizes own.0 → more ≡ length (values_of size own.1)
    → min limit (count * cell_count sizes (own ∷ columns)) ≡ whole → min limit (min limit (count * more) * cell_count sizes columns) ≡ whole
count_next sizes limit count own columns size more whole same is before = capped_more limit count more (cell_count sizes columns) ∙ rw (is, same) before

-- ---- how many of the first numbers have a key

-- one number more does not have a key less often
tally_next : (sizes : ℕ → ℕ) (key : ℕ) (header : Header) (number : ℕ) → tally sizes key header number ≤ tally sizes key header (suc number)
tally_next sizes key header number =
    elim (cases_Bool (nat_eq (key_at sizes header number) key)) [
      | inl here ↦ rw here (omega arith)
      | inr other ↦ rw other (omega arith)
    ]

-- more numbers do not have a key less often
pub tally_more : (sizes : ℕ → ℕ) (key : ℕ) (header : Header) (less more : ℕ) → less ≤ more → tally sizes key header less ≤ tally sizes key header more
tally_more sizes key header less zero le = let same : less ≡ 0 = omega arith in rw same (omega arith)
tally_more sizes key header less (suc more) le =
    elim (cases_lt less (suc more)) [
      | inl below ↦
          let before = tally_more sizes key header less more (omega arith) in
          let next = tally_next sizes key header more in
          omega (arith, before, next)
      | inr above ↦ let same : less ≡ suc more = omega arith in rw same (omega arith)
    ]

-- a number that has a key is counted
tally_here : (sizes : ℕ → ℕ) (key : ℕ) (header : Header) (number : ℕ) → key_at sizes header number ≡ key → 0 < tally sizes key header (suc number)
tally_here sizes key header number is = rw (eq-eqb (key_at sizes header number) key is) (omega arith)

-- a header has the key that it has at a number below how many keys it has
pub key_found : (sizes : ℕ → ℕ) (header : Header) (number key : ℕ) → number < key_count sizes header → key_at sizes header number ≡ key → has_key sizes header key ≡ true
key_found sizes header number key below is =
    let here = tally_here sizes key header number is in
    let more = tally_more sizes key header (suc number) (key_count sizes header) below in
    lt-ltb 0 (tally sizes key header (key_count sizes header)) (omega (arith, here, more))

-- so it has each of its keys
pub key_there : (sizes : ℕ → ℕ) (header : Header) (number : ℕ) → number < key_count sizes header → has_key sizes header (key_at sizes header number) ≡ true
key_there sizes header number below = key_found sizes header number (key_at sizes header number) below refl

-- ---- the keys of a header that covers a cell

-- columns pair with a cell's: each is the cell's at its place, and the cell's value is allowed there
abbrev are_paired : List (ℕ × Allowed) → List (ℕ × ℕ) → Bool
are_paired [] [] = true
are_paired [] (pair ∷ at) = false
are_paired (own ∷ columns) [] = false
are_paired (own ∷ columns) (pair ∷ at) = (nat_eq own.0 pair.0 && allows own.1 pair.1) && are_paired columns at

-- the number of a value in a list
place_of : (values : List ℕ) (value : ℕ) → among values value ≡ true → (place : ℕ) × (place < length values) × (slice_index values place ≡ value)
place_of [] value h = absurd (true≢false (sym h))
place_of (first ∷ values) value h =
    elim (cases_Bool (first == value)) [
      | inl same ↦ (zero, omega arith, eqb-true first value same)
      | inr other ↦ let later = place_of values value (rw other at h) in (suc later.0, omega (arith, later.1), later.2)
    ]

-- a number of a range stands at its place
range_at : (first count place : ℕ) → place < count → slice_index (range_with_len first count) place ≡ first + place
range_at first zero place below = absurd (omega (arith, below))
range_at first (suc count) zero below = omega arith
range_at first (suc count) (suc place) below = range_at (first + 1) count place (omega (arith, below)) ∙ omega arith

-- the value that a number picks of all below a size
pub picked_below : (size number value : ℕ) → 0 < size → value ≡ number % size → value ≡ slice_index (range_with_len 0 size) (number % length (range_with_len 0 size))
picked_below size number value some is =
    let below : number % size < size = mod_below number size some in
    let there : slice_index (range_with_len 0 size) (number % size) ≡ number % size = range_at 0 size (number % size) below ∙ omega arith in
    rw (length-range_with_len 0 size, there) is

-- the number of a value among those that a column of this size allows
place_in : (size : ℕ) (allowed : Allowed) (value : ℕ) → allows allowed value ≡ true → value < size
    → (place : ℕ) × (place < length (values_of size allowed)) × (slice_index (values_of size allowed) place ≡ value)
place_in size Any value is below = (value, rw (length-range_with_len 0 size) below, range_at 0 size value below ∙ omega arith)
place_in size (Set values) value is below = place_of values value is

-- the first column's value is picked by the remainder, and the quotient goes on
picked_first : (sizes : ℕ → ℕ) (key column own value : ℕ) (allowed : Allowed) (columns : List (ℕ × Allowed)) (place rest : ℕ) → column ≡ own → place < length (values_of (sizes column) allowed)
    → slice_index (values_of (sizes column) allowed) place ≡ value
    → picked_key sizes key ((column, allowed) ∷ columns) (rest * length (values_of (sizes column) allowed) + place) ≡ picked_key sizes (with_pair key own value) columns rest
picked_first sizes key column own value allowed columns place rest same below is =
    let count = length (values_of (sizes column) allowed) in
    rw (mod-mul-add rest count place below, div-mul-add rest count place below, is, same) refl

-- the number of the key of a cell, whose values are the columns'
number_of : (sizes : ℕ → ℕ) (key : ℕ) (columns : List (ℕ × Allowed)) (at : List (ℕ × ℕ)) → are_paired columns at ≡ true → list_all (λ pair. nat_lt pair.1 (sizes pair.0)) at ≡ true
    → (number : ℕ) × (number < cell_count sizes columns) × (picked_key sizes key columns number ≡ fold (λ key pair. with_pair key pair.0 pair.1) key at)
number_of sizes key [] [] paired below = (zero, omega arith, refl)
number_of sizes key [] (pair ∷ at) paired below = absurd (true≢false (sym paired))
number_of sizes key (own ∷ columns) [] paired below = absurd (true≢false (sym paired))
number_of sizes key ((column, allowed) ∷ columns) ((own, value) ∷ at) paired below =
    let parts = and_parts (nat_eq column own && allows allowed value) (are_paired columns at) paired in
    let first = and_parts (nat_eq column own) (allows allowed value) parts.0 in
    let same : column ≡ own = eqb-true column own first.0 in
    let all = and_parts (nat_lt value (sizes own)) (list_all (λ pair. nat_lt pair.1 (sizes pair.0)) at) below in
    let less : value < sizes own = ltb-true value (sizes own) all.0 in
    let here = place_in (sizes column) allowed value first.1 (subst (λ (c : ℕ). value < sizes c) (sym same) less) in
    let rest = number_of sizes (with_pair key own value) columns at parts.1 all.1 in
    let count = length (values_of (sizes column) allowed) in (
      rest.0 * count + here.0,
      mul-add-lt rest.0 count here.0 (cell_count sizes columns) rest.1 here.1,
      picked_first sizes key column own value allowed columns here.0 rest.0 same here.1 here.2 ∙ rest.2,
    )

-- where the columns of a cell come after the first of a header, the later ones of the header allow what all of them do
without_first : (own : ℕ × Allowed) (columns : List (ℕ × Allowed)) (at : List (ℕ × ℕ)) → list_all (nat_lt own.0) (map (λ pair. pair.0) at) ≡ true
    → list_all (λ pair. list_any (λ column. (column.0 == pair.0) && allows column.1 pair.1) (own ∷ columns)) at ≡ true
    → list_all (λ pair. list_any (λ column. (column.0 == pair.0) && allows column.1 pair.1) columns) at ≡ true
without_first own columns [] above all = refl
without_first own columns (pair ∷ at) above all =
    let over = and_parts (nat_lt own.0 pair.0) (list_all (nat_lt own.0) (map (λ pair. pair.0) at)) above in
    let parts = and_parts (list_any (λ column. (column.0 == pair.0) && allows column.1 pair.1) (own ∷ columns))
    (list_all (λ pair. list_any (λ column. (column.0 == pair.0) && allows column.1 pair.1) (own ∷ columns)) at) all in
    let other : (own.0 == pair.0) ≡ false = below_differs own.0 pair.0 (ltb-true own.0 pair.0 over.0) in
    and_from (list_any (λ column. (column.0 == pair.0) && allows column.1 pair.1) columns)
    (list_all (λ pair. list_any (λ column. (column.0 == pair.0) && allows column.1 pair.1) columns) at)
    (rw other at parts.0) (without_first own columns at over.1 parts.1)

-- equal columns of which each allows the cell's value are paired
paired_from : (columns : List (ℕ × Allowed)) (at : List (ℕ × ℕ)) → rise (map (λ own. own.0) columns) ≡ true → map (λ own. own.0) columns ≡ map (λ pair. pair.0) at
    → list_all (λ pair. list_any (λ column. (column.0 == pair.0) && allows column.1 pair.1) columns) at ≡ true → are_paired columns at ≡ true
paired_from [] [] up same all = refl
paired_from [] (pair ∷ at) up same all = absurd (cc)
paired_from (own ∷ columns) [] up same all = absurd (cc)
paired_from (own ∷ columns) (pair ∷ at) up same all =
    let first : own.0 ≡ pair.0 = cc in
    let rest : map (λ own. own.0) columns ≡ map (λ pair. pair.0) at = cc in
    let rises = and_parts (list_all (nat_lt own.0) (map (λ own. own.0) columns)) (rise (map (λ own. own.0) columns)) up in
    let parts = and_parts (list_any (λ column. (column.0 == pair.0) && allows column.1 pair.1) (own ∷ columns))
    (list_all (λ pair. list_any (λ column. (column.0 == pair.0) && allows column.1 pair.1) (own ∷ columns)) at) all in
    let only = found_at (λ own. own.0) pair.0 (λ column. (column.0 == pair.0) && allows column.1 pair.1)
    (λ column. key_told column.0 pair.0 (allows column.1 pair.1)) (own ∷ columns) 0 own up (omega arith) first in
    and_from ((own.0 == pair.0) && allows own.1 pair.1) (are_paired columns at)
    (sym only ∙ parts.0)
    (paired_from columns at rises.1 rest (without_first own columns at (rw rest at rises.0) parts.1))

-- ---- a header that covers a cell with just the cell's columns has the same columns

-- a column where a value is allowed is one of them
named_by : (columns : List (ℕ × Allowed)) (column value : ℕ) → list_any (λ own. (own.0 == column) && allows own.1 value) columns ≡ true → among (map (λ own. own.0) columns) column ≡ true
named_by [] column value h = absurd (true≢false (sym h))
named_by (own ∷ columns) column value h =
    elim (cases_Bool (own.0 == column)) [
      | inl same ↦ rw same refl
      | inr other ↦ rw other (named_by columns column value (rw other at h))
    ]

-- each column of a cell is one of a header's
pub all_named : (columns : List (ℕ × Allowed)) (at : List (ℕ × ℕ)) → list_all (λ pair. list_any (λ column. (column.0 == pair.0) && allows column.1 pair.1) columns) at ≡ true
    → list_all (among (map (λ own. own.0) columns)) (map (λ pair. pair.0) at) ≡ true
all_named columns [] all = refl
all_named columns (pair ∷ at) all =
    let parts = and_parts (list_any (λ column. (column.0 == pair.0) && allows column.1 pair.1) columns)
    (list_all (λ pair. list_any (λ column. (column.0 == pair.0) && allows column.1 pair.1) columns) at) all in
    and_from (among (map (λ own. own.0) columns) pair.0) (list_all (among (map (λ own. own.0) columns)) (map (λ pair. pair.0) at))
    (named_by columns pair.0 pair.1 parts.0) (all_named columns at parts.1)

-- a column that a cell names is one of the cell's
named_in : (at : List (ℕ × ℕ)) (column : ℕ) → list_any (λ pair. pair.0 == column) at ≡ true → among (map (λ pair. pair.0) at) column ≡ true
named_in [] column h = h
named_in (pair ∷ at) column h =
    elim (cases_Bool (pair.0 == column)) [
      | inl same ↦ rw same refl
      | inr other ↦ rw other (named_in at column (rw other at h))
    ]

-- each column of a header is one of a cell's
all_named_in : (at : List (ℕ × ℕ)) (columns : List (ℕ × Allowed)) → list_all (λ column. list_any (λ pair. pair.0 == column.0) at) columns ≡ true
    → list_all (among (map (λ pair. pair.0) at)) (map (λ own. own.0) columns) ≡ true
all_named_in at [] all = refl
all_named_in at (own ∷ columns) all =
    let parts = and_parts (list_any (λ pair. pair.0 == own.0) at) (list_all (λ column. list_any (λ pair. pair.0 == column.0) at) columns) all in
    and_from (among (map (λ pair. pair.0) at) own.0) (list_all (among (map (λ pair. pair.0) at)) (map (λ own. own.0) columns))
    (named_in at own.0 parts.0) (all_named_in at columns parts.1)

-- ---- a cell's keys

-- a header with few cells has the key of a cell of this number
few_served : (sizes : ℕ → ℕ) (header : Header) (cell : Cell) (number : ℕ) → are_few sizes header.columns ≡ true → header.cube ≡ cell.cube → header.measure ≡ cell.measure → number < cell_count sizes header.columns
    → picked_key sizes (with_pair CELL_SEED cell.cube cell.measure) header.columns number ≡ cell_key cell → has_key sizes header (cell_key cell) ≡ true
few_served sizes header cell number few cube measure below is = key_found sizes header number (cell_key cell) (rw few below) (rw (few, cube, measure) is)

-- any other has the key of its columns
wide_served : (sizes : ℕ → ℕ) (header : Header) (cell : Cell) → are_few sizes header.columns ≡ false → header.cube ≡ cell.cube → header.measure ≡ cell.measure
    → map (λ own. own.0) header.columns ≡ columns_of cell → has_key sizes header (cell_columns_key cell) ≡ true
wide_served sizes header cell wide cube measure columns = key_found sizes header 0 (cell_columns_key cell) (rw wide (omega arith)) (rw (wide, cube, measure, columns) refl)

-- a header that covers a well-formed cell with just the cell's columns has one of the cell's keys
pub served_key : (sizes : ℕ → ℕ) (header : Header) (cell : Cell) → is_header header ≡ true → is_formed sizes cell ≡ true → just_covers header cell ≡ true
    → (has_key sizes header (cell_key cell) ≡ true) ⊎ (has_key sizes header (cell_columns_key cell) ≡ true)
served_key sizes header cell formed own covers =
    let (up, below) = and_parts (rise (columns_of cell)) (list_all (λ pair. nat_lt pair.1 (sizes pair.0)) cell.at) own in
    let rises = and_parts (rise (map (λ own. own.0) header.columns)) (list_all (λ column. is_set column.1) header.columns) formed in
    let just = and_parts (header_covers header cell) (list_all (λ column. names_column cell column.0) header.columns) covers in
    let covered = and_parts ((header.cube == cell.cube) && (header.measure == cell.measure))
    (list_all (λ pair. list_any (λ column. (column.0 == pair.0) && allows column.1 pair.1) header.columns) cell.at) just.0 in
    let head = and_parts (header.cube == cell.cube) (header.measure == cell.measure) covered.0 in
    let cube : header.cube ≡ cell.cube = eqb-true header.cube cell.cube head.0 in
    let measure : header.measure ≡ cell.measure = eqb-true header.measure cell.measure head.1 in
    let columns : map (λ own. own.0) header.columns ≡ columns_of cell =
    same_rising (map (λ own. own.0) header.columns) (columns_of cell) rises.0 up (all_named_in cell.at header.columns just.1) (all_named header.columns cell.at covered.1) in
    elim (cases_Bool (are_few sizes header.columns)) [
      | inl few ↦
          let number = number_of sizes (with_pair CELL_SEED cell.cube cell.measure) header.columns cell.at
          (paired_from header.columns cell.at rises.0 columns covered.1) below in
          inl (few_served sizes header cell number.0 few cube measure number.1 number.2)
      | inr wide ↦ inr (wide_served sizes header cell wide cube measure columns)
    ]
