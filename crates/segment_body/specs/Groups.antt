-- How a body keeps its rows.
use Rattle.std.specs.Prelude.{ℕ, ℤ, ◌≡◌, ◌≤◌, ◌⊎◌, List, [], ◌∷◌, ◌++◌, false, Option, Some, flat_map, map, length, nat_lt, slice_get, slice_index_or, slice_set, bytes_eq, IsTrue}
use Rattle.std.specs.List.{list_all, list_any}
use Rattle.olap_meaning.specs.declared.Aggregator.{Aggregator}
use Rattle.olap_meaning.specs.declared.TheConstants.{ROW_LIMIT}
use Rattle.olap_meaning.specs.declared.cells.Header.{Header}
use Rattle.segment_header.specs.Headers.{is_header, are_allowed}
use Rattle.measure_folds.specs.Tallied.{Tallied}
use Rattle.segment_body.specs.declared.group.Block.{Block}
use Rattle.segment_body.specs.BodyOf.{different_values, numbers_at}

-- the tally of the rows that have some values, one value for each column
pub record Group : Type 0 where
  pub values : List ℕ
  pub tally : Tallied

-- a group, by its parts
abbrev pub group : List ℕ → Tallied → Group
group values tally = record { values = values; tally = tally }

-- the groups of entries, by what their keys hold
abbrev pub groups_by : {K : Type 0} → (K → List ℕ) → List (K × Tallied) → List Group
groups_by items entries = map (λ entry. group (items entry.0) entry.1) entries

-- the group of the rows that have some values
abbrev pub group_of : Aggregator → List (List ℕ × Option ℤ) → List ℕ → Group
group_of aggregator rows values =
    record {
      values = values;
      tally = record { aggregator = aggregator; values = numbers_at rows values };
    }

-- the groups of some rows: one for each different list of values, by first appearance
abbrev pub groups_of : Aggregator → List (List ℕ × Option ℤ) → List Group
groups_of aggregator rows = map (group_of aggregator rows) (different_values rows)

-- the values of groups, in their order
abbrev pub values_of : List Group → List (List ℕ)
values_of groups = map (λ group. group.values) groups

-- a row by the place of its values and its number
abbrev pub row_at : List (List ℕ) → ℕ × Option ℤ → List ℕ × Option ℤ
row_at values place = (slice_index_or values place.0 [], place.1)

-- the rows of some groups, by the place of each row's group and the row's number
abbrev pub rows_of : List Group → List (ℕ × Option ℤ) → List (List ℕ × Option ℤ)
rows_of groups places = map (row_at (values_of groups)) places

-- the places and numbers of rows, block by block
abbrev pub placed_in : List Block → List (ℕ × Option ℤ)
placed_in blocks =
    flat_map (λ block. map (λ number. (block.place, number)) block.numbers.items) blocks

-- a group with more numbers
abbrev pub with_numbers : Group → List (Option ℤ) → Group
with_numbers group numbers =
    record group { tally = record group.tally { values = group.tally.values ++ numbers } }

-- a group with one number more
abbrev pub with_number : Group → Option ℤ → Group
with_number group number = with_numbers group (number ∷ [])

-- rows of the same values are added to groups, by their numbers, to that at a place: the group there has the values, and
-- gets the numbers; or none has them, and a group of these rows alone is put at the end
abbrev pub IsMerged : Aggregator → List ℕ → List (Option ℤ) → List Group → List Group → ℕ → Type 0
IsMerged aggregator values numbers old new place =
    ((slice_get (values_of old) place ≡ Some values)
    × ((d : Group)
    → new ≡ slice_set old place (with_numbers (slice_index_or old place d) numbers)))
    ⊎ ((list_any (bytes_eq values) (values_of old) ≡ false) × (place ≡ length old)
    × (new
    ≡ old
    ++ record {
      values = values;
      tally = record { aggregator = aggregator; values = numbers };
    } ∷ []))

-- one row is added to groups
abbrev pub IsAdded : Aggregator → List ℕ → Option ℤ → List Group → List Group → ℕ → Type 0
IsAdded aggregator values number old new place =
    IsMerged aggregator values (number ∷ []) old new place

-- a header, groups and places hold rows: the header is well formed and allows each row, there are not too many rows,
-- the groups are theirs, and each place is that of a group
pub record AreHeld (header : Header) (aggregator : Aggregator) (groups : List Group)
    (places : List (ℕ × Option ℤ)) (rows : List (List ℕ × Option ℤ)) : Type 0 where
  pub header_holds : IsTrue (is_header header)
  pub allowed : IsTrue (list_all (λ row. are_allowed header row.0) rows)
  pub room : length rows ≤ ROW_LIMIT
  pub grouped : groups ≡ groups_of aggregator rows
  pub placed : IsTrue (list_all (λ place. nat_lt place.0 (length groups)) places)
