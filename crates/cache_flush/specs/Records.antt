-- The regions that were flushed, each once.
use Rattle.std.specs.Prelude.{ℕ, ◌≡◌, ◌<◌, ◌≤◌, ◌+◌, ◌++◌, ◌∷◌, ◌^◌, [], ⊤, List, Bool, false, Option, Some, None, All, count_by, drop, if◌then◌else◌, nat_lt, option_map, slice_get, slice_set, sum_by}
use Rattle.std.specs.Option.{option_and_then}
use Rattle.olap_meaning.specs.declared.regions.Region.{Region}

-- a region, its flushes by how many there were then, and for how many more there is room
pub record RecordOf : Type 0 where
  pub region : Region
  pub flushes : List ℕ
  pub spare : ℕ

-- a flush is after this many
abbrev pub is_after : ℕ → ℕ → Bool
is_after since flush = nat_lt since flush

-- how many flushes of a record are after this many, where its region passes a test
abbrev pub count_of : (Region → Bool) → ℕ → RecordOf → ℕ
count_of test since item =
    if test item.region then count_by (is_after since) item.flushes else 0

-- so of all records together
abbrev pub count_in : (Region → Bool) → ℕ → List RecordOf → ℕ
count_in test since records = sum_by (count_of test since) records

-- records are those of some regions, flushed in this order: of the regions after each place, as many pass each test as the
-- records tell
abbrev pub AreRecordsOf : List Region → List RecordOf → Type 0
AreRecordsOf regions records =
    (test : Region → Bool) (since : ℕ)
    → count_by test (drop since regions) ≡ count_in test since records

-- no flush of a record is later than the last one
abbrev pub AreWithin : ℕ → List RecordOf → Type 0
AreWithin count records = All (λ item. All (λ flush. flush ≤ count) item.flushes) records

-- a record passes a test, where there is one
abbrev pub passes : (RecordOf → Bool) → Option RecordOf → Bool
passes test None = false
passes test (Some item) = test item

-- the record at a position passes a test
abbrev pub passes_at : (RecordOf → Bool) → List RecordOf → ℕ → Bool
passes_at test records position = passes test (slice_get records position)

-- the region of the record at a place
abbrev pub region_at : List RecordOf → ℕ → Option Region
region_at records place = option_map (λ item. item.region) (slice_get records place)

-- the region of the record for which there is room
abbrev pub region_ready : Option ℕ → List RecordOf → Option Region
region_ready ready records = option_and_then (region_at records) ready

-- the record at a place has room for a flush more
abbrev pub HasRoom : List RecordOf → ℕ → Type 0
HasRoom records place =
    (item : RecordOf) × (slice_get records place ≡ Some item) × (0 < item.spare)

-- where there is room for a flush, the record at its place has room, and one flush more can be counted
abbrev pub IsReady : ℕ → Option ℕ → List RecordOf → Type 0
IsReady count None records = ⊤
IsReady count (Some place) records = (count + 1 < 2 ^ 64) × HasRoom records place

-- records tell of flushes what others tell
pub record IsKept (before after : List RecordOf) : Type 0 where
  pub counted : (test : Region → Bool) (since : ℕ) → count_in test since after ≡ count_in test since before
  pub within : (count : ℕ) → AreWithin count before → AreWithin count after

-- the record at a place has one flush more, and all else stays
abbrev pub HasMore : ℕ → ℕ → List RecordOf → List RecordOf → Type 0
HasMore place flush before after =
    (item : RecordOf) × (added : RecordOf) × (slice_get before place ≡ Some item)
    × (after ≡ slice_set before place added) × (added.region ≡ item.region)
    × (added.flushes ≡ item.flushes ++ flush ∷ [])

-- the records, and the places of those that were flushed last
pub record LedgerOf : Type 0 where
  pub records : List RecordOf
  pub recent : List ℕ
