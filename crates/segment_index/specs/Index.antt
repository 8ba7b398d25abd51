-- What contracts see of an index.
use Rattle.std.specs.Prelude.{ℕ, ◌≡◌, ◌≤◌, List, [], ◌∷◌, Option, Some, if◌then◌else◌, length, nat_eq, sum_by}
use Rattle.olap_meaning.specs.declared.cells.Header.{Header}
use Rattle.olap_meaning.specs.declared.regions.Region.{Region}
use Rattle.olap_meaning.specs.declared.tables.Catalog.{Catalog}
use Rattle.olap_meaning.specs.Rolled.{value_count}
use Rattle.cache_flush.specs.Loads.{KeptOf}
use Rattle.segment_index.specs.Grouping.{one}
use Rattle.segment_index.specs.Keys.{key_count, tally}
use Rattle.segment_index.specs.Masks.{header_list_mask}

-- the catalog, kept loads, the regions that were flushed, the one for which there is room, how many more loads there is room for, and how
-- many more with each mask and under each key
pub record IndexOf : Type 0 where
  pub catalog : Catalog
  pub loads : List KeptOf
  pub flushed : List Region
  pub ready : Option Region
  pub places : ℕ
  pub places_by_mask : List (ℕ × ℕ)
  pub places_by_key : List (ℕ × ℕ)

-- how many more there is room for at one of them
abbrev pub places_with : List (ℕ × ℕ) → ℕ → ℕ
places_with [] q = 0
places_with (under ∷ others) q = if nat_eq q under.0 then under.1 else places_with others q

-- how often a load of a header stands under a mask
abbrev pub in_mask : Header → ℕ → ℕ
in_mask header mask = one (header_list_mask header) mask

-- how often it stands under a key, where sizes tell how many values each column has
abbrev pub in_key : (ℕ → ℕ) → Header → ℕ → ℕ
in_key sizes header key = tally sizes key header (key_count sizes header)

-- how often loads of some headers stand there
abbrev pub needed : (Header → ℕ → ℕ) → List Header → ℕ → ℕ
needed count headers q = sum_by (λ header. count header q) headers

-- an index has a place for a load of each of these headers: in all, with each mask, and under each key
abbrev pub has_places : IndexOf → List Header → Type 0
has_places index headers =
    (length headers ≤ index.places)
    × ((mask : ℕ) → needed in_mask headers mask ≤ places_with index.places_by_mask mask)
    × ((key : ℕ) → needed (in_key (value_count index.catalog)) headers key ≤ places_with index.places_by_key key)

-- there is room for a flush of a region
abbrev pub is_ready : IndexOf → Region → Type 0
is_ready index region = index.ready ≡ Some region
