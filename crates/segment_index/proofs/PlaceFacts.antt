-- The places for loads of some headers, in all and in each list.
use Rattle.std.proofs.Common.{◌≡◌, ◌<◌, ◌≤◌, ◌+◌, ◌-◌, ◌++◌, ℕ, suc, List, [], ◌∷◌, refl, ap, arith, nat_eq, length, map, if◌then◌else◌}
use Rattle.std.proofs.lemmas.List.Sums.{sum_by-cons}
use Rattle.olap_meaning.specs.declared.cells.Header.{Header}
use Rattle.olap_meaning.specs.declared.tables.Catalog.{Catalog}
use Rattle.olap_meaning.specs.Rolled.{value_count}
use Rattle.segment_index.specs.Grouping.{IsReserved, places_at}
use Rattle.segment_index.specs.Numbered.{NumberedOf}
use Rattle.segment_index.specs.Index.{IndexOf, has_places, in_key, in_mask, needed, places_with}

abbrev Groups : Type 0
Groups = List (ℕ × (List ℕ × ℕ))

abbrev shown : Groups → List (ℕ × ℕ)
shown groups = map (λ under. (under.0, under.1.1)) groups

-- what contracts see of the parts of an index
abbrev pub index_of : Catalog → NumberedOf → ℕ → Groups → Groups → IndexOf
index_of catalog numbered places masks cells = record {
  catalog = catalog;
  loads = numbered.loads;
  flushed = numbered.flushed;
  ready = numbered.ready;
  places = places;
  places_by_mask = shown masks;
  places_by_key = shown cells;
}

-- the places at one key, as the groups count them
pub places_seen : (groups : Groups) (q : ℕ) → places_with (shown groups) q ≡ places_at groups q
places_seen [] q = refl
places_seen (g ∷ groups) q = ap (λ (n : ℕ). if nat_eq q g.0 then g.1.1 else n) (places_seen groups q)

module _ (count : Header → ℕ → ℕ) (q : ℕ) where
  -- one header more among others
  pub needed_split : (before : List Header) (header : Header) (after : List Header) → needed count (before ++ header ∷ after) q ≡ count header q + needed count (before ++ after) q
  needed_split [] header after = sum_by-cons (λ header. count header q) header after
  needed_split (h ∷ before) header after =
      let rest = needed_split before header after in
      let one = sum_by-cons (λ header. count header q) h (before ++ header ∷ after) in
      let two = sum_by-cons (λ header. count header q) h (before ++ after) in
      omega (arith, rest, one, two)

length_split : (before : List Header) (header : Header) (after : List Header) → length (before ++ header ∷ after) ≡ suc (length (before ++ after))
length_split [] header after = refl
length_split (h ∷ before) header after = ap suc (length_split before header after)

nothing_more : (headers : List Header) → headers ++ [] ≡ headers
nothing_more [] = refl
nothing_more (h ∷ headers) = ap (λ (hs : List Header). h ∷ hs) (nothing_more headers)

-- ---- one list

module _ (count : Header → ℕ → ℕ) (old new : Groups) (header : Header) where
  abbrev Enough : Groups → List Header → Type 0
  Enough groups headers = (q : ℕ) → needed count headers q ≤ places_with (shown groups) q

  -- a place that is there
  pub its_place : (before after : List Header) → Enough old (before ++ header ∷ after) → (q : ℕ) → count header q ≤ places_at old q
  its_place before after had q =
      let split = needed_split count q before header after in
      let seen = places_seen old q in
      let all = had q in
      omega (arith, split, seen, all)

  pub place_taken : ((q : ℕ) → places_at new q + count header q ≡ places_at old q) → (before after : List Header) → Enough old (before ++ header ∷ after) → Enough new (before ++ after)
  place_taken taken before after had q =
      let split = needed_split count q before header after in
      let seen = places_seen old q in
      let now = places_seen new q in
      let less = taken q in
      let all = had q in
      omega (arith, split, seen, now, less, all)

  pub place_added : ((q : ℕ) → places_at new q ≡ places_at old q + count header q) → (headers : List Header) → Enough old headers → Enough new (headers ++ header ∷ [])
  place_added added headers had q =
      let split = needed_split count q headers header [] in
      let same : needed count (headers ++ []) q ≡ needed count headers q = ap (λ (hs : List Header). needed count hs q) (nothing_more headers) in
      let seen = places_seen old q in
      let now = places_seen new q in
      let more = added q in
      let all = had q in
      omega (arith, split, same, seen, now, more, all)

module _ (count : Header → ℕ → ℕ) (old new : Groups) where
  pub places_remain : ((q : ℕ) → places_at old q ≤ places_at new q) → (headers : List Header) → ((q : ℕ) → needed count headers q ≤ places_with (shown old) q) → (q : ℕ) → needed count headers q ≤ places_with (shown new) q
  places_remain more headers had q =
      let seen = places_seen old q in
      let now = places_seen new q in
      let less = more q in
      let all = had q in
      omega (arith, seen, now, less, all)

-- ---- the index

-- a place more
pub place_made :
    (catalog : Catalog) (numbered after : NumberedOf) (places : ℕ) (masks masks_after cells cells_after : Groups) (header : Header) → IsReserved (in_mask header) masks masks_after → IsReserved (in_key (value_count catalog) header) cells cells_after
    → (headers : List Header) → has_places (index_of catalog numbered places masks cells) headers → has_places (index_of catalog after (places + 1) masks_after cells_after) (headers ++ header ∷ [])
place_made catalog numbered after places masks masks_after cells cells_after header more_masks more_cells headers (all, by_mask, by_key) =
    let longer = length_split headers header [] in
    let same : length (headers ++ []) ≡ length headers = ap length (nothing_more headers) in (
      omega (arith, all, longer, same),
      place_added in_mask masks masks_after header more_masks.places headers by_mask,
      place_added (in_key (value_count catalog)) cells cells_after header more_cells.places headers by_key,
    )

-- no place fewer
pub places_stay :
    (catalog : Catalog) (numbered after : NumberedOf) (places more : ℕ) (masks masks_after cells cells_after : Groups) → places ≤ more → ((q : ℕ) → places_at masks q ≤ places_at masks_after q) → ((q : ℕ) → places_at cells q ≤ places_at cells_after q)
    → (headers : List Header) → has_places (index_of catalog numbered places masks cells) headers → has_places (index_of catalog after more masks_after cells_after) headers
places_stay catalog numbered after places more masks masks_after cells cells_after le by_mask_le by_key_le headers (all, by_mask, by_key) =
    (omega (arith, all, le), places_remain in_mask masks masks_after by_mask_le headers by_mask, places_remain (in_key (value_count catalog)) cells cells_after by_key_le headers by_key)

-- a place is used
pub place_used :
    (catalog : Catalog) (numbered after : NumberedOf) (places : ℕ) (masks masks_after cells cells_after : Groups) (header : Header)
    → ((q : ℕ) → places_at masks_after q + in_mask header q ≡ places_at masks q) → ((q : ℕ) → places_at cells_after q + in_key (value_count catalog) header q ≡ places_at cells q)
    → (front rest : List Header) → has_places (index_of catalog numbered places masks cells) (front ++ header ∷ rest) → has_places (index_of catalog after (places - 1) masks_after cells_after) (front ++ rest)
place_used catalog numbered after places masks masks_after cells cells_after header less_masks less_cells front rest (all, by_mask, by_key) =
    let longer = length_split front header rest in (
      omega (arith, all, longer),
      place_taken in_mask masks masks_after header less_masks front rest by_mask,
      place_taken (in_key (value_count catalog)) cells cells_after header less_cells front rest by_key,
    )

-- where no place is needed, all are there
pub places_none : (index : IndexOf) → has_places index []
places_none index = (omega arith, λ mask. omega arith, λ key. omega arith)

-- some place is there
pub some_place : (index : IndexOf) (header : Header) (front rest : List Header) → has_places index (front ++ header ∷ rest) → 0 < index.places
some_place index header front rest (all, by_mask, by_key) = let longer = length_split front header rest in omega (arith, all, longer)

-- a place that is not needed hinders no other
pub places_apart : (index : IndexOf) (front : List Header) (header : Header) (rest : List Header) → has_places index (front ++ header ∷ rest) → has_places index (front ++ rest)
places_apart index front header rest (all, by_mask, by_key) =
    let longer = length_split front header rest in (
      omega (arith, all, longer),
      λ mask. let split = needed_split in_mask mask front header rest in let had = by_mask mask in omega (arith, split, had),
      λ key. let split = needed_split (in_key (value_count index.catalog)) key front header rest in let had = by_key key in omega (arith, split, had),
    )
