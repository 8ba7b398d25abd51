-- Kept loads by their numbers.
use Rattle.std.specs.Prelude.{ℕ, ◌≡◌, ◌≤◌, List, Option, All, length, map}
use Rattle.std.specs.List.{AllByRecursion}
use Rattle.olap_meaning.specs.declared.regions.Region.{Region}
use Rattle.cache_flush.specs.Loads.{KeptOf, kept_in}
use Rattle.cache_flush.specs.declared.kept.Kept.{Kept}

-- kept loads, the regions that were flushed, the one for which there is room, and how many more loads there is room for
pub record NumberedOf : Type 0 where
  pub loads : List KeptOf
  pub flushed : List Region
  pub ready : Option Region
  pub places : ℕ

-- the entries of a map, under the regions that were flushed
abbrev pub seen : List Region → List (ℕ × Kept) → List (ℕ × KeptOf)
seen regions entries = map (λ entry. (entry.0, kept_in regions entry.1)) entries

-- each load stands under its own number
abbrev pub AreNumbered : List (ℕ × KeptOf) → Type 0
AreNumbered entries = AllByRecursion (λ entry. entry.0 ≡ entry.1.load) entries

-- the place of each load is one of the regions that were flushed
abbrev pub AreWithin : List Region → List (ℕ × Kept) → Type 0
AreWithin regions entries = All (λ entry. entry.1.place ≤ length regions) entries
