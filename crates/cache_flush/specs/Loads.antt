-- Kept loads, as a list.
use Rattle.std.specs.Prelude.{ℕ, ◌≡◌, ◌≤◌, ◌++◌, ◌∷◌, [], ◌&&◌, List, Bool, true, false, not, All, Contains, Option, Some, None, drop, length, map}
use Rattle.std.specs.List.{list_any}
use Rattle.olap_meaning.specs.declared.cells.Cell.{Cell}
use Rattle.olap_meaning.specs.declared.regions.Region.{Region}
use Rattle.olap_meaning.specs.Covering.{among, concerning, header_covers, just_covers, names_column}
use Rattle.segment_body.specs.BodyOf.{BodyOf, different_values}
use Rattle.cache_flush.specs.Gone.{NoneIsLive}
use Rattle.cache_flush.specs.Shuts.{is_live}
use Rattle.cache_flush.specs.declared.kept.Kept.{Kept}

-- a kept load: its number, its version, its body, and the regions that shut off part of it
pub record KeptOf : Type 0 where
  pub load : ℕ
  pub version : ℕ
  pub body : BodyOf
  pub shut : List Region

-- a kept load, under the regions that were flushed: those after its place that concern its header shut off part of it
abbrev pub kept_in : List Region → Kept → KeptOf
kept_in regions kept =
    record {
      load = kept.load;
      version = kept.version;
      body = kept.body;
      shut = concerning kept.body.header (drop kept.place regions);
    }

-- a kept load without what shuts off part of it
abbrev pub kept_of : Kept → KeptOf
kept_of kept =
    record { load = kept.load; version = kept.version; body = kept.body; shut = [] }

-- the numbers of kept loads
abbrev pub numbers_of : List KeptOf → List ℕ
numbers_of loads = map (λ kept. kept.load) loads

-- no number stands twice
abbrev pub are_different : List ℕ → Bool
are_different [] = true
are_different (n ∷ ns) = not (among ns n) && are_different ns

-- a kept load serves a cell: it covers the cell with just the cell's columns, and is live for it
abbrev pub serves : KeptOf → Cell → Bool
serves kept cell = just_covers kept.body.header cell && is_live kept.shut cell

-- a kept load is a candidate for a cell: it covers the cell, has a column that the cell does not name, and is live for
-- the cell
abbrev pub is_candidate : KeptOf → Cell → Bool
is_candidate kept cell =
    header_covers kept.body.header cell
    && list_any (λ column. not (names_column cell column.0)) kept.body.header.columns
    && is_live kept.shut cell

-- a kept load serves no well-formed cell any more: none that it covers is live for it
abbrev pub IsGone : (ℕ → ℕ) → KeptOf → Type 0
IsGone sizes kept = NoneIsLive sizes kept.shut kept.body.header

-- of kept loads, the one with the greatest number among those that serve a cell, if there is one
abbrev pub IsGreatest : List KeptOf → Cell → Option KeptOf → Type 0
IsGreatest loads cell None = All (λ kept. serves kept cell ≡ false) loads
IsGreatest loads cell (Some best) =
    Contains loads best × (serves best cell ≡ true)
    × All (λ kept. serves kept cell ≡ true → kept.load ≤ best.load) loads

-- how many groups a kept load holds: the different lists of values of its rows
abbrev pub group_count : KeptOf → ℕ
group_count kept = length (different_values kept.body.rows)

-- the least number of kept loads, if there is one
abbrev pub IsOldest : List KeptOf → Option ℕ → Type 0
IsOldest loads None = loads ≡ []
IsOldest loads (Some oldest) =
    (among (numbers_of loads) oldest ≡ true) × All (λ kept. oldest ≤ kept.load) loads

-- a region shuts off part of a kept load, where it concerns the load's header
abbrev pub shut_off : Region → KeptOf → KeptOf
shut_off region kept =
    record kept { shut = kept.shut ++ concerning kept.body.header (region ∷ []) }
