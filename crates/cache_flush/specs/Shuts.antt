-- What shuts off part of a load.
use Rattle.std.specs.Prelude.{List, Bool, Option, not}
use Rattle.std.specs.List.{list_any}
use Rattle.olap_meaning.specs.declared.cells.Cell.{Cell}
use Rattle.olap_meaning.specs.declared.regions.Region.{Region}
use Rattle.olap_meaning.specs.Covering.{region_covers}

-- the regions that were flushed, in order, as often as they were, and the one for which there is room
pub record ShutOf : Type 0 where
  pub regions : List Region
  pub ready : Option Region

-- a cell is live under some regions: none of them covers it
abbrev pub is_live : List Region → Cell → Bool
is_live regions cell = not (list_any (λ region. region_covers region cell) regions)
