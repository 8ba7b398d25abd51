-- The search among the loads of some numbers.
use Rattle.std.specs.Prelude.{ℕ, ◌==◌, List, Option, Some, None, if◌then◌else◌, Bool, false, fold, nat_le, nat_lt}
use Rattle.std.specs.List.{find}
use Rattle.olap_meaning.specs.declared.cells.Cell.{Cell}
use Rattle.cache_flush.specs.Loads as loads
use Rattle.cache_flush.specs.Loads.{KeptOf, serves}

-- the load of a number
abbrev pub load_of : List KeptOf → ℕ → Option KeptOf
load_of loads number = find (λ kept. kept.load == number) loads

-- a load of this number or of a greater one was found
abbrev pub reaches : Option KeptOf → ℕ → Bool
reaches None number = false
reaches (Some best) number = nat_le number best.load

-- a load, where it serves a cell
abbrev pub serving : Cell → Option KeptOf → Option KeptOf
serving cell None = None
serving cell (Some kept) = if serves kept cell then Some kept else None

-- the later of two loads
abbrev pub later : Option KeptOf → KeptOf → Option KeptOf
later None next = Some next
later (Some best) next = if nat_lt best.load next.load then Some next else Some best

-- the later of two loads, where the next serves the cell
abbrev pub later_serving : Cell → Option KeptOf → Option KeptOf → Option KeptOf
later_serving cell best None = best
later_serving cell best (Some next) = if serves next cell then later best next else best

-- the latest load that serves a cell, of those with these numbers and one more
abbrev pub latest_serving : List KeptOf → Cell → Option KeptOf → List ℕ → Option KeptOf
latest_serving loads cell best numbers =
    fold (λ found number. later_serving cell found (load_of loads number)) best numbers

-- the load that was found is a candidate for a cell
abbrev pub is_candidate : Cell → Option KeptOf → Bool
is_candidate cell None = false
is_candidate cell (Some kept) = loads.is_candidate kept cell

-- so is the load of a number
abbrev pub has_candidate : List KeptOf → Cell → ℕ → Bool
has_candidate loads cell number = is_candidate cell (load_of loads number)
