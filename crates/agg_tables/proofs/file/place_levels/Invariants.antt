-- What holds at each turn of `place_levels`.
use Rattle.std.proofs.Common.{◌≡◌, drop, map, take}
use Rattle.olap_meaning.specs.Records.{missing_column}
use Rattle.agg_tables.specs.Places.{AreLevelsPlaced}
use Rattle.agg_tables.proofs.file.place_levels.Given as goal

abbrev pub invariant-loop-level : goal.invariant-loop-level
invariant-loop-level l = record {
  placed : AreLevelsPlaced l.header (take l.level-index l.levels) l.places.items;
  rest_missing : missing_column (map (λ level. level.name) (drop l.level-index l.levels)) l.header ≡ missing_column (map (λ level. level.name) l.levels) l.header;
}
