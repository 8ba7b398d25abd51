-- What holds at each turn of `cheapest_place`.
use Rattle.std.proofs.Common.{◌≡◌, ◌-◌, drop, length, map}
use Rattle.std.specs.Prelude.{option_and_then, slice_get}
use Rattle.fact_reader.specs.BodyRows.{rows_in}
use Rattle.agg_tables.specs.Costs.{cheapest, read_cost}
use Rattle.segment_load.proofs.choice.cheapest_place.Given as goal

-- the cheapest of the last tables, and what it costs
abbrev pub invariant-loop-k : goal.invariant-loop-k
invariant-loop-k l = record {
  chosen : option_and_then (slice_get (map (λ table. table.value) l.tables)) l.best ≡ cheapest l.header (length l.snapshot) (length (rows_in l.snapshot)) (drop (length l.tables - l.k) (map (λ table. table.value) l.tables));
  counted : l.least ≡ read_cost (length (rows_in l.snapshot)) (cheapest l.header (length l.snapshot) (length (rows_in l.snapshot)) (drop (length l.tables - l.k) (map (λ table. table.value) l.tables)));
}
