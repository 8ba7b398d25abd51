-- What holds at each turn of `reserve_keys`.
use Rattle.olap_meaning.specs.Rolled.{value_count}
use Rattle.segment_index.specs.Grouping.{IsReserved}
use Rattle.segment_index.specs.Keys.{tally}
use Rattle.segment_index.proofs.listing.reserve_keys.Given as goal

abbrev pub invariant-loop-number : goal.invariant-loop-number
invariant-loop-number l = IsReserved (λ q. tally (value_count l.catalog) q l.header l.number) l.fn.cells l.cells
