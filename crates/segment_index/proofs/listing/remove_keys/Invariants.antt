-- What holds at each turn of `remove_keys`.
use Rattle.olap_meaning.specs.Rolled.{value_count}
use Rattle.segment_index.specs.Grouping.{IsRemoved}
use Rattle.segment_index.specs.Keys.{tally}
use Rattle.segment_index.proofs.listing.remove_keys.Given as goal

abbrev pub invariant-loop-number : goal.invariant-loop-number
invariant-loop-number l = IsRemoved (λ q. tally (value_count l.catalog) q l.header l.number) l.load l.fn.cells l.cells
