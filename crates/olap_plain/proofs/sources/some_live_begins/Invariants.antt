-- What holds at each turn of `some_live_begins`, and what falls at each of them.
use Rattle.std.proofs.Common.{◌≡◌, ◌≤◌, length}
use Rattle.std.specs.List.{list_any}
use Rattle.olap_meaning.specs.Rolled.{can_begin, live_offers, value_count}
use Rattle.olap_plain.specs.Entries.{entries}
use Rattle.olap_plain.proofs.SourceFacts.{upto}
use Rattle.olap_plain.proofs.sources.some_live_begins.Given as goal

-- what is left to look at gives the answer
abbrev pub invariant-loop-j : goal.invariant-loop-j
invariant-loop-j l = record {
  within : l.j ≤ length l.history;
  rest : upto (entries l.history) l.cell (can_begin (value_count l.catalog) l.cell (live_offers (entries l.history) l.cell)) l.j ≡ list_any (can_begin (value_count l.catalog) l.cell (live_offers (entries l.history) l.cell)) (live_offers (entries l.history) l.cell);
}

abbrev pub decreases-loop-j : goal.decreases-loop-j
decreases-loop-j l = l.j
