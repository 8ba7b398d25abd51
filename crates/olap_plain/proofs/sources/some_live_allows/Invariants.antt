-- What holds at each turn of `some_live_allows`, and what falls at each of them.
use Rattle.std.proofs.Common.{◌≡◌, ◌≤◌, ◌&&◌, length}
use Rattle.std.specs.List.{list_any}
use Rattle.olap_meaning.specs.Rolled.{allows_in, fits, live_offers}
use Rattle.olap_plain.specs.Entries.{entries}
use Rattle.olap_plain.specs.SourceTests.{offer_of}
use Rattle.olap_plain.proofs.SourceFacts.{upto}
use Rattle.olap_plain.proofs.sources.some_live_allows.Given as goal

-- what is left to look at gives the answer
abbrev pub invariant-loop-j : goal.invariant-loop-j
invariant-loop-j l = record {
  within : l.j ≤ length l.history;
  rest : upto (entries l.history) l.cell (λ other. fits l.cell l.split (offer_of l.first) other && allows_in other.header l.split l.value) l.j ≡ list_any (λ other. fits l.cell l.split (offer_of l.first) other && allows_in other.header l.split l.value) (live_offers (entries l.history) l.cell);
}

abbrev pub decreases-loop-j : goal.decreases-loop-j
decreases-loop-j l = l.j
