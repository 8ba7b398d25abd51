-- What holds at each turn of `fitting_hold`.
use Rattle.std.proofs.Common.{◌≡◌, true, ◌&&◌}
use Rattle.std.specs.List.{list_any}
use Rattle.olap_meaning.specs.Rolled.{all_below, allows_in, fits, live_offers}
use Rattle.olap_plain.specs.Entries.{entries}
use Rattle.olap_plain.specs.SourceTests.{offer_of}
use Rattle.olap_plain.proofs.sources.fitting_hold.Given as goal

-- each value so far is held
abbrev pub invariant-loop-value : goal.invariant-loop-value
invariant-loop-value l = all_below l.value (λ value. list_any (λ other. fits l.cell l.split (offer_of l.first) other && allows_in other.header l.split value) (live_offers (entries l.history) l.cell)) ≡ true
