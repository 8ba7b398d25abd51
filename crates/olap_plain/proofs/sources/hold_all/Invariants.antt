-- What holds at each turn of `hold_all`.
use Rattle.std.proofs.Common.{◌≡◌, true}
use Rattle.olap_meaning.specs.Rolled.{all_below}
use Rattle.olap_plain.specs.Entries.{entries}
use Rattle.olap_plain.specs.SourceTests.{some_load_allows}
use Rattle.olap_plain.proofs.sources.hold_all.Given as goal

-- each value so far is held
abbrev pub invariant-loop-value : goal.invariant-loop-value
invariant-loop-value l = all_below l.value (some_load_allows (entries l.history) l.loads l.split) ≡ true
