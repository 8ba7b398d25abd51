-- That `hold_all` ensures what it says where a value is missing.
use Rattle.std.proofs.Common.{sym, ◌∙◌}
use Rattle.olap_meaning.specs.Rolled.{value_count}
use Rattle.olap_meaning.proofs.Members.{all_below_fails}
use Rattle.olap_plain.specs.Entries.{entries}
use Rattle.olap_plain.specs.SourceTests.{some_load_allows}
use Rattle.olap_plain.proofs.sources.hold_all.Goals as goal

pub returns-then-not-some_load_allows : goal.returns-then-not-some_load_allows
returns-then-not-some_load_allows c =
    sym (all_below_fails (value_count c.args.catalog.now c.args.split) (some_load_allows (entries c.args.history.now) c.args.loads.now c.args.split) c.loop-value.value
    (rw c.value_count-value-end.ensures at c.loop-value-test.true) (sym c.some_load_allows.ensures ∙ c.if-not-some_load_allows.true))
