-- That `fitting_hold` ensures what it says where a value is missing.
use Rattle.std.proofs.Common.{sym, ◌∙◌, ◌&&◌}
use Rattle.std.specs.List.{list_any}
use Rattle.olap_meaning.specs.Rolled.{allows_in, fits, live_offers, value_count}
use Rattle.olap_meaning.proofs.Members.{all_below_fails}
use Rattle.olap_plain.specs.Entries.{entries}
use Rattle.olap_plain.specs.SourceTests.{offer_of}
use Rattle.olap_plain.proofs.sources.fitting_hold.Goals as goal

pub returns-then-not-some_live_allows : goal.returns-then-not-some_live_allows
returns-then-not-some_live_allows c =
    sym (all_below_fails (value_count c.args.catalog.now c.args.split)
    (λ value. list_any (λ other. fits c.args.cell.now c.args.split (offer_of c.args.first.now) other && allows_in other.header c.args.split value) (live_offers (entries c.args.history.now) c.args.cell.now)) c.loop-value.value
    (rw c.value_count-value-end.ensures at c.loop-value-test.true) (sym c.some_live_allows.ensures ∙ c.if-not-some_live_allows.true))
