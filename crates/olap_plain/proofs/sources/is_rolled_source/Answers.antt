-- That `is_rolled_source` ensures what it says.
use Rattle.olap_plain.specs.Entries.{entries}
use Rattle.olap_plain.proofs.SourceFacts.{rolled_decided}
use Rattle.olap_plain.proofs.sources.is_rolled_source.Goals as goal

pub returns : goal.returns
returns c = rolled_decided c.args.catalog.now (entries c.args.history.now) c.args.cell.now c.args.loads.now c.rolled_passes.result c.rolled_passes.ensures
