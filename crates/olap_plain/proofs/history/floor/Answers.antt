-- That `floor` ensures what it says.
use Rattle.olap_plain.proofs.EntryFacts.{floor_front}
use Rattle.olap_plain.proofs.history.floor.Goals as goal

pub returns : goal.returns
returns c = floor_front c.args.entries.now c.args.cell.now c.latest_flush.result c.version.result c.version.ensures c.latest_flush.ensures.value
