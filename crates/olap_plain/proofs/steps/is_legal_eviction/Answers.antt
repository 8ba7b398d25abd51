-- That `is_legal_eviction` ensures what it says.
use Rattle.olap_plain.specs.Entries.{entries}
use Rattle.olap_plain.proofs.StepFacts.{evict_decided}
use Rattle.olap_plain.proofs.steps.is_legal_eviction.Goals as goal

pub returns : goal.returns
returns c = evict_decided c.args.setting.now (entries c.args.history.now) c.args.j c.evict_passes.result c.evict_passes.ensures
