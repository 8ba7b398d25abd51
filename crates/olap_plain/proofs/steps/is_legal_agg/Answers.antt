-- That `is_legal_agg` ensures what it says.
use Rattle.olap_plain.specs.Entries.{entries}
use Rattle.olap_plain.proofs.StepFacts.{agg_decided}
use Rattle.olap_plain.proofs.steps.is_legal_agg.Goals as goal

pub returns : goal.returns
returns c = agg_decided c.args.setting.now (entries c.args.history.now) c.args.who c.args.table c.args.built c.agg_passes.result c.agg_passes.ensures
