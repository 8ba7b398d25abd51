-- That `is_legal_start` ensures what it says.
use Rattle.olap_plain.specs.Entries.{entries}
use Rattle.olap_plain.proofs.StepFacts.{start_decided}
use Rattle.olap_plain.proofs.steps.is_legal_start.Goals as goal

pub returns : goal.returns
returns c =
    start_decided c.args.setting.now (entries c.args.history.now) (record { who = c.args.who; header = c.args.header.now; version = c.args.present; reason = c.args.reason.now }) c.start_passes.result c.start_passes.ensures
