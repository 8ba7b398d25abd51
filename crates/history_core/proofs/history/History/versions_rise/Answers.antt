-- The law of rising versions, at this history.
use Rattle.history_core.proofs.history.History.versions_rise.Goals as goal

pub returns : goal.returns
returns c = c.versions_rise.ensures c.args.self.now.entries
