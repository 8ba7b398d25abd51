-- The law of rising calls, at this history.
use Rattle.history_core.proofs.history.History.calls_rise.Goals as goal

pub returns : goal.returns
returns c = c.calls_rise.ensures c.args.self.now.setting c.args.self.now.entries c.steps_are_legal.ensures
