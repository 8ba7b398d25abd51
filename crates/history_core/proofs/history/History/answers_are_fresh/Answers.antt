-- The law of fresh answers, at this history.
use Rattle.history_core.proofs.history.History.answers_are_fresh.Goals as goal

pub returns : goal.returns
returns c = c.answers_are_fresh.ensures c.args.self.now.setting c.args.self.now.entries c.steps_are_legal.ensures
