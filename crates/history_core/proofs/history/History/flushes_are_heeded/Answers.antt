-- What a flush is worth after itself, at this history.
use Rattle.history_core.proofs.Flushes.{heeded}
use Rattle.history_core.proofs.history.History.flushes_are_heeded.Goals as goal

pub returns : goal.returns
returns c = heeded c.args.self.now c.answers_are_fresh.ensures c.floor_is_greatest.ensures c.steps_are_legal.ensures
