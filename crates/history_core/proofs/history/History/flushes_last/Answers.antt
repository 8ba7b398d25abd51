-- What a flush is worth after itself, at this history.
use Rattle.history_core.proofs.Flushes.{lasting}
use Rattle.history_core.proofs.history.History.flushes_last.Goals as goal

pub returns : goal.returns
returns c = lasting c.args.self.now
