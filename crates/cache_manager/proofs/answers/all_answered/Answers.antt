-- One cell more is answered.
use Rattle.cache_manager.proofs.Finding.{known_at}
use Rattle.cache_manager.proofs.answers.all_answered.Goals as goal

pub answered-requires-clause-known : goal.answered-requires-clause-known
answered-requires-clause-known c = known_at c.args.history.now.setting.catalog c.args.hits.now c.loop-hit.hit-index c.hit-item.result c.requires.known c.loop-hit-test.true c.hit-item.is
