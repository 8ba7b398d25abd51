-- The oldest kept load is the one that may be evicted, and the others are kept after it.
use Rattle.cache_manager.proofs.Evicting.{evicted_kept, fewer_kept, legal_eviction}
use Rattle.cache_manager.proofs.evictions.evict_oldest.Goals as goal

pub push-requires-clause-legal : goal.push-requires-clause-legal
push-requires-clause-legal c =
    legal_eviction c.args.history.now.setting c.args.history.now.entries c.args.shelf.now.loads c.unwrap-load.result c.steps_are_legal.ensures c.requires.kept c.numbers_differ.ensures (rw c.unwrap-load.ensures at c.oldest.ensures) c.requires.above c.requires.after

pub returns-clause-kept : goal.returns-clause-kept
returns-clause-kept c =
    rw (c.push.ensures.setting, c.push.ensures.entries)
    (evicted_kept c.args.history.now.setting c.args.history.now.entries c.args.shelf.now.loads c.remove.new.self.loads c.unwrap-load.result c.steps_are_legal.ensures c.requires.kept c.remove.ensures.left)

pub returns-clause-fewer : goal.returns-clause-fewer
returns-clause-fewer c =
    let oldest = rw c.unwrap-load.ensures at c.oldest.ensures in
    fewer_kept c.args.history.now.setting c.args.history.now.entries c.args.shelf.now.loads c.remove.new.self.loads c.unwrap-load.result c.steps_are_legal.ensures c.requires.kept c.remove.ensures.left c.numbers_differ.ensures oldest.0
