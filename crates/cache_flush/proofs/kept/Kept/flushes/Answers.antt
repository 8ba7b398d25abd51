-- The regions that concern the load are those of which some touch it.
use Rattle.std.proofs.Common.{◌∙◌, drop, sym}
use Rattle.cache_flush.proofs.Concerning.{touching_concerning}
use Rattle.cache_flush.proofs.kept.Kept.flushes.Goals as goal

pub returns : goal.returns
returns c = rw c.header.ensures.value at c.count.ensures ∙ sym (touching_concerning c.args.self.now.body.header (drop c.args.self.now.place c.args.shut.now.regions))
