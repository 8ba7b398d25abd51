-- The regions that concern the load tell of the cells that it covers.
use Rattle.std.proofs.Common.{◌∙◌, drop}
use Rattle.cache_flush.proofs.Concerning.{live_concerning}
use Rattle.cache_flush.proofs.kept.Kept.is_gone.Goals as goal

pub returns : goal.returns
returns c told =
    let none = rw c.header.ensures.value at (c.shuts_off.ensures told) in
    λ cell up covers. live_concerning c.args.self.now.body.header cell (drop c.args.self.now.place c.args.shut.now.regions) covers ∙ none cell up covers
