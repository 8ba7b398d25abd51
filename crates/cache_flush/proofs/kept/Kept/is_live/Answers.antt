-- The regions that concern the load tell of the cells that it covers.
use Rattle.std.proofs.Common.{◌≡◌, ◌∙◌, sym, true, drop}
use Rattle.olap_meaning.specs.Covering.{header_covers}
use Rattle.cache_flush.proofs.Concerning.{live_concerning}
use Rattle.cache_flush.proofs.kept.Kept.is_live.Goals as goal

pub returns-then-covers : goal.returns-then-covers
returns-then-covers c =
    let header = c.args.self.now.body.header in
    let cell = c.args.cell.now in
    let wide : header_covers header cell ≡ true = rw c.header.ensures.value at (sym c.covers.ensures ∙ c.if-covers.true) in
    rw wide (c.is_live.ensures ∙ sym (live_concerning header cell (drop c.args.self.now.place c.args.shut.now.regions) wide))
