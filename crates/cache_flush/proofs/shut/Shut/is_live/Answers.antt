-- The records tell which regions after a place cover a cell.
use Rattle.std.proofs.Common.{◌∙◌, ap, not}
use Rattle.olap_meaning.specs.Covering.{region_covers}
use Rattle.cache_flush.proofs.Recording.{any_told}
use Rattle.cache_flush.proofs.shut.Shut.is_live.Goals as goal

pub returns-else-place-self : goal.returns-else-place-self
returns-else-place-self c =
    rw (← c.self.view_is) (ap not (c.cover.ensures ∙ any_told c.self.inside.flushed.items c.self.inside.ledger.records (λ region. region_covers region c.args.cell.now) c.args.place c.self.invariant.1))
