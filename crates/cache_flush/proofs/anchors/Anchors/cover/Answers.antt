-- The candidates have each record that covers the cell.
use Rattle.std.proofs.Common.{◌∙◌}
use Rattle.cache_flush.proofs.AnchorFacts.{covered_at}
use Rattle.cache_flush.proofs.anchors.Anchors.cover.Goals as goal

pub returns : goal.returns
returns c = c.candidate_covers.ensures ∙ covered_at c.args.self.now c.args.records.now c.args.place c.args.cell.now c.requires.listed
