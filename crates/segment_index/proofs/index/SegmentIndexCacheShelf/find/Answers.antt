-- That `find` ensures what it says.
use Rattle.std.proofs.Common.{◌∙◌, sym}
use Rattle.olap_meaning.specs.Rolled.{value_count}
use Rattle.segment_index.proofs.CandidateFacts.{greatest_listed, greatest_of_all}
use Rattle.segment_index.proofs.index.SegmentIndexCacheShelf.find.Goals as goal

pub returns-then-not-is_formed : goal.returns-then-not-is_formed
returns-then-not-is_formed c =
    rw (← c.self.view_is, c.latest_serving.ensures)
    (greatest_of_all c.self.inside.loads.loads c.args.cell.now _ c.parts.ensures c.numbers_differ.ensures)

pub returns : goal.returns
returns c =
    let (masked, listed, formed) = c.self.invariant.0 in
    let up = rw c.deref.ensures at (sym c.is_formed.ensures ∙ c.if-not-is_formed.false) in
    rw (← c.self.view_is, c.latest_serving-2.ensures, c.latest_serving-latest.ensures, c.at.ensures, c.at-2.ensures, c.cell_key.ensures, c.cell_columns_key.ensures)
    (greatest_listed (value_count c.self.inside.catalog.value) c.self.inside.lists.cells c.self.inside.loads.loads c.args.cell.now listed formed up c.numbers_differ.ensures)
