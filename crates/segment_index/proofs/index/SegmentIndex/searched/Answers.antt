-- That all candidates for a cell are among the numbers that are searched.
use Rattle.std.proofs.Common.{◌∙◌, ap, sym}
use Rattle.olap_meaning.specs.Covering.{among}
use Rattle.olap_meaning.specs.Rolled.{value_count}
use Rattle.segment_index.proofs.CandidateFacts.{candidate_listed, if_ok}
use Rattle.segment_index.proofs.SearchFacts.{number_there}
use Rattle.segment_index.proofs.index.SegmentIndex.searched.Goals as goal

pub returns-then-is_formed : goal.returns-then-is_formed
returns-then-is_formed c =
    let up = rw c.deref.ensures at (sym c.is_formed.ensures ∙ c.if-is_formed.true) in
    rw (← c.self.view_is) (if_ok c.above.result (λ numbers is kept held passes. ap (λ ns. among ns kept.load) is ∙ rw c.cell_list_mask.ensures (candidate_listed (value_count c.self.inside.catalog.value) c.self.inside.lists.masks c.self.inside.loads.loads c.args.cell.now c.self.invariant.0.0 up kept held passes)) c.above.ensures)

pub returns-else-is_formed : goal.returns-else-is_formed
returns-else-is_formed c =
    rw (← c.self.view_is) (if_ok c.numbers.result (λ numbers members kept held passes. members kept.load ∙ number_there c.self.inside.loads.loads kept held) c.numbers.ensures.members)
