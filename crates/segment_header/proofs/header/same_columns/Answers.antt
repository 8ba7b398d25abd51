-- A header that covers the cell has just its columns.
use Rattle.std.proofs.Common.{◌∙◌, sym}
use Rattle.segment_header.proofs.SameFacts.{same_both_ways}
use Rattle.segment_header.proofs.header.same_columns.Goals as goal

pub returns-clause-same : goal.returns-clause-same
returns-clause-same c = λ none_lacks covers. same_both_ways c.args.header.now c.args.cell.now (rw c.as_slice.ensures at (sym c.are_named.ensures ∙ none_lacks)) covers
