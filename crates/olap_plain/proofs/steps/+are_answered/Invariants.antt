-- What falls at each turn of `are_answered`.
use Rattle.std.proofs.Common.{length}
use Rattle.olap_plain.proofs.steps.+are_answered.Given as goal

abbrev pub decreases-are_answered : goal.decreases-are_answered
decreases-are_answered l = length l.cells.now
