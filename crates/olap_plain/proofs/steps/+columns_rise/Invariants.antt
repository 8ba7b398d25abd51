-- What falls at each turn of `columns_rise`.
use Rattle.std.proofs.Common.{length}
use Rattle.olap_plain.proofs.steps.+columns_rise.Given as goal

abbrev pub decreases-columns_rise : goal.decreases-columns_rise
decreases-columns_rise g l = length l.pairs.now
