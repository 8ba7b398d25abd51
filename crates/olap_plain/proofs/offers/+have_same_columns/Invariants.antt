-- What falls at each turn of `have_same_columns`.
use Rattle.std.proofs.Common.{length}
use Rattle.olap_plain.proofs.offers.+have_same_columns.Given as goal

abbrev pub decreases-have_same_columns : goal.decreases-have_same_columns
decreases-have_same_columns l = length l.some.now
