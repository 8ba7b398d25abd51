-- Lists of numbers that are compared as equal are the same.
use Rattle.olap_meaning.proofs.Lists.{same_text}
use Rattle.cache_flush.proofs.same.have_same_values.Goals as goal

pub returns : goal.returns
returns c same = same_text c.args.one.now c.args.other.now (rw c.eq.ensures at same)
