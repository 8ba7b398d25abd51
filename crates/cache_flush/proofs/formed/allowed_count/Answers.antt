-- A range has as many numbers as it is long.
use Rattle.std.proofs.Common.{sym}
use Rattle.std.proofs.lemmas.List.FromFn.{length-range_with_len}
use Rattle.cache_flush.proofs.formed.allowed_count.Goals as goal

pub returns-in-Any : goal.returns-in-Any
returns-in-Any c = rw c.in-Any.is (sym (length-range_with_len 0 c.args.size))
