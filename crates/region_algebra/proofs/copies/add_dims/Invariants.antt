-- What holds at each turn of `add_dims`.
use Rattle.std.proofs.Common.{◌≡◌, ◌++◌, take}
use Rattle.region_algebra.proofs.copies.add_dims.Given as goal

abbrev pub invariant-loop-one : goal.invariant-loop-one
invariant-loop-one l = l.dims ≡ l.initial.dims ++ take l.one-index l.more
