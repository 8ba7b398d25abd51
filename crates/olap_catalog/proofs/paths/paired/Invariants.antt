-- What holds at each turn of `paired`.
use Rattle.std.proofs.Common.{◌≡◌, ◌++◌, drop}
use Rattle.std.specs.List.{zip}
use Rattle.olap_catalog.proofs.paths.paired.Given as goal

abbrev pub invariant-loop-i : goal.invariant-loop-i
invariant-loop-i l = l.pairs ++ zip (drop l.i l.columns) (drop l.i l.values) ≡ zip l.columns l.values
