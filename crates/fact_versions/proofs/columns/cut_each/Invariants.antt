-- What holds at each turn of `cut_each`.
use Rattle.std.proofs.Common.{◌≡◌, ◌++◌, map, take, drop}
use Rattle.fact_versions.proofs.columns.cut_each.Given as goal

abbrev pub invariant-loop-column : goal.invariant-loop-column
invariant-loop-column g l = l.columns ≡ map (λ column. take l.kept column) (take l.column-index l.initial.columns) ++ drop l.column-index l.initial.columns
