-- What holds at each turn of `columns_of`.
use Rattle.std.proofs.Common.{◌≡◌, map}
use Rattle.olap_meaning.specs.declared.cells.Allowed.TheVariants.{Any}
use Rattle.agg_tables.specs.Declarations.{columns_below}
use Rattle.agg_tables.proofs.columns.columns_of.Given as goal

-- the columns below the next are there
abbrev pub invariant-loop-c : goal.invariant-loop-c
invariant-loop-c l = l.columns ≡ map (λ column. (column, Any)) (columns_below l.levels l.c)
