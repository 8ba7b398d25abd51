-- What holds at each turn of `level_order`.
use Rattle.std.proofs.Common.{◌≡◌}
use Rattle.agg_tables.specs.Places.{order_below}
use Rattle.agg_tables.proofs.columns.level_order.Given as goal

-- the columns below the next have the places of their levels
abbrev pub invariant-loop-c : goal.invariant-loop-c
invariant-loop-c l = l.order.items ≡ order_below l.levels l.c
