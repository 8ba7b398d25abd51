-- What holds at each turn of `order_values`.
use Rattle.std.proofs.Common.{◌≡◌, take}
use Rattle.agg_tables.specs.Places.{chosen}
use Rattle.agg_tables.proofs.file.TableFile.order_values.Given as goal

-- the columns so far have their values
abbrev pub invariant-loop-place : goal.invariant-loop-place
invariant-loop-place l = l.values.items ≡ chosen (take l.place-index l.place-items) l.found
