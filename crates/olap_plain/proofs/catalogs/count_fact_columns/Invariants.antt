-- What holds at each turn of `count_fact_columns`.
use Rattle.std.proofs.Common.{◌≡◌, ◌≤◌, length, take, map}
use Rattle.olap_meaning.specs.Catalog.{first_appearances}
use Rattle.olap_plain.proofs.catalogs.count_fact_columns.Given as goal

-- the fact columns of the measures so far are counted
abbrev pub invariant-loop-i : goal.invariant-loop-i
invariant-loop-i l = record {
  counted : l.count ≡ length (first_appearances (map (λ m. m.column) (take l.i l.measures)));
  within : l.count ≤ l.i;
}
