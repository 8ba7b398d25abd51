-- What holds at each turn of `count_values`.
use Rattle.std.proofs.Common.{◌≡◌, ◌≤◌, length, take}
use Rattle.olap_meaning.specs.Catalog.{first_appearances, field_texts}
use Rattle.olap_plain.proofs.catalogs.count_values.Given as goal

-- the values of the records so far are counted
abbrev pub invariant-loop-i : goal.invariant-loop-i
invariant-loop-i l = record {
  counted : l.count ≡ length (first_appearances (field_texts l.field (take l.i l.records)));
  within : l.count ≤ l.i;
}
