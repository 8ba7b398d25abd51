-- What holds at each turn of `number_in`.
use Rattle.std.proofs.Common.{◌≡◌, ◌≤◌, length, take, false, bytes_eq}
use Rattle.std.specs.List.{list_any}
use Rattle.olap_meaning.specs.Catalog.{first_appearances, field_texts}
use Rattle.olap_plain.proofs.catalogs.number_in.Given as goal

-- the values of the records so far are counted, and none is the text
abbrev pub invariant-loop-i : goal.invariant-loop-i
invariant-loop-i l = record {
  counted : l.count ≡ length (first_appearances (field_texts l.field (take l.i l.records)));
  within : l.count ≤ l.i;
  unfound : list_any (bytes_eq l.text) (field_texts l.field (take l.i l.records)) ≡ false;
}
