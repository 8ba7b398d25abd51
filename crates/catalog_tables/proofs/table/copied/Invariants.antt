-- What holds at each turn of `copied`.
use Rattle.std.proofs.Common.{◌≡◌, take}
use Rattle.catalog_tables.proofs.table.copied.Given as goal

abbrev pub invariant-loop-text : goal.invariant-loop-text
invariant-loop-text l = l.copies ≡ take l.text-index l.texts
