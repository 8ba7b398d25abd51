-- What holds at each turn of `version_has_same`.
use Rattle.std.proofs.Common.{◌≡◌, take}
use Rattle.std.specs.List.{list_any}
use Rattle.olap_meaning.specs.History.{rows_of}
use Rattle.olap_plain.specs.Entries.{entries}
use Rattle.olap_plain.specs.GroupTests.{have_same}
use Rattle.olap_plain.proofs.budget.version_has_same.Given as goal

-- whether a row of the entries so far is of the group
abbrev pub invariant-loop-i : goal.invariant-loop-i
invariant-loop-i l = l.found ≡ list_any (have_same l.catalog l.header l.row) (rows_of (entries (take l.i l.before)) l.header.cube l.last)
