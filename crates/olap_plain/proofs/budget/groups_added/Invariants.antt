-- What holds at each turn of `groups_added`.
use Rattle.std.proofs.Common.{◌≡◌, ◌≤◌, ◌+◌, ◌++◌, length, take}
use Rattle.olap_meaning.specs.History.{rows_of}
use Rattle.olap_plain.specs.Entries.{entries}
use Rattle.olap_plain.specs.GroupTests.{groups_of}
use Rattle.olap_plain.proofs.budget.groups_added.Given as goal

-- the groups that the rows so far add are counted
abbrev pub invariant-loop-i : goal.invariant-loop-i
invariant-loop-i l = record {
  counted : length (groups_of l.catalog l.header (rows_of (entries l.before) l.header.cube l.last ++ take l.i l.rows)) ≡ length (groups_of l.catalog l.header (rows_of (entries l.before) l.header.cube l.last)) + l.count;
  within : l.count ≤ l.i;
}
