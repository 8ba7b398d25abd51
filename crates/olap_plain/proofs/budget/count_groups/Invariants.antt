-- What holds at each turn of `count_groups`.
use Rattle.std.proofs.Common.{◌≡◌, ◌≤◌, ◌*◌, ◌^◌, length, take}
use Rattle.olap_meaning.specs.History.{rows_of}
use Rattle.olap_plain.specs.Entries.{entries}
use Rattle.olap_plain.specs.GroupTests.{groups_of}
use Rattle.olap_plain.proofs.budget.count_groups.Given as goal

-- the groups of the rows of the entries so far are counted
abbrev pub invariant-loop-i : goal.invariant-loop-i
invariant-loop-i l = record {
  counted : l.count ≡ length (groups_of l.catalog l.header (rows_of (entries (take l.i l.history)) l.header.cube l.last));
  within : l.count ≤ l.i * 2 ^ 64;
}
