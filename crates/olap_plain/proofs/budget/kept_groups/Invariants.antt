-- What holds at each turn of `kept_groups`.
use Rattle.std.proofs.Common.{◌≡◌, ◌^◌, ◌-◌, min, sum_by}
use Rattle.olap_meaning.specs.Budget.{group_count}
use Rattle.olap_meaning.specs.History.{kept_up_to}
use Rattle.olap_plain.specs.Entries.{entries}
use Rattle.olap_plain.proofs.budget.kept_groups.Given as goal

-- the groups of the kept loads so far are summed up
abbrev pub invariant-loop-i : goal.invariant-loop-i
invariant-loop-i l = l.count ≡ min (sum_by (group_count l.catalog (entries l.history)) (kept_up_to (entries l.history) l.i)) (2 ^ 128 - 1)
