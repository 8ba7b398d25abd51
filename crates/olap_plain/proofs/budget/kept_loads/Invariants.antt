-- What holds at each turn of `kept_loads`.
use Rattle.std.proofs.Common.{◌≡◌}
use Rattle.olap_meaning.specs.History.{kept_up_to}
use Rattle.olap_plain.specs.Entries.{entries}
use Rattle.olap_plain.proofs.budget.kept_loads.Given as goal

-- the kept loads so far
abbrev pub invariant-loop-i : goal.invariant-loop-i
invariant-loop-i l = l.loads ≡ kept_up_to (entries l.history) l.i
