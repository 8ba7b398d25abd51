-- What holds at each turn of `oldest_kept`.
use Rattle.std.proofs.Common.{◌≡◌, None}
use Rattle.olap_meaning.specs.History.{earliest, kept}
use Rattle.olap_plain.specs.Entries.{entries}
use Rattle.olap_plain.proofs.budget.oldest_kept.Given as goal

-- no load so far is kept
abbrev pub invariant-loop-i : goal.invariant-loop-i
invariant-loop-i l = earliest l.i (kept (entries l.history)) ≡ None
