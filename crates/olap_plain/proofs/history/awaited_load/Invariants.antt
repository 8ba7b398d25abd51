-- What holds at each turn of `awaited_load`.
use Rattle.std.proofs.Common.{◌≡◌, None}
use Rattle.olap_meaning.specs.History.{awaited, earliest}
use Rattle.olap_plain.specs.Entries.{entries}
use Rattle.olap_plain.proofs.history.awaited_load.Given as goal

-- no load so far is awaited
abbrev pub invariant-loop-i : goal.invariant-loop-i
invariant-loop-i l = earliest l.i (λ j. awaited (entries l.entries) j l.cell) ≡ None
