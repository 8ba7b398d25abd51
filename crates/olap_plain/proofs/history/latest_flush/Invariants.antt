-- What holds at each turn of `latest_flush`, and what falls at each of them.
use Rattle.std.proofs.Common.{◌≡◌, ◌≤◌, length, unwrap_or}
use Rattle.olap_meaning.specs.History.{latest, flushes, entry_at, is_some_and, latest_flush}
use Rattle.olap_plain.specs.Entries.{entries}
use Rattle.olap_plain.proofs.history.latest_flush.Given as goal

-- what is left to look at gives the answer
abbrev pub invariant-loop-p : goal.invariant-loop-p
invariant-loop-p l = record {
  within : l.p ≤ length l.entries;
  rest : unwrap_or (latest l.p (λ q. is_some_and (flushes l.cell) (entry_at (entries l.entries) q))) 0 ≡ latest_flush (entries l.entries) l.cell;
}

abbrev pub decreases-loop-p : goal.decreases-loop-p
decreases-loop-p l = l.p
