-- The rows of the entries so far.
use Rattle.std.proofs.Common.{◌≡◌, ◌≤◌, ◌*◌, ◌^◌, take, sum_by}
use Rattle.olap_meaning.specs.Legal.{rows_added}
use Rattle.olap_plain.specs.Entries.{entry_of}
use Rattle.olap_plain.proofs.steps.rows_held.Given as goal

-- the rows of the entries so far are summed up
abbrev pub invariant-loop-i : goal.invariant-loop-i
invariant-loop-i l = record {
  summed : l.held ≡ sum_by (λ e. rows_added (entry_of e)) (take l.i l.history);
  within : l.held ≤ l.i * 2 ^ 64;
}
