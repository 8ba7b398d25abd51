-- What holds at each turn of `fold_rows`, and what falls at each of them.
use Rattle.std.proofs.Common.{◌≡◌, ◌≤◌, ◌+◌, ◌++◌, length}
use Rattle.olap_meaning.specs.FileQuery.{asked_values, first_fault}
use Rattle.olap_server.proofs.cell.fold_rows.Given as goal

abbrev pub invariant-loop-row : goal.invariant-loop-row
invariant-loop-row l = record {
  asked : length l.tally.values ≤ l.n;
  small : l.n ≤ 8000000;
  counted : l.n + length l.rows ≡ length l.initial.rows;
  aggregated : l.tally.aggregator ≡ l.bound.query.aggregator;
  valued : l.tally.values ++ asked_values l.bound.query l.bound.header l.rows ≡ asked_values l.bound.query l.bound.header l.initial.rows;
  sound_so_far : first_fault l.bound.query l.bound.header (l.n + 1) l.rows ≡ first_fault l.bound.query l.bound.header 1 l.initial.rows;
}

abbrev pub decreases-loop-row : goal.decreases-loop-row
decreases-loop-row l = length l.rows
