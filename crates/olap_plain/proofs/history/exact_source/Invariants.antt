-- What holds at each turn of `exact_source`, and what falls at each of them.
use Rattle.std.proofs.Common.{◌≡◌, ◌≤◌, ◌&&◌, length}
use Rattle.olap_meaning.specs.History.{latest, live, load_just_covers, exact_source}
use Rattle.olap_plain.specs.Entries.{entries}
use Rattle.olap_plain.proofs.history.exact_source.Given as goal

-- what is left to look at gives the answer
abbrev pub invariant-loop-j : goal.invariant-loop-j
invariant-loop-j l = record {
  within : l.j ≤ length l.entries;
  rest : latest l.j (λ k. live (entries l.entries) k l.cell && load_just_covers (entries l.entries) k l.cell) ≡ exact_source (entries l.entries) l.cell;
}

abbrev pub decreases-loop-j : goal.decreases-loop-j
decreases-loop-j l = l.j
