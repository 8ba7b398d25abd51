-- What holds at each turn of `candidates`.
use Rattle.std.proofs.Common.{◌≡◌, filter, take}
use Rattle.segment_index.specs.Search as words
use Rattle.segment_index.proofs.search.candidates.Given as goal

abbrev pub invariant-loop-number : goal.invariant-loop-number
invariant-loop-number l = l.found.items ≡ filter (words.has_candidate l.loads.loads l.cell) (take l.number-index l.numbers)
