-- What holds at each turn of `is_title`.
use Rattle.std.proofs.Common.{length}
use Rattle.query_meaning.specs.Titles.{IsTitle}
use Rattle.grid_reader.proofs.TitleSteps.{MarkedNames, TitleTo}
use Rattle.grid_reader.proofs.title.is_title.Given as goal

abbrev pub invariant-loop-rest : goal.invariant-loop-rest
invariant-loop-rest l = record {
  before : TitleTo l.field l.rest;
  behind : IsTitle l.field → MarkedNames l.rest;
}

abbrev pub decreases-loop-rest : goal.decreases-loop-rest
decreases-loop-rest l = length l.rest
