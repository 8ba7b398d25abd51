-- What holds at each turn of `default_boxes`.
use Rattle.cell_request.proofs.DefaultFacts.{AreBefore}
use Rattle.cell_request.proofs.defaults.default_boxes.Given as goal

abbrev pub invariant-loop-h : goal.invariant-loop-h
invariant-loop-h l = AreBefore l.catalog l.cube l.kept l.h
