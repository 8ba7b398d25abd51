-- What holds at each turn of `boxes_among`.
use Rattle.std.proofs.Common.{◌≡◌, ◌++◌, flat_map, take}
use Rattle.cell_request.specs.Standing.{box_among}
use Rattle.cell_request.proofs.boxes.boxes_among.Given as goal

abbrev pub invariant-loop-kept : goal.invariant-loop-kept
invariant-loop-kept l = l.at ≡ flat_map (box_among l.catalog (l.column ++ l.row ++ l.slicer)) (take l.kept-index l.defaults)
