-- Those so far are served.
use Rattle.std.proofs.Common.{◌≡◌, drop}
use Rattle.std.specs.List.{list_all}
use Rattle.rollup_plan.specs.Serving.{is_served}
use Rattle.rollup_plan.proofs.serving.are_served.Given as goal

abbrev pub invariant-loop-part : goal.invariant-loop-part
invariant-loop-part g l =
    list_all (λ part. is_served (g.S.Shelf.loads l.shelf) l.cell part.load) (drop l.part-index l.parts)
    ≡ list_all (λ part. is_served (g.S.Shelf.loads l.shelf) l.cell part.load) l.parts
