-- That a union of regions is one.
use Rattle.std.proofs.Common.{◌∙◌, ap, sym}
use Rattle.query_meaning.specs.RegionMeaning.{box_counts, first_dims, many_united, mismatch}
use Rattle.region_algebra.proofs.OwnFacts.{union_made}
use Rattle.region_algebra.proofs.unions.union_in.Goals as goal

pub returns-clause-own : goal.returns-clause-own
returns-clause-own c =
    union_made c.args.cube c.args.parts c.in_ok-dims.dims c.in_ok-boxes.boxes c.requires
    (ap mismatch (sym c.as_slice.ensures) ∙ c.in_ok-dims.ensures.same)
    (ap (λ ps. many_united 0 (box_counts ps)) (sym c.as_slice.ensures) ∙ c.in_ok-dims.ensures.few)
    (c.in_ok-dims.ensures.dims ∙ ap first_dims c.as_slice.ensures) c.in_ok-boxes.ensures
