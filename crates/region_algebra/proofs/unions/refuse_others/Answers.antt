-- That the fault names the dimensions of the first part and of the first that is of others.
use Rattle.std.proofs.Common.{◌∙◌, Some, ap, find, inr, not, option_map, sym}
use Rattle.olap_meaning.specs.declared.regions.Region.{Region}
use Rattle.query_meaning.specs.RegionMeaning.{Mismatch, first_dims, same_dims}
use Rattle.region_algebra.proofs.unions.refuse_others.Goals as goal

pub returns-in_ok-second-in-Some-clause-fault : goal.returns-in_ok-second-in-Some-clause-fault
returns-in_ok-second-in-Some-clause-fault c =
    let parts = c.args.parts.now in
    inr
    (ap (option_map (λ (part : Region). Mismatch (first_dims parts) part.dims)) (ap (λ d. find (λ (part : Region). not (same_dims d part.dims)) parts) (sym c.requires) ∙ sym c.in-Some.ensures)
    ∙ ap (λ d. Some (Mismatch d c.in-Some.part.now.dims)) (sym (c.in_ok-first-in-Some.ensures ∙ c.requires))
    ∙ ap (λ d. Some (Mismatch c.in_ok-first-in-Some.first d)) (sym (c.in_ok-second-in-Some.ensures ∙ c.as_slice.ensures)))
