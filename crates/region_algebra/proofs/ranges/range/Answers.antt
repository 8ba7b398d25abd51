-- That the region of a range is one of the cube.
use Rattle.std.proofs.Common.{◌∙◌, ap, arith, position, subst, sym}
use Rattle.query_meaning.specs.RegionMeaning.{is_member, members_region}
use Rattle.region_algebra.specs.Regions.{IsBoundedOf}
use Rattle.region_algebra.proofs.MemberFacts.{range_own}
use Rattle.region_algebra.proofs.ranges.range.Goals as goal

pub returns-clause-own : goal.returns-clause-own
returns-clause-own c =
    let catalog = c.args.catalog.now in
    let level = c.in_ok-level.level in
    let members = c.between-members.result in
    subst (IsBoundedOf catalog c.args.cube) (sym (c.in_ok-region.ensures ∙ ap (λ d. members_region catalog c.args.cube d members) c.dim_of-dimension.ensures))
    (range_own catalog c.args.cube c.args.first.now level members (position (is_member c.args.first.now) level) (position (is_member c.args.last.now) level)
    c.in_ok-level.ensures.members c.in_ok-level.ensures.own c.between-members.ensures (omega (arith, c.len.ensures, c.in_ok-refuse_many.ensures.ok)))
