-- That the region of a member is one of the cube.
use Rattle.std.proofs.Common.{◌∙◌, [], ◌∷◌, ◌++◌, ap}
use Rattle.region_algebra.proofs.MemberFacts.{member_made}
use Rattle.region_algebra.proofs.members.member.Goals as goal

pub returns-clause-own : goal.returns-clause-own
returns-clause-own c =
    member_made c.args.catalog.now c.args.cube c.args.member.now c.in_ok-dims.dims c.push.new.self c.requires.own (c.in_ok-dims.ensures ∙ ap (λ d. d ∷ []) c.dim_of.ensures)
    (c.in_ok-push.ensures.ok ∙ ap (λ boxes. boxes ++ c.in_ok-member_box.field-0 ∷ []) c.new-boxes.ensures ∙ ap (λ b. b ∷ []) c.in_ok-member_box.ensures)
