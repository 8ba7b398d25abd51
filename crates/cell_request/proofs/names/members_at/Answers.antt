-- That `members_at` ensures `fault`, and what holds at each turn.
use Rattle.std.proofs.Common.{◌∙◌, sym}
use Rattle.std.proofs.lemmas.List.Elements.{All-push}
use Rattle.std.proofs.lemmas.Result.{err_from_is_err_and}
use Rattle.olap_meaning.specs.MemberOf.{IsMemberOf}
use Rattle.query_meaning.specs.Resolution.{member_meant}
use Rattle.cell_request.proofs.Faults.{fault_each}
use Rattle.olap_meaning.proofs.Each.{each_more}
use Rattle.cell_request.proofs.Steps.{members_each}
use Rattle.cell_request.proofs.names.members_at.Goals as goal

pub returns-in_err-member-clause-fault : goal.returns-in_err-member-clause-fault
returns-in_err-member-clause-fault c =
    let p = err_from_is_err_and c.from_residual.result c.from_residual.ensures.1 in
    rw (p.1, p.2)
    (fault_each c.in_err-member.field-0.0 (member_meant c.args.catalog.now c.args.cube) _ c.args.paths.now c.loop-path.path-index c.path-item.result c.loop-path.members (members_each c.args.catalog.now c.args.cube c.args.paths.now) c.loop-path-test.true c.path-item.is
    (sym (members_each c.args.catalog.now c.args.cube _) ∙ c.loop-path.invariant.0) (rw c.as_slice.ensures at c.in_err-member.ensures.fault))

pub loop-path-preserved : goal.loop-path-preserved
loop-path-preserved c =
    rw c.in_ok-push.ensures.ok (
      members_each c.args.catalog.now c.args.cube _
          ∙ each_more (member_meant c.args.catalog.now c.args.cube) c.args.paths.now c.loop-path.path-index c.path-item.result c.loop-path.members c.in_ok-member.member c.loop-path-test.true c.path-item.is
          (sym (members_each c.args.catalog.now c.args.cube _) ∙ c.loop-path.invariant.0) (rw c.as_slice.ensures at c.in_ok-member.ensures.ok),
      All-push (IsMemberOf c.args.catalog.now c.args.cube) c.loop-path.members c.in_ok-member.member c.loop-path.invariant.1 c.in_ok-member.ensures.own,
    )
