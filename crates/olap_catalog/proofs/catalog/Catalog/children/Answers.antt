-- That `children` ensures `own`.
use Rattle.std.proofs.Common.{ℕ, All, [], sym, subst}
use Rattle.std.proofs.lemmas.Result.{IfOk-weaker}
use Rattle.olap_meaning.specs.declared.cells.Member.TheVariants as member
use Rattle.olap_meaning.specs.Catalog.{children}
use Rattle.olap_meaning.specs.MemberOf.{IsMemberOf}
use Rattle.olap_catalog.proofs.OwnFacts.{IsWhole, parts_whole, children_own, each_all}
use Rattle.olap_catalog.proofs.catalog.Catalog.children.Goals as goal

pub returns-in-All-clause-own : goal.returns-in-All-clause-own
returns-in-All-clause-own c =
    let whole = subst IsWhole c.self.view_is (parts_whole c.self.invariant) in
    let one = member.At c.in-All.h [] in
    IfOk-weaker c.members_below.result _ _ (λ found h. λ (cube : ℕ). subst (All (IsMemberOf c.args.self.now cube)) (sym h) (each_all (IsMemberOf c.args.self.now cube) (children c.args.self.now one) (children_own c.args.self.now cube one whole))) c.members_below.ensures

pub returns-in-At-clause-own : goal.returns-in-At-clause-own
returns-in-At-clause-own c =
    let whole = subst IsWhole c.self.view_is (parts_whole c.self.invariant) in
    let one = member.At c.in-At.h c.as_slice.result.now in
    IfOk-weaker c.members_below-in-At.result _ _ (λ found h. λ (cube : ℕ). subst (All (IsMemberOf c.args.self.now cube)) (sym h) (each_all (IsMemberOf c.args.self.now cube) (children c.args.self.now one) (children_own c.args.self.now cube one whole))) c.members_below-in-At.ensures
