-- That `level_members` ensures `own`.
use Rattle.std.proofs.Common.{All, sym, subst}
use Rattle.std.proofs.lemmas.Result.{IfOk-weaker}
use Rattle.olap_meaning.specs.declared.cells.LevelRef.TheVariants.{Measures, Whole, One}
use Rattle.olap_meaning.specs.Catalog.{level_members}
use Rattle.olap_meaning.specs.MemberOf.{IsMemberOf}
use Rattle.olap_catalog.proofs.OwnFacts.{IsWhole, parts_whole, level_own, each_all}
use Rattle.olap_catalog.proofs.catalog.Catalog.level_members.Goals as goal

pub returns-in-Measures-clause-own : goal.returns-in-Measures-clause-own
returns-in-Measures-clause-own c =
    let whole = subst IsWhole c.self.view_is (parts_whole c.self.invariant) in
    let level = Measures in
    IfOk-weaker c.measures.result _ _ (λ found h. subst (All (IsMemberOf c.args.self.now c.args.cube)) (sym h) (each_all (IsMemberOf c.args.self.now c.args.cube) (level_members c.args.self.now c.args.cube level) (level_own c.args.self.now c.args.cube level whole))) c.measures.ensures

pub returns-in-Whole-clause-own : goal.returns-in-Whole-clause-own
returns-in-Whole-clause-own c =
    let whole = subst IsWhole c.self.view_is (parts_whole c.self.invariant) in
    let level = Whole c.in-Whole.h in
    IfOk-weaker c.whole_members.result _ _ (λ found h. subst (All (IsMemberOf c.args.self.now c.args.cube)) (sym h) (each_all (IsMemberOf c.args.self.now c.args.cube) (level_members c.args.self.now c.args.cube level) (level_own c.args.self.now c.args.cube level whole))) c.whole_members.ensures

pub returns-in-One-clause-own : goal.returns-in-One-clause-own
returns-in-One-clause-own c =
    let whole = subst IsWhole c.self.view_is (parts_whole c.self.invariant) in
    let level = One c.in-One.h c.in-One.level in
    IfOk-weaker c.members_of_level.result _ _ (λ found h. subst (All (IsMemberOf c.args.self.now c.args.cube)) (sym h) (each_all (IsMemberOf c.args.self.now c.args.cube) (level_members c.args.self.now c.args.cube level) (level_own c.args.self.now c.args.cube level whole))) c.members_of_level.ensures
