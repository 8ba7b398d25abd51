-- That `find_member` ensures `own`.
use Rattle.std.proofs.Common.{subst}
use Rattle.std.proofs.lemmas.Result.{IfOk-weaker}
use Rattle.olap_meaning.specs.declared.cells.LevelRef.TheVariants.{Measures, Whole}
use Rattle.olap_catalog.proofs.OwnFacts.{IsWhole, whole_parts, found_own}
use Rattle.olap_catalog.proofs.catalog.Catalog.find_member.Goals as goal

pub returns-in-Measures-clause-own : goal.returns-in-Measures-clause-own
returns-in-Measures-clause-own c =
    let whole =
    subst IsWhole c.self.view_is
    (whole_parts c.self.inside.schema c.self.inside.tables c.self.inside.columns c.self.inside.hierarchies c.self.inside.cubes c.self.invariant.paired c.self.invariant.even c.self.invariant.columned c.self.invariant.leveled) in
    IfOk-weaker c.measure_named.result _ _ (λ m h. found_own c.args.self.now c.args.cube Measures c.args.path.now m whole h) c.measure_named.ensures.ok

pub returns-in-Whole-clause-own : goal.returns-in-Whole-clause-own
returns-in-Whole-clause-own c =
    let whole =
    subst IsWhole c.self.view_is
    (whole_parts c.self.inside.schema c.self.inside.tables c.self.inside.columns c.self.inside.hierarchies c.self.inside.cubes c.self.invariant.paired c.self.invariant.even c.self.invariant.columned c.self.invariant.leveled) in
    IfOk-weaker c.member_named.result _ _ (λ m h. found_own c.args.self.now c.args.cube (Whole c.in-Whole.h) c.args.path.now m whole h) c.member_named.ensures.ok
