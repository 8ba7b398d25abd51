-- That `default_member` ensures `found` and `own`.
use Rattle.std.proofs.Common.{◌∙◌, Ok, Some, [], ◌∷◌, refl, sym, ap, subst, arith, option_map}
use Rattle.olap_meaning.specs.declared.cells.LevelRef.TheVariants.{Whole}
use Rattle.olap_catalog.proofs.OwnFacts.{IsWhole, whole_parts, found_own}
use Rattle.olap_catalog.proofs.WalkFacts.{default_alone, default_found, default_is}
use Rattle.olap_catalog.proofs.catalog.Catalog.default_member.Goals as goal

pub returns-in_default-clause-found : goal.returns-in_default-clause-found
returns-in_default-clause-found c cube = default_is c.args.self.now cube c.args.h ∙ ap (option_map _) (sym c.default_below.ensures ∙ c.in_default.is)

pub returns-clause-found : goal.returns-clause-found
returns-clause-found c cube =
    default_found c.args.self.now cube c.args.h _
    (default_alone c.args.self.now cube c.args.h ([] ∷ []) [] c.default_below.result c.in-Some.first c.new-top.result c.in_ok-values.values (omega arith) refl c.default_below.ensures c.in-Some.is refl c.new-top.ensures c.in_ok-values.ensures)
    ∙ ap Some (sym c.member_of.ensures)

pub returns-clause-own : goal.returns-clause-own
returns-clause-own c cube =
    let whole =
    subst IsWhole c.self.view_is
    (whole_parts c.self.inside.schema c.self.inside.tables c.self.inside.columns c.self.inside.hierarchies c.self.inside.cubes c.self.invariant.paired c.self.invariant.even c.self.invariant.columned c.self.invariant.leveled) in
    found_own c.args.self.now cube (Whole c.args.h) ([] ∷ []) _ whole
    (default_alone c.args.self.now cube c.args.h ([] ∷ []) [] c.default_below.result c.in-Some.first c.new-top.result c.in_ok-values.values (omega arith) refl c.default_below.ensures c.in-Some.is refl c.new-top.ensures c.in_ok-values.ensures
    ∙ ap Ok (sym c.member_of.ensures))
