-- That `level_place` ensures what it says and stays within its numbers.
use Rattle.std.proofs.Common.{◌≡◌, ◌≤◌, ◌∙◌, All, ap, sym, subst, map, length, slice_get, arith}
use Rattle.std.specs.Option.{option_copied}
use Rattle.olap_meaning.specs.declared.schema.TheConstants.{LEVEL_LIMIT}
use Rattle.olap_meaning.specs.declared.tables.Hierarchy.{Hierarchy}
use Rattle.olap_meaning.specs.declared.tables.Catalog.{Catalog}
use Rattle.olap_meaning.specs.Catalog.{match_of, level_names}
use Rattle.olap_catalog.specs.Roots.{level_names_in}
use Rattle.olap_catalog.proofs.LevelFacts.{none_kept, some_kept, level_within, level_small}
use Rattle.olap_catalog.proofs.catalog.Catalog.level_place.Goals as goal

pub returns-in-None-clause-found : goal.returns-in-None-clause-found
returns-in-None-clause-found c =
    let kept : c.self.inside.level_names ≡ map (level_names_in c.args.self.now.columns) c.args.self.now.hierarchies = c.self.invariant.levels_named ∙ ap (λ (k : Catalog). map (level_names_in k.columns) k.hierarchies) c.self.view_is in
    none_kept c.args.self.now c.self.inside.level_names c.args.h c.args.name.now kept (ap (slice_get c.self.inside.level_names) (sym c.h.view_is) ∙ sym c.get.ensures ∙ ap option_copied c.in-None.is)

pub returns-in-None-match_of-clause-found : goal.returns-in-None-match_of-clause-found
returns-in-None-match_of-clause-found c =
    let kept : c.self.inside.level_names ≡ map (level_names_in c.args.self.now.columns) c.args.self.now.hierarchies = c.self.invariant.levels_named ∙ ap (λ (k : Catalog). map (level_names_in k.columns) k.hierarchies) c.self.view_is in
    let own : c.in-Some.names.now ≡ level_names c.args.self.now c.args.h =
    some_kept c.args.self.now c.self.inside.level_names c.args.h c.in-Some.names.now kept (ap (slice_get c.self.inside.level_names) (sym c.h.view_is) ∙ sym c.get.ensures ∙ ap option_copied c.in-Some.is) in
    sym c.in-None-match_of.is ∙ c.match_of.ensures.matched ∙ ap (match_of c.args.name.now) (c.as_slice.ensures ∙ own)

pub returns-in-Some-match_of-clause-found : goal.returns-in-Some-match_of-clause-found
returns-in-Some-match_of-clause-found c =
    let kept : c.self.inside.level_names ≡ map (level_names_in c.args.self.now.columns) c.args.self.now.hierarchies = c.self.invariant.levels_named ∙ ap (λ (k : Catalog). map (level_names_in k.columns) k.hierarchies) c.self.view_is in
    let own : c.in-Some.names.now ≡ level_names c.args.self.now c.args.h =
    some_kept c.args.self.now c.self.inside.level_names c.args.h c.in-Some.names.now kept (ap (slice_get c.self.inside.level_names) (sym c.h.view_is) ∙ sym c.get.ensures ∙ ap option_copied c.in-Some.is) in
    sym c.in-Some-match_of.is ∙ c.match_of.ensures.matched ∙ ap (match_of c.args.name.now) (c.as_slice.ensures ∙ own)

pub returns-in-Some-match_of-clause-known : goal.returns-in-Some-match_of-clause-known
returns-in-Some-match_of-clause-known c =
    let kept : c.self.inside.level_names ≡ map (level_names_in c.args.self.now.columns) c.args.self.now.hierarchies = c.self.invariant.levels_named ∙ ap (λ (k : Catalog). map (level_names_in k.columns) k.hierarchies) c.self.view_is in
    let own : c.in-Some.names.now ≡ level_names c.args.self.now c.args.h =
    some_kept c.args.self.now c.self.inside.level_names c.args.h c.in-Some.names.now kept (ap (slice_get c.self.inside.level_names) (sym c.h.view_is) ∙ sym c.get.ensures ∙ ap option_copied c.in-Some.is) in
    let long = ap length (c.as_slice.ensures ∙ own) in
    let within = c.in-Some-match_of.ensures.within in
    level_within c.args.self.now c.args.h c.in-Some-match_of.level (omega (arith, long, within))

pub overflow_cast-result : goal.overflow_cast-result
overflow_cast-result c =
    let kept : c.self.inside.level_names ≡ map (level_names_in c.args.self.now.columns) c.args.self.now.hierarchies = c.self.invariant.levels_named ∙ ap (λ (k : Catalog). map (level_names_in k.columns) k.hierarchies) c.self.view_is in
    let own : c.in-Some.names.now ≡ level_names c.args.self.now c.args.h =
    some_kept c.args.self.now c.self.inside.level_names c.args.h c.in-Some.names.now kept (ap (slice_get c.self.inside.level_names) (sym c.h.view_is) ∙ sym c.get.ensures ∙ ap option_copied c.in-Some.is) in
    let long = ap length (c.as_slice.ensures ∙ own) in
    let within = c.in-Some-match_of.ensures.within in
    let few = subst (λ (k : Catalog). All (λ (x : Hierarchy). length x.levels ≤ LEVEL_LIMIT) k.hierarchies) c.self.view_is c.self.invariant.few_levels in
    let small = level_small c.args.self.now c.args.h c.in-Some-match_of.level few (level_within c.args.self.now c.args.h c.in-Some-match_of.level (omega (arith, long, within))) in
    omega (arith, small)
