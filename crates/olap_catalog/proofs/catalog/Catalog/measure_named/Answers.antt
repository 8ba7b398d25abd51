-- That `measure_named` ensures `err` and `ok` and stays within its numbers.
use Rattle.std.proofs.Common.{◌≡◌, ◌∙◌, ◌<◌, ap, sym, map, length, get_or, arith, true}
use Rattle.std.specs.List.{list_all}
use Rattle.olap_meaning.specs.declared.tables.Catalog.{Catalog}
use Rattle.olap_meaning.specs.Catalog.{match_of}
use Rattle.olap_catalog.specs.Parts.{has_few_measures}
use Rattle.olap_catalog.specs.Roots.{measure_names}
use Rattle.olap_catalog.proofs.MeasureFacts.{has_measures, without_measures, first_measure, no_such_measure, this_measure, below_measure, measure_fits}
use Rattle.olap_catalog.proofs.catalog.Catalog.measure_named.Goals as goal

pub returns-then-is_empty-clause-err : goal.returns-then-is_empty-clause-err
returns-then-is_empty-clause-err c =
    let within : c.args.cube < length c.args.self.now.cubes = c.requires.known in
    let kept : c.self.inside.measure_names ≡ map measure_names c.args.self.now.cubes = c.self.invariant.measures_named ∙ ap (λ (k : Catalog). map measure_names k.cubes) c.self.view_is in
    let at : c.index-as_slice-cube.result ≡ get_or c.self.inside.measure_names c.args.cube c.index-as_slice-cube.result =
    c.index-as_slice-cube.is ∙ ap (λ xs. get_or xs c.cube.inside.0 c.index-as_slice-cube.result) c.as_slice.ensures ∙ ap (λ n. get_or c.self.inside.measure_names n c.index-as_slice-cube.result) c.cube.view_is in
    let has = has_measures c.args.self.now c.self.inside.measure_names c.args.cube c.index-as_slice-cube.result kept within at in
    without_measures c.args.self.now c.args.cube c.args.path.now c.index-path-0.result c.unknown.result c.index-as_slice-cube.result has c.requires.named c.index-path-0.is (sym c.is_empty.ensures ∙ c.if-is_empty.true) c.unknown.ensures

pub returns-then-path-eq1-clause-ok : goal.returns-then-path-eq1-clause-ok
returns-then-path-eq1-clause-ok c =
    let within : c.args.cube < length c.args.self.now.cubes = c.requires.known in
    let kept : c.self.inside.measure_names ≡ map measure_names c.args.self.now.cubes = c.self.invariant.measures_named ∙ ap (λ (k : Catalog). map measure_names k.cubes) c.self.view_is in
    let at : c.index-as_slice-cube.result ≡ get_or c.self.inside.measure_names c.args.cube c.index-as_slice-cube.result =
    c.index-as_slice-cube.is ∙ ap (λ xs. get_or xs c.cube.inside.0 c.index-as_slice-cube.result) c.as_slice.ensures ∙ ap (λ n. get_or c.self.inside.measure_names n c.index-as_slice-cube.result) c.cube.view_is in
    let has = has_measures c.args.self.now c.self.inside.measure_names c.args.cube c.index-as_slice-cube.result kept within at in
    first_measure c.args.self.now c.args.cube c.args.path.now c.index-as_slice-cube.result has c.requires.named (sym c.is_empty.ensures ∙ c.if-is_empty.false) c.if-path-eq1.true

pub returns-then-path-gt2-clause-err : goal.returns-then-path-gt2-clause-err
returns-then-path-gt2-clause-err c =
    let within : c.args.cube < length c.args.self.now.cubes = c.requires.known in
    let kept : c.self.inside.measure_names ≡ map measure_names c.args.self.now.cubes = c.self.invariant.measures_named ∙ ap (λ (k : Catalog). map measure_names k.cubes) c.self.view_is in
    let at : c.index-as_slice-cube.result ≡ get_or c.self.inside.measure_names c.args.cube c.index-as_slice-cube.result =
    c.index-as_slice-cube.is ∙ ap (λ xs. get_or xs c.cube.inside.0 c.index-as_slice-cube.result) c.as_slice.ensures ∙ ap (λ n. get_or c.self.inside.measure_names n c.index-as_slice-cube.result) c.cube.view_is in
    let has = has_measures c.args.self.now c.self.inside.measure_names c.args.cube c.index-as_slice-cube.result kept within at in
    below_measure c.args.self.now c.args.cube c.args.path.now c.index-path-1.result c.index-path-2.result c.unknown-then-path-gt2.result c.index-as_slice-cube.result has c.match_of.result c.in-Some.measure (sym c.is_empty.ensures ∙ c.if-is_empty.false) c.index-path-1.is
    (c.match_of.ensures.matched ∙ ap (λ n. match_of n c.as_slice-2.result.now) c.as_str.ensures ∙ ap (match_of c.index-path-1.result) c.as_slice-2.ensures) c.in-Some.is (rw c.as_slice-2.ensures at c.in-Some.ensures.within) c.if-path-gt2.true c.index-path-2.is c.unknown-then-path-gt2.ensures

pub overflow_cast-result : goal.overflow_cast-result
overflow_cast-result c =
    let within : c.args.cube < length c.args.self.now.cubes = c.requires.known in
    let kept : c.self.inside.measure_names ≡ map measure_names c.args.self.now.cubes = c.self.invariant.measures_named ∙ ap (λ (k : Catalog). map measure_names k.cubes) c.self.view_is in
    let at : c.index-as_slice-cube.result ≡ get_or c.self.inside.measure_names c.args.cube c.index-as_slice-cube.result =
    c.index-as_slice-cube.is ∙ ap (λ xs. get_or xs c.cube.inside.0 c.index-as_slice-cube.result) c.as_slice.ensures ∙ ap (λ n. get_or c.self.inside.measure_names n c.index-as_slice-cube.result) c.cube.view_is in
    let has = has_measures c.args.self.now c.self.inside.measure_names c.args.cube c.index-as_slice-cube.result kept within at in
    let few : list_all has_few_measures c.args.self.now.cubes ≡ true = sym (ap (λ (k : Catalog). list_all has_few_measures k.cubes) c.self.view_is) ∙ c.self.invariant.few_measures in
    let fits = measure_fits c.args.self.now c.args.cube c.index-as_slice-cube.result has c.in-Some.measure few (rw c.as_slice-2.ensures at c.in-Some.ensures.within) in
    omega (arith, fits)

pub returns-in-None-clause-err : goal.returns-in-None-clause-err
returns-in-None-clause-err c =
    let within : c.args.cube < length c.args.self.now.cubes = c.requires.known in
    let kept : c.self.inside.measure_names ≡ map measure_names c.args.self.now.cubes = c.self.invariant.measures_named ∙ ap (λ (k : Catalog). map measure_names k.cubes) c.self.view_is in
    let at : c.index-as_slice-cube.result ≡ get_or c.self.inside.measure_names c.args.cube c.index-as_slice-cube.result =
    c.index-as_slice-cube.is ∙ ap (λ xs. get_or xs c.cube.inside.0 c.index-as_slice-cube.result) c.as_slice.ensures ∙ ap (λ n. get_or c.self.inside.measure_names n c.index-as_slice-cube.result) c.cube.view_is in
    let has = has_measures c.args.self.now c.self.inside.measure_names c.args.cube c.index-as_slice-cube.result kept within at in
    no_such_measure c.args.self.now c.args.cube c.args.path.now c.index-path-1.result c.unknown-in-None.result c.index-as_slice-cube.result has c.match_of.result (sym c.is_empty.ensures ∙ c.if-is_empty.false) (omega (arith, c.requires.named, c.if-path-eq1.false)) c.index-path-1.is
    (c.match_of.ensures.matched ∙ ap (λ n. match_of n c.as_slice-2.result.now) c.as_str.ensures ∙ ap (match_of c.index-path-1.result) c.as_slice-2.ensures) c.in-None.is c.unknown-in-None.ensures

pub returns-else-path-gt2-clause-ok : goal.returns-else-path-gt2-clause-ok
returns-else-path-gt2-clause-ok c =
    let within : c.args.cube < length c.args.self.now.cubes = c.requires.known in
    let kept : c.self.inside.measure_names ≡ map measure_names c.args.self.now.cubes = c.self.invariant.measures_named ∙ ap (λ (k : Catalog). map measure_names k.cubes) c.self.view_is in
    let at : c.index-as_slice-cube.result ≡ get_or c.self.inside.measure_names c.args.cube c.index-as_slice-cube.result =
    c.index-as_slice-cube.is ∙ ap (λ xs. get_or xs c.cube.inside.0 c.index-as_slice-cube.result) c.as_slice.ensures ∙ ap (λ n. get_or c.self.inside.measure_names n c.index-as_slice-cube.result) c.cube.view_is in
    let has = has_measures c.args.self.now c.self.inside.measure_names c.args.cube c.index-as_slice-cube.result kept within at in
    this_measure c.args.self.now c.args.cube c.args.path.now c.index-path-1.result c.index-as_slice-cube.result has c.match_of.result c.in-Some.measure (sym c.is_empty.ensures ∙ c.if-is_empty.false) (omega (arith, c.requires.named, c.if-path-eq1.false)) c.index-path-1.is
    (c.match_of.ensures.matched ∙ ap (λ n. match_of n c.as_slice-2.result.now) c.as_str.ensures ∙ ap (match_of c.index-path-1.result) c.as_slice-2.ensures) c.in-Some.is (rw c.as_slice-2.ensures at c.in-Some.ensures.within) c.if-path-gt2.false
