-- What is built from a version is the cache's own, over the rows of this.
use Rattle.std.proofs.Common.{◌≡◌, ◌∙◌, ◌≤◌, Some, ap, sym, subst, arith}
use Rattle.olap_meaning.specs.declared.tables.Catalog.{Catalog}
use Rattle.olap_meaning.specs.Catalog.{table_cube}
use Rattle.olap_meaning.specs.History.{version}
use Rattle.fact_reader.specs.BodyRows.{are_batches}
use Rattle.history_core.specs.Cache.{CacheOf}
use Rattle.cache_manager.proofs.Facts.{version_held}
use Rattle.cache_manager.proofs.Installing.{built_made, cube_present, is_earlier, rows_made}
use Rattle.cache_manager.proofs.manager.Manager.build.Goals as goal

pub snapshot-requires-clause-reached : goal.snapshot-requires-clause-reached
snapshot-requires-clause-reached g c =
    let present = cube_present c.args.self.now c.deref.result.now c.args.table c.cube_of-cube.result (c.deref.ensures ∙ c.catalog.ensures) c.cube_of-cube.ensures.cube in
    let here = subst (λ (k : CacheOf). c.args.version ≤ version k.entries c.cube_of-cube.result) (sym c.self.view_is) (omega (arith, present, c.requires.reached)) in
    omega (arith, here, version_held c.self.inside.history.setting c.self.inside.history.entries c.self.inside.facts c.self.invariant.facts_are c.cube_of-cube.result)

pub build-requires-clause-fit : goal.build-requires-clause-fit
build-requires-clause-fit g c =
    let whole = c.deref-2.ensures ∙ c.catalog-2.ensures in
    let known : table_cube c.deref-2.result.now c.args.table ≡ Some c.cube_of-cube.result = ap (λ (k : Catalog). table_cube k c.args.table) (whole ∙ sym (c.deref.ensures ∙ c.catalog.ensures)) ∙ c.cube_of-cube.ensures.cube in
    let is = is_earlier c.args.self.now c.self.inside.history c.self.inside.facts c.deref.result.now c.args.table c.cube_of-cube.result c.args.version c.in_ok-snapshot.snapshot c.self.view_is c.self.invariant.facts_are (c.deref.ensures ∙ c.catalog.ensures) c.cube_of-cube.ensures.cube c.requires.reached c.in_ok-snapshot.ensures in
    rw known (ap (λ (k : Catalog). are_batches k c.cube_of-cube.result c.in_ok-snapshot.snapshot) whole ∙ is.fit)

pub returns-clause-own : goal.returns-clause-own
returns-clause-own g c =
    let is = is_earlier c.args.self.now c.self.inside.history c.self.inside.facts c.deref.result.now c.args.table c.cube_of-cube.result c.args.version c.in_ok-snapshot.snapshot c.self.view_is c.self.invariant.facts_are (c.deref.ensures ∙ c.catalog.ensures) c.cube_of-cube.ensures.cube c.requires.reached c.in_ok-snapshot.ensures in
    (built_made c.args.self.now c.deref-2.result.now c.args.table c.cube_of-cube.result c.args.version c.in_ok-snapshot.snapshot c.in_ok-made.made (c.deref-2.ensures ∙ c.catalog-2.ensures) is.known is.reached is.many is.rows c.in_ok-made.ensures.table).own

pub returns-clause-table : goal.returns-clause-table
returns-clause-table g c =
    let is = is_earlier c.args.self.now c.self.inside.history c.self.inside.facts c.deref.result.now c.args.table c.cube_of-cube.result c.args.version c.in_ok-snapshot.snapshot c.self.view_is c.self.invariant.facts_are (c.deref.ensures ∙ c.catalog.ensures) c.cube_of-cube.ensures.cube c.requires.reached c.in_ok-snapshot.ensures in
    (built_made c.args.self.now c.deref-2.result.now c.args.table c.cube_of-cube.result c.args.version c.in_ok-snapshot.snapshot c.in_ok-made.made (c.deref-2.ensures ∙ c.catalog-2.ensures) is.known is.reached is.many is.rows c.in_ok-made.ensures.table).place

pub returns-clause-version : goal.returns-clause-version
returns-clause-version g c =
    let is = is_earlier c.args.self.now c.self.inside.history c.self.inside.facts c.deref.result.now c.args.table c.cube_of-cube.result c.args.version c.in_ok-snapshot.snapshot c.self.view_is c.self.invariant.facts_are (c.deref.ensures ∙ c.catalog.ensures) c.cube_of-cube.ensures.cube c.requires.reached c.in_ok-snapshot.ensures in
    (built_made c.args.self.now c.deref-2.result.now c.args.table c.cube_of-cube.result c.args.version c.in_ok-snapshot.snapshot c.in_ok-made.made (c.deref-2.ensures ∙ c.catalog-2.ensures) is.known is.reached is.many is.rows c.in_ok-made.ensures.table).version_is

pub returns-clause-cost : goal.returns-clause-cost
returns-clause-cost g c =
    let is = is_earlier c.args.self.now c.self.inside.history c.self.inside.facts c.deref.result.now c.args.table c.cube_of-cube.result c.args.version c.in_ok-snapshot.snapshot c.self.view_is c.self.invariant.facts_are (c.deref.ensures ∙ c.catalog.ensures) c.cube_of-cube.ensures.cube c.requires.reached c.in_ok-snapshot.ensures in
    omega (arith, c.in_ok-made.ensures.cost, rows_made c.args.self.now c.args.table c.cube_of-cube.result c.args.version c.in_ok-snapshot.snapshot is.known is.rows)

pub returns-clause-at_most : goal.returns-clause-at_most
returns-clause-at_most g c =
    let is = is_earlier c.args.self.now c.self.inside.history c.self.inside.facts c.deref.result.now c.args.table c.cube_of-cube.result c.args.version c.in_ok-snapshot.snapshot c.self.view_is c.self.invariant.facts_are (c.deref.ensures ∙ c.catalog.ensures) c.cube_of-cube.ensures.cube c.requires.reached c.in_ok-snapshot.ensures in
    omega (arith, c.in_ok-made.ensures.at_most, rows_made c.args.self.now c.args.table c.cube_of-cube.result c.args.version c.in_ok-snapshot.snapshot is.known is.rows)

pub returns-in_err-made-clause-at_most : goal.returns-in_err-made-clause-at_most
returns-in_err-made-clause-at_most g c =
    let is = is_earlier c.args.self.now c.self.inside.history c.self.inside.facts c.deref.result.now c.args.table c.cube_of-cube.result c.args.version c.in_ok-snapshot.snapshot c.self.view_is c.self.invariant.facts_are (c.deref.ensures ∙ c.catalog.ensures) c.cube_of-cube.ensures.cube c.requires.reached c.in_ok-snapshot.ensures in
    omega (arith, c.build.ensures.at_most, rows_made c.args.self.now c.args.table c.cube_of-cube.result c.args.version c.in_ok-snapshot.snapshot is.known is.rows)
