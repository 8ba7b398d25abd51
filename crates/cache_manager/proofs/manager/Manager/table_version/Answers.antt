-- The facts have as many batches of a cube as its version says.
use Rattle.std.proofs.Common.{◌≡◌, ◌∙◌, sym, subst}
use Rattle.olap_meaning.specs.History.{version}
use Rattle.history_core.specs.Cache.{CacheOf}
use Rattle.cache_manager.proofs.Facts.{version_held}
use Rattle.cache_manager.proofs.Installing.{cube_present}
use Rattle.cache_manager.proofs.manager.Manager.table_version.Goals as goal

pub returns : goal.returns
returns c =
    let present = cube_present c.args.self.now c.deref.result.now c.args.table c.cube_of.result (c.deref.ensures ∙ c.catalog.ensures) c.cube_of.ensures.cube in
    let held = version_held c.self.inside.history.setting c.self.inside.history.entries c.self.inside.facts c.self.invariant.facts_are c.cube_of.result in
    subst (λ (k : CacheOf). c.version.result ≡ version k.entries c.cube_of.result) c.self.view_is (c.version.ensures ∙ held) ∙ sym present
