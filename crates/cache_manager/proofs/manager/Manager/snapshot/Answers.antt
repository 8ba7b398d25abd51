-- The snapshot of the present version has its rows, and batches of the cube.
use Rattle.std.proofs.Common.{◌≡◌, ℕ, subst, length, take}
use Rattle.olap_meaning.specs.History.{rows_of, version}
use Rattle.fact_reader.specs.BodyRows.{rows_in}
use Rattle.history_core.specs.Cache.{CacheOf}
use Rattle.cache_manager.proofs.Facts.{present}
use Rattle.cache_manager.proofs.manager.Manager.snapshot.Goals as goal

pub returns-clause-version : goal.returns-clause-version
returns-clause-version c =
    subst (λ (k : CacheOf). length c.in_ok-snapshot.snapshot ≡ version k.entries c.args.cube) c.self.view_is
    (present c.self.inside.history.setting c.self.inside.history.entries c.self.inside.facts c.self.invariant.facts_are c.args.cube c.in_ok-snapshot.snapshot c.version.result c.version.ensures c.in_ok-snapshot.ensures).0

pub returns-clause-rows : goal.returns-clause-rows
returns-clause-rows c =
    subst (λ (k : CacheOf). rows_in c.in_ok-snapshot.snapshot ≡ rows_of k.entries c.args.cube (version k.entries c.args.cube)) c.self.view_is
    (present c.self.inside.history.setting c.self.inside.history.entries c.self.inside.facts c.self.invariant.facts_are c.args.cube c.in_ok-snapshot.snapshot c.version.result c.version.ensures c.in_ok-snapshot.ensures).1

pub returns-clause-versions : goal.returns-clause-versions
returns-clause-versions c =
    subst (λ (k : CacheOf). (n : ℕ) → rows_in (take n c.in_ok-snapshot.snapshot) ≡ rows_of k.entries c.args.cube n) c.self.view_is
    (present c.self.inside.history.setting c.self.inside.history.entries c.self.inside.facts c.self.invariant.facts_are c.args.cube c.in_ok-snapshot.snapshot c.version.result c.version.ensures c.in_ok-snapshot.ensures).2
