-- That what joins regions of a cube is one of it, and names no members of levels.
use Rattle.std.proofs.lemmas.Result.{IfErr-weaker, IfOk-weaker}
use Rattle.query_meaning.specs.declared.region_text.Joins.TheVariants as joins
use Rattle.region_algebra.proofs.EndFacts.{joined_names}
use Rattle.region_algebra.proofs.OwnFacts.{joined_own}
use Rattle.region_algebra.proofs.flushes.joined.Goals as goal

pub returns-in-Crossjoin-clause-own : goal.returns-in-Crossjoin-clause-own
returns-in-Crossjoin-clause-own c = IfOk-weaker c.crossjoin_in.result _ _ (λ region is. joined_own c.args.catalog.now c.args.cube joins.Crossjoin c.args.parts region c.requires is) c.crossjoin_in.ensures.ok

pub returns-in-Crossjoin-clause-members : goal.returns-in-Crossjoin-clause-members
returns-in-Crossjoin-clause-members c = IfErr-weaker c.crossjoin_in.result _ _ (joined_names c.args.catalog.now c.args.cube joins.Crossjoin c.args.parts) c.crossjoin_in.ensures.fault

pub returns-in-Union-clause-own : goal.returns-in-Union-clause-own
returns-in-Union-clause-own c = IfOk-weaker c.union_in.result _ _ (λ region is. joined_own c.args.catalog.now c.args.cube joins.Union c.args.parts region c.requires is) c.union_in.ensures.ok

pub returns-in-Union-clause-members : goal.returns-in-Union-clause-members
returns-in-Union-clause-members c = IfErr-weaker c.union_in.result _ _ (joined_names c.args.catalog.now c.args.cube joins.Union c.args.parts) c.union_in.ensures.fault
