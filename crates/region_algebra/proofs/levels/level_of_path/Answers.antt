-- That `level_of_path` asks for a level of the hierarchy, and gives its members.
use Rattle.std.proofs.Common.{◌≡◌, ◌∙◌, suc, ap, arith, length}
use Rattle.std.proofs.lemmas.Result.{IfOk-weaker}
use Rattle.olap_meaning.specs.Catalog.{members_with, paths_at}
use Rattle.olap_meaning.specs.MemberOf.{level_columns}
use Rattle.region_algebra.proofs.LevelFacts.{path_within}
use Rattle.region_algebra.proofs.levels.level_of_path.Goals as goal

pub level_members-requires-clause-level : goal.level_members-requires-clause-level
level_members-requires-clause-level c = (c.requires.own.0, omega (arith, path_within c.args.catalog.now (level_columns c.args.catalog.now c.args.h) c.args.path.now c.requires.own.1, c.last_level-level.ensures))

pub returns-clause-members : goal.returns-clause-members
returns-clause-members c =
    let same : suc c.last_level-level.result ≡ length c.args.path.now = omega (arith, c.last_level-level.ensures) in
    IfOk-weaker c.level_members.result _ _ (λ members is. is ∙ ap (λ n. members_with c.args.catalog.now c.args.h (λ hierarchy. paths_at c.args.catalog.now hierarchy n)) same) c.level_members.ensures.members
