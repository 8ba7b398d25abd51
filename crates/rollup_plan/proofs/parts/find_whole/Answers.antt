use Rattle.std.specs.Prelude.{Contains}
use Rattle.olap_meaning.specs.Rolled.{header_columns}
use Rattle.rollup_plan.proofs.ListFacts.{lent_at}
use Rattle.rollup_plan.proofs.parts.find_whole.Goals as goal

pub is_whole-requires : goal.is_whole-requires
is_whole-requires c = lent_at (λ one. Contains (header_columns one.body.header) c.args.split) c.args.kept.now c.loop-one.one-index c.one-item.result c.requires c.loop-one-test.true c.one-item.is
