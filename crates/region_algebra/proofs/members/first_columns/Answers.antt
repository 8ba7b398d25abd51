-- What holds at each turn of `first_columns`.
use Rattle.std.proofs.Common.{arith}
use Rattle.region_algebra.proofs.MemberFacts.{columns_step}
use Rattle.region_algebra.proofs.members.first_columns.Goals as goal

pub loop-i-preserved : goal.loop-i-preserved
loop-i-preserved c =
    columns_step c.loop-i.columns.items c.push.new.self.items c.args.levels.now c.args.path.now c.loop-i.i c.index-levels-i.result c.index-path-i.result c.in_ok-one_value.field-0
    (omega (arith, c.loop-i-test.true, c.requires.levels)) (omega (arith, c.loop-i-test.true, c.requires.path)) c.index-levels-i.is c.index-path-i.is c.in_ok-one_value.ensures c.in_ok-push.ensures.items c.loop-i.invariant
