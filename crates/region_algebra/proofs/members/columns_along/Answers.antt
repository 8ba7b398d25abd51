-- That `columns_along` gives each column one value of the path.
use Rattle.std.proofs.Common.{◌∙◌, ◌-◌, arith}
use Rattle.region_algebra.proofs.MemberFacts.{columns_all, columns_none}
use Rattle.region_algebra.proofs.members.columns_along.Goals as goal

pub returns-then-count-eq0 : goal.returns-then-count-eq0
returns-then-count-eq0 c = c.new.ensures ∙ columns_none c.args.levels.now c.args.path (omega (arith, c.if-count-eq0.true, c.min-count.ensures, c.len.ensures))

pub returns : goal.returns
returns c =
    c.from_vec.ensures
    ∙ columns_all c.in_ok-columns.columns.items c.push.new.self.items c.args.levels.now c.args.path c.as_slice-2.result.now c.as_slice.result.now (c.min-count.result - 1) c.index-levels-last.result c.index-as_slice-last.result c.in_ok-value_instead.field-0
    (omega (arith, c.if-count-eq0.false, c.min-count.ensures, c.len.ensures)) c.as_slice-2.ensures c.as_slice.ensures c.index-levels-last.is c.index-as_slice-last.is c.in_ok-value_instead.ensures c.in_ok-push.ensures.items c.in_ok-columns.ensures
