-- That a measure's number is small, and what holds at each turn.
use Rattle.std.proofs.Common.{◌∙◌, [], ◌∷◌, ◌++◌, ap, arith, sym}
use Rattle.region_algebra.proofs.MemberFacts.{count_more, few_measures}
use Rattle.region_algebra.proofs.members.measures_of.Goals as goal

pub overflow_cast-i : goal.overflow_cast-i
overflow_cast-i c = omega (arith, few_measures c.args.catalog.now c.args.cube c.cube.result.now c.is_whole.ensures.schema c.is_whole.ensures.cubes c.cube.ensures, c.len-count.ensures)

pub loop-i-preserved : goal.loop-i-preserved
loop-i-preserved c =
    c.in_ok-push.ensures.ok
    ∙ ap (λ measures. measures ++ c.loop-i.i ∷ []) c.loop-i.invariant
    ∙ sym (count_more c.loop-i.i)
