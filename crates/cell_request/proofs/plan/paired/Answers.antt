-- What holds at each turn of `paired`.
use Rattle.std.proofs.Common.{◌∙◌, ◌++◌, map, sym, ap, take}
use Rattle.query_meaning.specs.Resolution.{pairs}
use Rattle.cell_request.proofs.PlanFacts.{pairs_more}
use Rattle.cell_request.proofs.plan.paired.Goals as goal

pub loop-first-preserved : goal.loop-first-preserved
loop-first-preserved c =
    c.in_ok-add_pairs.ensures
    ∙ ap (λ ts. ts ++ map (λ second. c.as_slice.result.now ++ second) c.args.seconds.now) c.loop-first.invariant
    ∙ ap (λ f. pairs (take c.loop-first.first-index c.args.firsts.now) c.args.seconds.now ++ map (λ second. f ++ second) c.args.seconds.now) c.as_slice.ensures
    ∙ sym (pairs_more c.args.firsts.now c.args.seconds.now c.loop-first.first-index c.first-item.result c.loop-first-test.true c.first-item.is)
