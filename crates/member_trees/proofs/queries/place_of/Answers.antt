use Rattle.std.proofs.Common.{arith, sym, ◌∙◌}
use Rattle.member_trees.proofs.Steps.{place-more}
use Rattle.member_trees.proofs.queries.place_of.Goals as goal

pub loop-place-preserved : goal.loop-place-preserved
loop-place-preserved c =
    place-more c.args.row.now c.args.span.start c.loop-place.place c.args.value c.index-row-place.result (omega arith) c.loop-place.invariant (sym c.eq.ensures ∙ c.if-eq.false)
