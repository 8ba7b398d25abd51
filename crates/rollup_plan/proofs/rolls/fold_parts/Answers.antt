-- That `fold_parts` ensures what it says.
use Rattle.std.proofs.Common.{◌≡◌, ◌∙◌, ap, sym}
use Rattle.measure_folds.specs.Tallied.{Tallied}
use Rattle.segment_body.specs.AllFolds.{FoldOf}
use Rattle.cache_flush.specs.Loads.{kept_in}
use Rattle.rollup_plan.proofs.RollFacts.{merge_room, merged, next_fold}
use Rattle.rollup_plan.proofs.rolls.fold_parts.Goals as goal

pub fold_within-part-requires-clause-adds_up : goal.fold_within-part-requires-clause-adds_up
fold_within-part-requires-clause-adds_up g c e =
    let kind = next_fold (g.S.Shelf.loads c.args.shelf.now) c.args.split (λ (fold : FoldOf). fold.body.aggregator ≡ c.args.aggregator) c.args.parts.now c.loop-i.i c.index-parts-i.result (kept_in (g.S.Shelf.flushed c.args.shelf.now) c.kept_load-kept.result.now) c.loop-i-test.true c.index-parts-i.is c.kept_load-kept.ensures c.requires.alike in
    c.requires.adds_up (sym kind ∙ e)

pub merge-requires-clause-one_aggregator : goal.merge-requires-clause-one_aggregator
merge-requires-clause-one_aggregator g c =
    let kind = next_fold (g.S.Shelf.loads c.args.shelf.now) c.args.split (λ (fold : FoldOf). fold.body.aggregator ≡ c.args.aggregator) c.args.parts.now c.loop-i.i c.index-parts-i.result (kept_in (g.S.Shelf.flushed c.args.shelf.now) c.kept_load-kept.result.now) c.loop-i-test.true c.index-parts-i.is c.kept_load-kept.ensures c.requires.alike in
    c.loop-i.invariant.alike ∙ sym kind ∙ sym c.fold_within-part.ensures.aggregator

pub merge-requires-clause-room : goal.merge-requires-clause-room
merge-requires-clause-room g c =
    merge_room c.args.cell.now (g.S.Shelf.loads c.args.shelf.now) c.args.split c.args.parts.now c.loop-i.i c.index-parts-i.result (kept_in (g.S.Shelf.flushed c.args.shelf.now) c.kept_load-kept.result.now) c.loop-i-test.true c.index-parts-i.is c.kept_load-kept.ensures
    c.loop-i.tally.values c.fold_within-part.result.values c.loop-i.invariant.rows c.fold_within-part.ensures.rows c.requires.room

pub loop-i-preserved : goal.loop-i-preserved
loop-i-preserved g c = record {
  alike = ap (λ (t : Tallied). t.aggregator) c.merge.ensures ∙ c.loop-i.invariant.alike;
  rows =
      merged c.args.cell.now (g.S.Shelf.loads c.args.shelf.now) c.args.split c.args.parts.now c.loop-i.i c.index-parts-i.result (kept_in (g.S.Shelf.flushed c.args.shelf.now) c.kept_load-kept.result.now) c.loop-i-test.true c.index-parts-i.is c.kept_load-kept.ensures
      c.loop-i.tally.values c.fold_within-part.result.values c.merge.new.self.values c.loop-i.invariant.rows c.fold_within-part.ensures.rows (ap (λ (t : Tallied). t.values) c.merge.ensures);
}
