-- That `fold_each` ensures what it says.
use Rattle.std.proofs.Common.{◌≡◌, ◌∙◌, ap, sym}
use Rattle.std.specs.Prelude.{IsTrue}
use Rattle.std.specs.List.{list_all}
use Rattle.olap_meaning.specs.Covering.{header_covers}
use Rattle.segment_body.specs.AllFolds.{FoldOf, TalliesOf}
use Rattle.cache_flush.specs.Loads.{kept_in}
use Rattle.rollup_plan.proofs.RollFacts.{next_fold, next_room, taken_more}
use Rattle.rollup_plan.proofs.rolls.fold_each.Goals as goal

pub fold_into-requires-clause-aggregator : goal.fold_into-requires-clause-aggregator
fold_into-requires-clause-aggregator g c =
    let kind = next_fold (g.S.Shelf.loads c.args.shelf.now) c.args.split (λ (fold : FoldOf). fold.body.aggregator ≡ c.args.tallies.now.aggregator) c.args.parts.now c.loop-i.i c.index-parts-i.result (kept_in (g.S.Shelf.flushed c.args.shelf.now) c.kept_load-kept.result.now) c.loop-i-test.true c.index-parts-i.is c.kept_load-kept.ensures c.requires.alike in
    kind ∙ sym (ap (λ (t : TalliesOf). t.aggregator) c.loop-i.invariant)

pub fold_into-requires-clause-covered : goal.fold_into-requires-clause-covered
fold_into-requires-clause-covered g c =
    rw c.loop-i.invariant
    (next_fold (g.S.Shelf.loads c.args.shelf.now) c.args.split (λ (fold : FoldOf). IsTrue (list_all (header_covers fold.body.header) c.args.tallies.now.cells)) c.args.parts.now c.loop-i.i c.index-parts-i.result (kept_in (g.S.Shelf.flushed c.args.shelf.now) c.kept_load-kept.result.now) c.loop-i-test.true c.index-parts-i.is c.kept_load-kept.ensures c.requires.covering)

pub fold_into-requires-clause-room : goal.fold_into-requires-clause-room
fold_into-requires-clause-room g c =
    rw c.loop-i.invariant
    (next_room (g.S.Shelf.loads c.args.shelf.now) c.args.split c.args.parts.now c.loop-i.i c.index-parts-i.result (kept_in (g.S.Shelf.flushed c.args.shelf.now) c.kept_load-kept.result.now) c.loop-i-test.true c.index-parts-i.is c.kept_load-kept.ensures c.args.tallies.now.folds c.args.tallies.now.cells c.requires.room)

pub loop-i-preserved : goal.loop-i-preserved
loop-i-preserved g c =
    taken_more (g.S.Shelf.loads c.args.shelf.now) c.args.split c.args.parts.now c.loop-i.i c.index-parts-i.result (kept_in (g.S.Shelf.flushed c.args.shelf.now) c.kept_load-kept.result.now) c.loop-i-test.true c.index-parts-i.is c.kept_load-kept.ensures c.args.tallies.now c.loop-i.tallies c.fold_into.new.tallies c.loop-i.invariant c.fold_into.ensures
