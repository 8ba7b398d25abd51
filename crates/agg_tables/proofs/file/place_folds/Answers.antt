-- That `place_folds` keeps what holds at each turn.
use Rattle.std.proofs.Common.{◌≡◌, true}
use Rattle.segment_header.proofs.RiseFacts.{all_at}
use Rattle.agg_tables.specs.declared.declared.FileColumn.{FileColumn}
use Rattle.agg_tables.proofs.PlaceFacts.{kept_all, kept_own, kept_summed, summed_next}
use Rattle.agg_tables.proofs.file.place_folds.Goals as goal

pub loop-column-preserved : goal.loop-column-preserved
loop-column-preserved c =
    let old = c.loop-column.folds.items in
    let new = c.place_fold.new.folds.items in
    let column = c.column-item.result in
    let i = c.loop-column.column-index in
    record {
      summed = rw c.in_ok-push.ensures.items (summed_next new c.args.columns.now c.loop-column.places.items i c.in_ok-place_fold.field-0 column c.loop-column-test.true c.column-item.is
          (kept_summed old new column.fold _ c.loop-column.places.items c.in_ok-place_fold.ensures.more c.loop-column.invariant.summed) c.in_ok-place_fold.ensures.at);
      own = kept_own old new c.args.folds.now.items column.fold c.in_ok-place_fold.ensures.more c.loop-column.invariant.own;
      more = λ test had each.
          let here : test column.fold ≡ true = rw c.column-item.is (all_at (λ (own : FileColumn). test own.fold) c.args.columns.now i column each c.loop-column-test.true) in
          kept_all test old new column.fold c.in_ok-place_fold.ensures.more (c.loop-column.invariant.more test had each) here;
    }
