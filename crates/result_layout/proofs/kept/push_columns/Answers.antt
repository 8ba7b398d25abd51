-- That `push_columns` keeps what holds at each turn.
use Rattle.std.proofs.Common.{codes}
use Rattle.result_layout.specs.CacheTexts.{allowance_text}
use Rattle.result_layout.proofs.KeptFacts.{others_more}
use Rattle.result_layout.proofs.kept.push_columns.Goals as goal

pub loop-column-preserved : goal.loop-column-preserved
loop-column-preserved c =
    others_more (codes " ") (allowance_text c.args.catalog.now) c.in-Some.others.now c.loop-column.column-index c.column-item.result _ _ _ _ c.loop-column-test.true c.column-item.is c.loop-column.invariant
    c.in_ok-push_str.ensures.bytes c.in_ok-push_column-2.ensures
